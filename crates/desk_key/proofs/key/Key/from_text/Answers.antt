use Rattle.std.proofs.Common.{◌≡◌, length, take, drop, min, true, refl, sym, ap, ◌∙◌}
use Rattle.std.proofs.lemmas.List.{take_min, drop_min}
use Rattle.std.specs.List.{list_all}
use Rattle.hex.specs.Hex.{decode_sized}
use Rattle.desk_key.specs.KeyText.{is_blank}
use Rattle.desk_key.proofs.key.Key.from_text.Goals as goal

pub returns-in-None-clause-text : goal.returns-in-None-clause-text
returns-in-None-clause-text c = λ _ bytes h.
    let text = c.args.text.now in
    let cut : c.min.result ≡ min 64 (length c.args.text.now) = c.min.ensures in
    let digits : c.split_at.result.0.now ≡ take 64 c.args.text.now =
    c.split_at.ensures.front ∙ ap (λ n. take n text) cut ∙ take_min 64 text in
    c.in-None.ensures.none refl bytes (ap (λ l. decode_sized l 32) digits ∙ h.digits)

pub returns-in-Some-2-clause-ok : goal.returns-in-Some-2-clause-ok
returns-in-Some-2-clause-ok c =
    let text = c.args.text.now in
    let cut : c.min.result ≡ min 64 (length c.args.text.now) = c.min.ensures in
    let digits : c.split_at.result.0.now ≡ take 64 c.args.text.now =
    c.split_at.ensures.front ∙ ap (λ n. take n text) cut ∙ take_min 64 text in
    let rest : c.split_at.result.1.now ≡ drop 64 c.args.text.now =
    c.split_at.ensures.back ∙ ap (λ n. drop n text) cut ∙ drop_min 64 text in
    record {
      digits = ap (λ l. decode_sized l 32) (sym digits) ∙ c.in-Some.ensures.value;
      rest = ap (list_all is_blank) (sym rest) ∙ sym c.are_blank.ensures ∙ c.if-not-are_blank.false;
    }
