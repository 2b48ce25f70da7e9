use Rattle.std.proofs.Common.{[], ◌∷◌, ◌++◌, ap, ◌∙◌}
use Rattle.std.specs.Int.{w64}
use Rattle.std.proofs.lemmas.Int.{to_z-of_z}
use Rattle.desk_types.specs.Numbers.{verb_number}
use Rattle.desk_codec.specs.Ranges.{FitsSeconds}
use Rattle.desk_codec.specs.Spelling.{seconds}
use Rattle.desk_codec.proofs.Growing.{put_after}
use Rattle.desk_codec.proofs.Putting.{put_same, fits_seconds, fits_yet, grows_later, was_refused, holds_refused}
use Rattle.desk_codec.proofs.push_body.push_verb.Goals as goal

pub returns-clause-spelling : goal.returns-clause-spelling
returns-clause-spelling c =
    let before = c.args.out.now.items in
    let between = c.push_byte.new.out.items in
    let out = c.push_bytes.new.out.items in
    let result = c.push_bytes.result in
    put_after result before between out (verb_number c.args.verb ∷ []) (seconds c.args.at)
    (c.in_ok-push_byte.ensures.spelling ∙ ap (λ n. before ++ n ∷ []) c.number.ensures)
    (put_same result between out _ (seconds c.args.at)
    (c.to_be_bytes.ensures ∙ ap seconds (to_z-of_z w64 c.args.at c.ranges.at)) c.push_bytes.ensures.spelling)

pub returns-clause-fits : goal.returns-clause-fits
returns-clause-fits c =
    fits_yet c.push_bytes.result (FitsSeconds c.args.at) (fits_seconds c.args.at c.ranges.at)

pub returns-clause-err : goal.returns-clause-err
returns-clause-err c =
    grows_later c.push_bytes.result c.args.out.now.items c.push_byte.new.out.items c.push_bytes.new.out.items _
    c.in_ok-push_byte.ensures.spelling c.push_bytes.ensures.err

pub returns-in_err-push_byte : goal.returns-in_err-push_byte
returns-in_err-push_byte c =
    let result = c.from_residual.result in
    let refused = c.from_residual.ensures.0 in
    record {
      spelling = was_refused result _ refused;
      fits = was_refused result _ refused;
      err = holds_refused result _ c.in_err-push_byte.ensures.err;
    }
