use Rattle.std.proofs.Common.{◌≡◌, ◌∙◌, ◌<◌, ◌+◌, ◌++◌, ◌∷◌, ℕ, List, length, get_or, drop, sym, ap, arith}
use Rattle.std.proofs.Common.{append_assoc, add-one}
use Rattle.std.proofs.lemmas.List.{append-nil, drop_all, drop_more}
use Rattle.std.proofs.lemmas.Result.{IfOk-from_err}
use Rattle.desk_types.specs.declared.command.Entry.{Entry}
use Rattle.desk_types.specs.declared.packet.Message.{Message}
use Rattle.desk_types.specs.declared.packet.Message.TheVariants.{Prepare}
use Rattle.desk_log.specs.Change.{to_others}
use Rattle.desk_log.specs.SavedValue.{SavedValue}
use Rattle.desk_normal.specs.Rules.{prepare_packets}
use Rattle.desk_normal.proofs.resend.push_prepares.Goals as goal

-- the packets that were put, and those of the entries that are left, after one entry more
one_more : (i n : ℕ) (s : SavedValue) (place k : ℕ) (es : List Entry) (e : Entry) (old new all : List (ℕ × Message)) →
    k < length es → e ≡ get_or es k e → new ≡ old ++ to_others i n (Prepare i s.view place s.commit e) →
    old ++ prepare_packets i n s place (drop k es) ≡ all →
    new ++ prepare_packets i n s (place + 1) (drop (k + 1) es) ≡ all
one_more i n s place k es e old new all lt item new_is so_far =
    let sent = to_others i n (Prepare i s.view place s.commit e) in let left = drop (k + 1) es in
    let step = ap (prepare_packets i n s place)
    (drop_more es k e lt ∙ ap (λ (x : Entry). x ∷ left) (sym item))
    ∙ ap (λ p. sent ++ prepare_packets i n s p left) (sym (add-one place)) in
    ap (λ (ps : List (ℕ × Message)). ps ++ prepare_packets i n s (place + 1) left) new_is
    ∙ append_assoc old sent (prepare_packets i n s (place + 1) left)
    ∙ ap (λ (ps : List (ℕ × Message)). old ++ ps) (sym step) ∙ so_far

pub loop-entry-preserved : goal.loop-entry-preserved
loop-entry-preserved c =
    let so_far = c.loop-entry.invariant in record {
      place_is = omega (arith, so_far.place_is);
      so_far = one_more _ _ c.args.saved.now _ _ _ c.entry-item.result _ _ _ c.loop-entry-test.true c.entry-item.is
          c.in_ok-push_prepare.ensures so_far.so_far;
    }

pub returns-in_err-push_prepare : goal.returns-in_err-push_prepare
returns-in_err-push_prepare c = IfOk-from_err _ _ c.from_residual.ensures.0

pub returns : goal.returns
returns c =
    let packets = c.loop-entry.packets.items in let m = c.args.member in
    sym (ap (λ (es : List Entry). packets ++ prepare_packets m.id m.n c.args.saved.now c.loop-entry.place es)
    (drop_all c.loop-entry.entry-index c.args.entries.now c.loop-entry-test.false) ∙ append-nil packets)
    ∙ c.loop-entry.invariant.so_far
