use Rattle.std.proofs.Common.{◌≡◌, ◌∙◌, ◌+◌, ◌∷◌, ◌&&◌, ◌==◌, ℕ, List, Bool, Option, false, cond, drop}
use Rattle.std.proofs.Common.{slice_index_or, refl, sym, ap, arith}
use Rattle.std.specs.List.{list_any}
use Rattle.std.proofs.lemmas.List.{drop_more, drop_all}
use Rattle.desk_incidents.specs.declared.incident.Linked.{Linked}
use Rattle.desk_incidents.specs.EndSets.{has_end}
use Rattle.desk_incidents.specs.LinkTable.{touches}
use Rattle.desk_index.specs.Slots.{passes, standing}
use Rattle.desk_incidents.proofs.EndChanges.{taken_more, taken_none}
use Rattle.desk_incidents.proofs.link_table.forget_all.Goals as goal

pub loop-place-init : goal.loop-place-init
loop-place-init c = record { ends = λ n m. refl; preserved = λ n. refl }

pub loop-place-preserved : goal.loop-place-preserved
loop-place-preserved c =
    let place : ℕ = slice_index_or c.args.among.now c.loop-place.place-index 0 in
    let rest : List ℕ = drop (c.loop-place.place-index + 1) c.args.among.now in
    let first : drop c.loop-place.place-index c.args.among.now ≡ place ∷ rest =
    drop_more c.args.among.now c.loop-place.place-index 0 (omega (arith, c.loop-place-test.true)) in
    record {
      ends = λ n m.
          ap (λ (t : Bool). cond ((c.args.number == m)
          && list_any (λ k. passes (touches n) (standing c.args.slots.now k)) rest) false t)
          (c.forget_at.ensures.ends n m
          ∙ ap (λ (o : Option Linked). cond ((c.args.number == m) && passes (touches n) o) false
          (has_end n m c.loop-place.sets.sets.entries)) c.link_in.ensures)
          ∙ taken_more (c.args.number == m) (passes (touches n) (standing c.args.slots.now place))
          (list_any (λ k. passes (touches n) (standing c.args.slots.now k)) rest)
          (has_end n m c.loop-place.sets.sets.entries)
          ∙ sym (ap (λ (ks : List ℕ). cond ((c.args.number == m)
          && list_any (λ k. passes (touches n) (standing c.args.slots.now k)) ks) false
          (has_end n m c.loop-place.sets.sets.entries)) first)
          ∙ c.loop-place.invariant.ends n m;
      preserved = λ n. c.forget_at.ensures.preserved n ∙ c.loop-place.invariant.preserved n;
    }

pub returns-clause-ends : goal.returns-clause-ends
returns-clause-ends c n m =
    sym (taken_none (c.args.number == m) (has_end n m c.loop-place.sets.sets.entries))
    ∙ sym (ap (λ (ks : List ℕ). cond ((c.args.number == m)
    && list_any (λ k. passes (touches n) (standing c.args.slots.now k)) ks) false
    (has_end n m c.loop-place.sets.sets.entries))
    (drop_all c.loop-place.place-index c.args.among.now (omega (arith, c.loop-place-test.false))))
    ∙ c.loop-place.invariant.ends n m

pub returns-clause-preserved : goal.returns-clause-preserved
returns-clause-preserved c n = c.loop-place.invariant.preserved n
