use Rattle.std.proofs.Common.{◌≡◌, ◌∙◌, ◌+◌, ◌∷◌, ℕ, List, Option, ap, length, drop, slice_index_or, arith}
use Rattle.std.proofs.Common.{Bool, is_some, cond, sym}
use Rattle.std.proofs.lemmas.List.{drop_more, drop_all}
use Rattle.desk_incidents.specs.declared.incident.Linked.{Linked}
use Rattle.desk_incidents.specs.LinkTable.{live_places}
use Rattle.desk_incidents.proofs.LivePlaces.{count-live}
use Rattle.desk_incidents.proofs.link_table.live_count.Goals as goal
use Rattle.desk_incidents.proofs.link_table.live_count.Goals.{then-is_some, else-is_some}

pub overflow_add-count : goal.overflow_add-count
overflow_add-count c = omega (arith, c.loop-place.invariant.most, c.loop-place-test.true)

pub loop-place-init : goal.loop-place-init
loop-place-init c = record { counted = omega arith; most = omega arith }

pub loop-place-preserved : goal.loop-place-preserved
loop-place-preserved c =
    let place : ℕ = slice_index_or c.args.among.now c.loop-place.place-index 0 in
    let rest : List ℕ = drop (c.loop-place.place-index + 1) c.args.among.now in
    let more : length (live_places c.args.slots.now (drop c.loop-place.place-index c.args.among.now))
    ≡ cond {A = ℕ} c.is_some.result 1 0 + length (live_places c.args.slots.now rest) =
    ap (λ (ks : List ℕ). length (live_places c.args.slots.now ks))
    (drop_more c.args.among.now c.loop-place.place-index 0 (omega (arith, c.loop-place-test.true)))
    ∙ count-live (c.is_some.result) place c.args.slots.now rest
    (sym (c.is_some.ensures ∙ ap (λ (o : Option Linked). is_some o) c.link_in.ensures)) in
    elim c.if-is_some.branch [
      | then-is_some w ↦
          let one : cond {A = ℕ} c.is_some.result 1 0 ≡ 1 =
          ap (λ (t : Bool). cond {A = ℕ} t 1 0) w.if-is_some.true in
          record {
            counted = omega (arith, w.count-is, one, more, c.loop-place.invariant.counted);
            most = omega (arith, w.count-is, c.loop-place.invariant.most);
          }
      | else-is_some w ↦
          let none : cond {A = ℕ} c.is_some.result 1 0 ≡ 0 =
          ap (λ (t : Bool). cond {A = ℕ} t 1 0) w.if-is_some.false in
          record {
            counted = omega (arith, w.count-is, none, more, c.loop-place.invariant.counted);
            most = omega (arith, w.count-is, c.loop-place.invariant.most);
          }
    ]

pub returns-clause-count : goal.returns-clause-count
returns-clause-count c =
    let none : length (live_places c.args.slots.now (drop c.loop-place.place-index c.args.among.now)) ≡ 0 =
    ap (λ (ks : List ℕ). length (live_places c.args.slots.now ks))
    (drop_all c.loop-place.place-index c.args.among.now (omega (arith, c.loop-place-test.false))) in
    omega (arith, none, c.loop-place.invariant.counted)

pub returns-clause-most : goal.returns-clause-most
returns-clause-most c = omega (arith, c.loop-place.invariant.most, c.loop-place.auto.place-index-end)
