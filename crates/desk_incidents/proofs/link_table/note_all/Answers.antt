use Rattle.std.proofs.Common.{◌≡◌, ◌∙◌, ◌+◌, ◌∷◌, ℕ, List, Bool, Option, true, cond, drop, length, nat_eq}
use Rattle.std.proofs.Common.{slice_index_or, refl, sym, ap, arith}
use Rattle.std.specs.List.{list_any}
use Rattle.std.proofs.lemmas.List.{drop_more, drop_all}
use Rattle.desk_incidents.specs.declared.incident.Linked.{Linked}
use Rattle.desk_incidents.specs.EndSets.{joins}
use Rattle.desk_index.specs.Slots.{passes, standing}
use Rattle.desk_incidents.proofs.EndChanges.{put_more}
use Rattle.desk_incidents.proofs.link_table.note_all.Goals as goal

pub loop-place-init : goal.loop-place-init
loop-place-init c = record { noted = λ m. refl; room = c.requires }

pub note_far-requires : goal.note_far-requires
note_far-requires c =
    let more : length (drop c.loop-place.place-index c.args.among.now)
    ≡ length (slice_index_or c.args.among.now c.loop-place.place-index 0
    ∷ drop (c.loop-place.place-index + 1) c.args.among.now) =
    ap (λ (ks : List ℕ). length ks)
    (drop_more c.args.among.now c.loop-place.place-index 0 (omega (arith, c.loop-place-test.true))) in
    omega (arith, more, c.loop-place.invariant.room)

pub loop-place-preserved : goal.loop-place-preserved
loop-place-preserved c =
    let place : ℕ = slice_index_or c.args.among.now c.loop-place.place-index 0 in
    let rest : List ℕ = drop (c.loop-place.place-index + 1) c.args.among.now in
    let first : drop c.loop-place.place-index c.args.among.now ≡ place ∷ rest =
    drop_more c.args.among.now c.loop-place.place-index 0 (omega (arith, c.loop-place-test.true)) in
    let more : length (drop c.loop-place.place-index c.args.among.now) ≡ length (place ∷ rest) =
    ap (λ (ks : List ℕ). length ks) first in
    record {
      noted = λ m.
          ap (λ (t : Bool). cond (list_any (λ k. passes (joins c.args.number m) (standing c.args.slots.now k)) rest)
          true t)
          (c.note_far.ensures.ends m
          ∙ ap (λ (o : Option Linked). cond (passes (joins c.args.number m) o) true
          (list_any (nat_eq m) c.loop-place.ends.keys)) c.link_in.ensures)
          ∙ put_more (passes (joins c.args.number m) (standing c.args.slots.now place))
          (list_any (λ k. passes (joins c.args.number m) (standing c.args.slots.now k)) rest)
          (list_any (nat_eq m) c.loop-place.ends.keys)
          ∙ sym (ap (λ (ks : List ℕ). cond
          (list_any (λ k. passes (joins c.args.number m) (standing c.args.slots.now k)) ks) true
          (list_any (nat_eq m) c.loop-place.ends.keys)) first)
          ∙ c.loop-place.invariant.noted m;
      room = omega (arith, more, c.loop-place.invariant.room, c.note_far.ensures.room);
    }

pub returns : goal.returns
returns c m =
    sym (ap (λ (ks : List ℕ). cond (list_any (λ k. passes (joins c.args.number m) (standing c.args.slots.now k)) ks)
    true (list_any (nat_eq m) c.loop-place.ends.keys))
    (drop_all c.loop-place.place-index c.args.among.now (omega (arith, c.loop-place-test.false))))
    ∙ c.loop-place.invariant.noted m
