use Rattle.std.proofs.Common.{◌≡◌, ◌∙◌, ◌+◌, ◌∷◌, ℕ, List, Option, drop, length, slice_index_or, refl, sym, ap}
use Rattle.std.proofs.Common.{arith}
use Rattle.std.proofs.lemmas.List.{drop_more, drop_all}
use Rattle.desk_incidents.specs.declared.incident.Linked.{Linked}
use Rattle.desk_incidents.specs.LinkTable.{ends_with, slots_after_merge}
use Rattle.desk_index.specs.Slots.{standing}
use Rattle.desk_incidents.proofs.link_table.merge_slots.Goals as goal

pub loop-place-init : goal.loop-place-init
loop-place-init c = record { made = refl; room = c.requires.room }

pub merge_place-requires : goal.merge_place-requires
merge_place-requires c =
    let more : length (drop c.loop-place.place-index c.args.among.now)
    ≡ length (slice_index_or c.args.among.now c.loop-place.place-index 0
    ∷ drop (c.loop-place.place-index + 1) c.args.among.now) =
    ap (λ (ks : List ℕ). length ks)
    (drop_more c.args.among.now c.loop-place.place-index 0 (omega (arith, c.loop-place-test.true))) in
    omega (arith, more, c.loop-place.invariant.room)

pub loop-place-preserved : goal.loop-place-preserved
loop-place-preserved c =
    let place : ℕ = slice_index_or c.args.among.now c.loop-place.place-index 0 in
    let rest : List ℕ = drop (c.loop-place.place-index + 1) c.args.among.now in
    let first : drop c.loop-place.place-index c.args.among.now ≡ place ∷ rest =
    drop_more c.args.among.now c.loop-place.place-index 0 (omega (arith, c.loop-place-test.true)) in
    let more : length (drop c.loop-place.place-index c.args.among.now) ≡ length (place ∷ rest) =
    ap (λ (ks : List ℕ). length ks) first in
    record {
      made =
          ap (λ (es : List ℕ). slots_after_merge c.args.from c.args.to rest es c.merge_place.new.slots.items)
          c.merge_place.ensures.ends
          ∙ ap (λ (xs : List (Option Linked)). slots_after_merge c.args.from c.args.to rest
          (ends_with c.args.from c.args.to c.loop-place.ends.keys (standing c.loop-place.slots.items place)) xs)
          c.merge_place.ensures.slots
          ∙ sym (ap (λ (ks : List ℕ). slots_after_merge c.args.from c.args.to ks c.loop-place.ends.keys
          c.loop-place.slots.items) first)
          ∙ c.loop-place.invariant.made;
      room = omega (arith, more, c.loop-place.invariant.room, c.merge_place.ensures.room);
    }

pub returns : goal.returns
returns c =
    sym (ap (λ (ks : List ℕ). slots_after_merge c.args.from c.args.to ks c.loop-place.ends.keys
    c.loop-place.slots.items)
    (drop_all c.loop-place.place-index c.args.among.now (omega (arith, c.loop-place-test.false))))
    ∙ c.loop-place.invariant.made
    ∙ ap (λ (es : List ℕ). slots_after_merge c.args.from c.args.to c.args.among.now es c.args.slots.now.items)
    c.requires.none
