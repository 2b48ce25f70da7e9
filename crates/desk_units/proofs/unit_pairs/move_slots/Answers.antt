use Rattle.std.proofs.Common.{◌≡◌, ◌∙◌, ◌+◌, ◌∷◌, ℕ, List, Option, length, map, drop, slice_index_or, refl, sym, ap}
use Rattle.std.proofs.Common.{subst, arith}
use Rattle.std.specs.Option.{option_map}
use Rattle.std.proofs.lemmas.List.{drop_more, drop_all}
use Rattle.desk_index.specs.Slots.{passes, places}
use Rattle.desk_units.specs.declared.unit.UnitPair.{UnitPair}
use Rattle.desk_units.specs.Checks.{is_to}
use Rattle.desk_units.specs.NameTable.{IsNameTable}
use Rattle.desk_units.specs.PairTable.{pair_at}
use Rattle.desk_units.specs.Verbs.{pair_after_merge}
use Rattle.desk_units.proofs.NameTables.{IsNameTable-changed}
use Rattle.desk_units.proofs.MovedPairs.{place-within, places-left, slots-moved, none-moved}
use Rattle.desk_units.proofs.unit_pairs.move_slots.Goals as goal

pub set_slot-requires : goal.set_slot-requires
set_slot-requires c =
    place-within c.args.from (slice_index_or c.args.among.now c.loop-place.place-index 0)
    (drop (c.loop-place.place-index + 1) c.args.among.now) c.loop-place.slots.items
    (c.loop-place.invariant.left
    ∙ drop_more c.args.among.now c.loop-place.place-index 0 (omega (arith, c.loop-place-test.true)))

pub loop-place-preserved : goal.loop-place-preserved
loop-place-preserved c =
    let place : ℕ = slice_index_or c.args.among.now c.loop-place.place-index 0 in
    let rest : List ℕ = drop (c.loop-place.place-index + 1) c.args.among.now in
    let first : places (passes (is_to c.args.from)) 0 c.loop-place.slots.items ≡ place ∷ rest =
    c.loop-place.invariant.left
    ∙ drop_more c.args.among.now c.loop-place.place-index 0 (omega (arith, c.loop-place-test.true)) in
    record {
      left = ap (λ (xs : List (Option UnitPair)). places (passes (is_to c.args.from)) 0 xs) c.set_slot.ensures
          ∙ places-left c.args.from c.args.to place rest c.loop-place.slots.items c.requires.apart first;
      same = ap (λ (xs : List (Option UnitPair)). map (option_map (pair_after_merge c.args.from c.args.to)) xs)
          c.set_slot.ensures
          ∙ slots-moved c.args.from c.args.to place rest c.loop-place.slots.items first
          ∙ c.loop-place.invariant.same;
      named = λ es h.
          subst (λ (xs : List (Option UnitPair)). IsNameTable (λ p. p.unit) xs es) (sym c.set_slot.ensures)
          (IsNameTable-changed (λ p. p.unit) (pair_at c.args.to) (λ p. refl) c.loop-place.slots.items es place
          (c.loop-place.invariant.named es h));
    }

pub returns-clause-slots : goal.returns-clause-slots
returns-clause-slots c =
    sym (none-moved c.args.from c.args.to 0 c.loop-place.slots.items
    (ap (λ (ks : List ℕ). length ks) (c.loop-place.invariant.left
    ∙ drop_all c.loop-place.place-index c.args.among.now (omega (arith, c.loop-place-test.false)))))
    ∙ c.loop-place.invariant.same
