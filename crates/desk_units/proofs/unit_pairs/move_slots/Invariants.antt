use Rattle.std.proofs.Common.{◌≡◌, ℕ, List, drop, map}
use Rattle.std.specs.Option.{option_map}
use Rattle.desk_index.specs.Slots.{passes, places}
use Rattle.desk_units.specs.Checks.{is_to}
use Rattle.desk_units.specs.NameTable.{IsNameTable}
use Rattle.desk_units.specs.Verbs.{pair_after_merge}
use Rattle.desk_units.proofs.unit_pairs.move_slots.Given as goal

-- what the merge makes of the slots stays, and the pairs that are left are at the places that are
abbrev pub invariant-loop-place : goal.invariant-loop-place
invariant-loop-place l = record {
  left : places (passes (is_to l.from)) 0 l.slots.items ≡ drop l.place-index l.among;
  same : map (option_map (pair_after_merge l.from l.to)) l.slots.items ≡ map
      (option_map (pair_after_merge l.from l.to)) l.fn.slots.items;
  named : (es : List (List ℕ × ℕ)) → IsNameTable (λ p. p.unit) l.fn.slots.items es → IsNameTable (λ p. p.unit)
      l.slots.items es;
}
