use Rattle.std.proofs.Common.{◌≡◌, ◌&&◌, ◌==◌, ℕ, false, cond, drop}
use Rattle.std.specs.List.{list_any}
use Rattle.desk_incidents.specs.EndSets.{has_end}
use Rattle.desk_incidents.specs.LinkTable.{touches}
use Rattle.desk_index.specs.Places.{has_list}
use Rattle.desk_index.specs.Slots.{passes, standing}
use Rattle.desk_incidents.proofs.link_table.forget_all.Given as goal

-- what the sets have, without the number at the places that are left, is what they have after all
abbrev pub invariant-loop-place : goal.invariant-loop-place
invariant-loop-place l = record {
  ends : (n m : ℕ) →
      cond ((l.number == m)
      && list_any (λ k. passes (touches n) (standing l.slots k)) (drop l.place-index l.among)) false
      (has_end n m l.sets.sets.entries)
      ≡ cond ((l.fn.number == m) && list_any (λ k. passes (touches n) (standing l.fn.slots k)) l.fn.among) false
      (has_end n m l.fn.sets.sets.entries);
  preserved : (n : ℕ) → has_list n l.sets.sets.entries ≡ has_list n l.fn.sets.sets.entries;
}
