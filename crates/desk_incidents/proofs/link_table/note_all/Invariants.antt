use Rattle.std.proofs.Common.{◌≡◌, ◌≤◌, ℕ, true, cond, drop, length, nat_eq}
use Rattle.std.specs.List.{list_any}
use Rattle.indexmap.specs.IndexSet.{spare}
use Rattle.desk_incidents.specs.EndSets.{joins}
use Rattle.desk_index.specs.Slots.{passes, standing}
use Rattle.desk_incidents.proofs.link_table.note_all.Given as goal

-- what is in the set, with the ends at the places that are left, is in it after all
abbrev pub invariant-loop-place : goal.invariant-loop-place
invariant-loop-place l = record {
  noted : (m : ℕ) →
      cond (list_any (λ k. passes (joins l.number m) (standing l.slots k)) (drop l.place-index l.among)) true
      (list_any (nat_eq m) l.ends.keys)
      ≡ cond (list_any (λ k. passes (joins l.fn.number m) (standing l.fn.slots k)) l.fn.among) true
      (list_any (nat_eq m) l.fn.ends.keys);
  room : length (drop l.place-index l.among) ≤ spare l.ends;
}
