use Rattle.std.proofs.Common.{◌≡◌, ◌∙◌, Some, nat_eq, sym, ap, List, ℕ, arith}
use Rattle.std.specs.Map.{lookup}
use Rattle.std.specs.List.{list_any}
use Rattle.desk_index.proofs.IndexChanges.{has_list-set, cond_same}
use Rattle.desk_incidents.specs.EndSets.{has_end}
use Rattle.desk_incidents.proofs.EndChanges.{has_end-set, room_of-set}
use Rattle.std.proofs.lemmas.Result.{on_ok_weaker}
use Rattle.desk_incidents.proofs.end_sets.EndSets.grow.Goals as goal

pub returns-in-Some-clause-ends : goal.returns-in-Some-clause-ends
returns-in-Some-clause-ends c n m =
    let there : lookup (nat_eq c.args.number) c.args.self.now.sets.entries ≡ Some c.index_mut.result.now =
    sym c.in-Some.ensures.value ∙ c.index_mut.ensures.value in
    has_end-set (λ b. b) m c.args.self.now.sets.entries c.args.number c.in-Some.index c.index_mut.result.now
    c.grow_set.new.ends (sym c.in-Some.ensures.index) there
    (ap (λ (ks : List ℕ). list_any (nat_eq m) ks) c.grow_set.ensures.ends) n
    ∙ cond_same (nat_eq c.args.number n) (has_end n m c.args.self.now.sets.entries)

pub returns-in-Some-clause-preserved : goal.returns-in-Some-clause-preserved
returns-in-Some-clause-preserved c n =
    let there : lookup (nat_eq c.args.number) c.args.self.now.sets.entries ≡ Some c.index_mut.result.now =
    sym c.in-Some.ensures.value ∙ c.index_mut.ensures.value in
    has_list-set c.args.self.now.sets.entries c.args.number c.in-Some.index c.index_mut.result.now
    c.grow_set.new.ends (sym c.in-Some.ensures.index) there n

pub returns-in-Some-clause-grown : goal.returns-in-Some-clause-grown
returns-in-Some-clause-grown c =
    let there : lookup (nat_eq c.args.number) c.args.self.now.sets.entries ≡ Some c.index_mut.result.now =
    sym c.in-Some.ensures.value ∙ c.index_mut.ensures.value in
    on_ok_weaker c.grow_set.result (λ more. omega (
      arith,
      room_of-set c.args.self.now.sets.entries c.args.number
          c.in-Some.index c.index_mut.result.now c.grow_set.new.ends (sym c.in-Some.ensures.index) there,
      more,
    ))
    c.grow_set.ensures.grown
