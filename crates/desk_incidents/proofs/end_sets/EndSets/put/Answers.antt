use Rattle.std.proofs.Common.{◌≡◌, ◌∙◌, Some, nat_eq, refl, sym}
use Rattle.std.specs.Map.{lookup}
use Rattle.std.specs.List.{list_any}
use Rattle.desk_index.proofs.IndexChanges.{has_list-set}
use Rattle.desk_incidents.proofs.EndChanges.{has_end-set}
use Rattle.desk_incidents.proofs.end_sets.EndSets.put.Goals as goal

pub returns-in-Some-clause-ends : goal.returns-in-Some-clause-ends
returns-in-Some-clause-ends c n m =
    let there : lookup (nat_eq c.args.number) c.args.self.now.sets.entries ≡ Some c.index_mut.result.now =
    sym c.in-Some.ensures.value ∙ c.index_mut.ensures.value in
    has_end-set (λ _. list_any (nat_eq m) c.args.ends.keys) m c.args.self.now.sets.entries c.args.number c.in-Some.index
    c.index_mut.result.now
    c.args.ends (sym c.in-Some.ensures.index) there refl n

pub returns-in-Some-clause-preserved : goal.returns-in-Some-clause-preserved
returns-in-Some-clause-preserved c n =
    let there : lookup (nat_eq c.args.number) c.args.self.now.sets.entries ≡ Some c.index_mut.result.now =
    sym c.in-Some.ensures.value ∙ c.index_mut.ensures.value in
    has_list-set c.args.self.now.sets.entries c.args.number c.in-Some.index c.index_mut.result.now
    c.args.ends (sym c.in-Some.ensures.index) there n
