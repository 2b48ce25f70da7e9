use Rattle.std.proofs.Common.{◌≡◌, ◌∙◌, Some, false, nat_eq, sym, ap, List, ℕ}
use Rattle.std.specs.Map.{lookup}
use Rattle.std.specs.List.{list_any}
use Rattle.desk_index.proofs.IndexChanges.{has_list-set}
use Rattle.desk_incidents.proofs.EndChanges.{has_end-set}
use Rattle.desk_incidents.proofs.end_sets.EndSets.empty.Goals as goal

pub returns-in-Some-clause-ends : goal.returns-in-Some-clause-ends
returns-in-Some-clause-ends c n m =
    let there : lookup (nat_eq c.args.number) c.args.self.now.sets.entries ≡ Some c.index_mut.result.now =
    sym c.in-Some.ensures.value ∙ c.index_mut.ensures.value in
    has_end-set (λ _. false) m c.args.self.now.sets.entries c.args.number c.in-Some.index c.index_mut.result.now
    c.new.result (sym c.in-Some.ensures.index) there
    (ap (λ (ks : List ℕ). list_any (nat_eq m) ks) c.new.ensures.empty) n

pub returns-in-Some-clause-preserved : goal.returns-in-Some-clause-preserved
returns-in-Some-clause-preserved c n =
    let there : lookup (nat_eq c.args.number) c.args.self.now.sets.entries ≡ Some c.index_mut.result.now =
    sym c.in-Some.ensures.value ∙ c.index_mut.ensures.value in
    has_list-set c.args.self.now.sets.entries c.args.number c.in-Some.index c.index_mut.result.now
    c.new.result (sym c.in-Some.ensures.index) there n
