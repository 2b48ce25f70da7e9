use Rattle.std.proofs.Common.{◌≡◌, ◌∙◌, ◌==◌, Some, cond, true, nat_eq, sym}
use Rattle.std.specs.Map.{lookup}
use Rattle.desk_index.proofs.IndexChanges.{has_list-set}
use Rattle.desk_incidents.specs.EndSets.{has_end}
use Rattle.desk_incidents.proofs.EndChanges.{has_end-set, cond_both_tests}
use Rattle.desk_incidents.proofs.end_sets.EndSets.note.Goals as goal

pub returns-in-Some-clause-ends : goal.returns-in-Some-clause-ends
returns-in-Some-clause-ends c n m =
    let there : lookup (nat_eq c.args.number) c.args.self.now.sets.entries ≡ Some c.index_mut.result.now =
    sym c.in-Some.ensures.value ∙ c.index_mut.ensures.value in
    has_end-set (λ b. cond (c.args.end == m) true b) m c.args.self.now.sets.entries c.args.number c.in-Some.index
    c.index_mut.result.now
    c.put_end.new.ends (sym c.in-Some.ensures.index) there
    (c.put_end.ensures.ends m) n
    ∙ cond_both_tests (c.args.number == n) (c.args.end == m) true (has_end n m c.args.self.now.sets.entries)

pub returns-in-Some-clause-preserved : goal.returns-in-Some-clause-preserved
returns-in-Some-clause-preserved c n =
    let there : lookup (nat_eq c.args.number) c.args.self.now.sets.entries ≡ Some c.index_mut.result.now =
    sym c.in-Some.ensures.value ∙ c.index_mut.ensures.value in
    has_list-set c.args.self.now.sets.entries c.args.number c.in-Some.index c.index_mut.result.now
    c.put_end.new.ends (sym c.in-Some.ensures.index) there n
