use Rattle.std.proofs.Common.{◌≡◌, ◌∙◌, sym, nat_eq, Some}
use Rattle.std.specs.Map.{lookup}
use Rattle.desk_index.proofs.IndexChanges.{at_in-set, has_list-set}
use Rattle.desk_incidents.specs.LinkTable.{live_places}
use Rattle.desk_incidents.proofs.link_table.compact_list.Goals as goal

pub returns-in-Some-clause-lists : goal.returns-in-Some-clause-lists
returns-in-Some-clause-lists c n =
    let there : lookup (nat_eq c.args.number) c.args.index.now.lists.entries ≡ Some c.index_mut.result.now =
    sym c.in-Some.ensures.value ∙ c.index_mut.ensures.value in
    at_in-set (live_places c.args.slots.now) c.args.index.now.lists.entries c.args.number c.in-Some.at
    c.index_mut.result.now c.drop_empty.new.list (sym c.in-Some.ensures.index) there c.drop_empty.ensures n

pub returns-in-Some-clause-preserved : goal.returns-in-Some-clause-preserved
returns-in-Some-clause-preserved c n =
    let there : lookup (nat_eq c.args.number) c.args.index.now.lists.entries ≡ Some c.index_mut.result.now =
    sym c.in-Some.ensures.value ∙ c.index_mut.ensures.value in
    has_list-set c.args.index.now.lists.entries c.args.number c.in-Some.at c.index_mut.result.now
    c.drop_empty.new.list (sym c.in-Some.ensures.index) there n
