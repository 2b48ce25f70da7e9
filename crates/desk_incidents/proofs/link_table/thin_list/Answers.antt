use Rattle.desk_incidents.proofs.LinkTables.{IsLinkTable-compacted}
use Rattle.desk_incidents.proofs.link_table.thin_list.Goals as goal

pub returns-then-is_half_empty-clause-table : goal.returns-then-is_half_empty-clause-table
returns-then-is_half_empty-clause-table c =
    IsLinkTable-compacted c.args.slots.now c.args.index.now.lists.entries c.compact_list.new.index.lists.entries
    c.args.end c.requires c.compact_list.ensures.lists
