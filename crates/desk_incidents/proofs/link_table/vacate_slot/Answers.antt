use Rattle.std.proofs.Common.{◌≡◌, ◌∙◌, ◌==◌, List, Option, ap, cond}
use Rattle.desk_incidents.specs.declared.incident.Linked.{Linked}
use Rattle.desk_incidents.specs.LinkTable.{live_places}
use Rattle.desk_index.specs.Places.{at_in}
use Rattle.desk_incidents.proofs.LinkTables.{IsLinkTable-cleared}
use Rattle.desk_incidents.proofs.link_table.vacate_slot.Goals as goal

pub returns-clause-table : goal.returns-clause-table
returns-clause-table c =
    IsLinkTable-cleared c.args.slots.now.items c.args.index.now.lists.entries c.compact_list.new.index.lists.entries
    c.compact_list-2.new.index.lists.entries c.args.slot c.args.link c.requires.table c.requires.there
    (λ n. c.compact_list.ensures.lists n
    ∙ ap (λ (xs : List (Option Linked)). cond (c.args.link.incident == n)
    (live_places xs (at_in n c.args.index.now.lists.entries)) (at_in n c.args.index.now.lists.entries))
    c.deref.ensures.value)
    (λ n. c.compact_list-2.ensures.lists n
    ∙ ap (λ (xs : List (Option Linked)). cond (c.args.link.other == n)
    (live_places xs (at_in n c.compact_list.new.index.lists.entries))
    (at_in n c.compact_list.new.index.lists.entries)) c.deref-2.ensures.value)

pub returns-clause-preserved : goal.returns-clause-preserved
returns-clause-preserved c n = c.compact_list-2.ensures.preserved n ∙ c.compact_list.ensures.preserved n
