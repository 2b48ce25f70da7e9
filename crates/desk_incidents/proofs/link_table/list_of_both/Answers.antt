use Rattle.std.proofs.Common.{◌≡◌, ◌∙◌, ℕ, List, ap, length, arith}
use Rattle.std.specs.List.{count_by}
use Rattle.desk_incidents.specs.LinkTable.{touches}
use Rattle.desk_index.specs.MergedList.{merged}
use Rattle.desk_index.specs.Slots.{live, passes, places}
use Rattle.desk_index.proofs.Slots.{places-count}
use Rattle.desk_incidents.proofs.LinkTables.{IsLinkTable-compacted, first-compact, second-compact}
use Rattle.desk_incidents.proofs.MergedSlots.{apart}
use Rattle.desk_incidents.proofs.MergedPlaces.{places-both}
use Rattle.desk_incidents.proofs.link_table.list_of_both.Goals as goal

pub merged_list-requires : goal.merged_list-requires
merged_list-requires c =
    let one : length c.at.result.now ≡ count_by (touches c.args.to) (live c.args.slots.now) =
    ap (λ (ks : List ℕ). length ks) (c.at.ensures
    ∙ first-compact c.args.slots.now c.args.index.now.lists.entries c.compact_list.new.index.lists.entries
    c.compact_list-2.new.index.lists.entries c.args.from c.args.to c.requires.apart c.requires.table
    c.compact_list.ensures.lists c.compact_list-2.ensures.lists)
    ∙ places-count (touches c.args.to) 0 c.args.slots.now in
    let other : length c.at-2.result.now ≡ count_by (touches c.args.from) (live c.args.slots.now) =
    ap (λ (ks : List ℕ). length ks) (c.at-2.ensures
    ∙ second-compact c.args.slots.now c.args.index.now.lists.entries c.compact_list.new.index.lists.entries
    c.compact_list-2.new.index.lists.entries c.args.from c.args.to c.requires.table
    c.compact_list.ensures.lists c.compact_list-2.ensures.lists)
    ∙ places-count (touches c.args.from) 0 c.args.slots.now in
    omega (arith, one, other, c.requires.room)

pub returns-clause-list : goal.returns-clause-list
returns-clause-list c =
    c.merged_list.ensures
    ∙ ap (λ (ks : List ℕ). merged ks c.at-2.result.now) (c.at.ensures
    ∙ first-compact c.args.slots.now c.args.index.now.lists.entries c.compact_list.new.index.lists.entries
    c.compact_list-2.new.index.lists.entries c.args.from c.args.to c.requires.apart c.requires.table
    c.compact_list.ensures.lists c.compact_list-2.ensures.lists)
    ∙ ap (λ (ks : List ℕ). merged (places (passes (touches c.args.to)) 0 c.args.slots.now) ks) (c.at-2.ensures
    ∙ second-compact c.args.slots.now c.args.index.now.lists.entries c.compact_list.new.index.lists.entries
    c.compact_list-2.new.index.lists.entries c.args.from c.args.to c.requires.table
    c.compact_list.ensures.lists c.compact_list-2.ensures.lists)
    ∙ places-both c.args.from c.args.to c.args.slots.now
    (apart c.args.from c.args.to (live c.args.slots.now) c.requires.apart c.requires.unlinked
    c.requires.table.ordered)

pub returns-clause-table : goal.returns-clause-table
returns-clause-table c =
    IsLinkTable-compacted c.args.slots.now c.compact_list.new.index.lists.entries
    c.compact_list-2.new.index.lists.entries c.args.from
    (IsLinkTable-compacted c.args.slots.now c.args.index.now.lists.entries
    c.compact_list.new.index.lists.entries c.args.to c.requires.table c.compact_list.ensures.lists)
    c.compact_list-2.ensures.lists
