use Rattle.std.proofs.Common.{◌≡◌, ◌∙◌, ◌==◌, ℕ, List, [], Option, length, vec_capacity, cond, ap, subst, arith}
use Rattle.std.specs.List.{count_by}
use Rattle.std.proofs.Math.Nat.{min-le_left, min-le_right}
use Rattle.indexmap.specs.IndexSet.{spare}
use Rattle.desk_incidents.specs.declared.incident.Linked.{Linked}
use Rattle.desk_incidents.specs.LinkTable.{touches, live_places, slots_after_merge, IsLinkTable}
use Rattle.desk_index.specs.Slots.{live}
use Rattle.desk_incidents.proofs.MergedSlots.{places_of}
use Rattle.desk_incidents.proofs.MergedPlaces.{places-counted, table-merged, compact-merged, all-merged}
use Rattle.desk_incidents.proofs.link_table.merge_lists.Goals as goal

pub list_of_both-list-requires-clause-room : goal.list_of_both-list-requires-clause-room
list_of_both-list-requires-clause-room c =
    let one : count_by (touches c.args.to) (live c.deref.result.now)
    ≡ count_by (touches c.args.to) (live c.args.slots.now.items) =
    ap (λ (xs : List (Option Linked)). count_by (touches c.args.to) (live xs)) c.deref.ensures.value in
    let other : count_by (touches c.args.from) (live c.deref.result.now)
    ≡ count_by (touches c.args.from) (live c.args.slots.now.items) =
    ap (λ (xs : List (Option Linked)). count_by (touches c.args.from) (live xs)) c.deref.ensures.value in
    omega (
      arith,
      one,
      other,
      c.requires.room,
      c.room.view_is,
      min-le_left (vec_capacity c.room.inside.slots) (spare c.room.inside.ends),
    )

pub thin_lists-requires-clause-room : goal.thin_lists-requires-clause-room
thin_lists-requires-clause-room c =
    let count : length c.as_slice.result.now ≡ length (places_of c.args.from c.args.to 0 c.args.slots.now.items) =
    ap (λ (ks : List ℕ). length ks) (c.as_slice.ensures.value ∙ c.list_of_both-list.ensures.list)
    ∙ ap (λ (xs : List (Option Linked)). length (places_of c.args.from c.args.to 0 xs)) c.deref.ensures.value in
    omega (
      arith,
      count,
      places-counted c.args.from c.args.to c.args.slots.now.items,
      c.requires.room,
      c.room.view_is,
      min-le_right (vec_capacity c.room.inside.slots) (spare c.room.inside.ends),
      c.clear.ensures.capacity,
    )

pub merge_slots-requires-clause-room : goal.merge_slots-requires-clause-room
merge_slots-requires-clause-room c =
    let count : length c.as_slice-2.result.now ≡ length (places_of c.args.from c.args.to 0 c.args.slots.now.items) =
    ap (λ (ks : List ℕ). length ks) (c.as_slice-2.ensures.value ∙ c.list_of_both-list.ensures.list)
    ∙ ap (λ (xs : List (Option Linked)). length (places_of c.args.from c.args.to 0 xs)) c.deref.ensures.value in
    omega (
      arith,
      count,
      places-counted c.args.from c.args.to c.args.slots.now.items,
      c.requires.room,
      c.room.view_is,
      min-le_right (vec_capacity c.room.inside.slots) (spare c.room.inside.ends),
      c.clear.ensures.capacity,
      c.thin_lists.ensures.all,
      c.clear-2.ensures.capacity,
    )

pub returns-clause-table : goal.returns-clause-table
returns-clause-table c =
    let list : c.list_of_both-list.result.items ≡ places_of c.args.from c.args.to 0 c.args.slots.now.items =
    c.list_of_both-list.ensures.list
    ∙ ap (λ (xs : List (Option Linked)). places_of c.args.from c.args.to 0 xs) c.deref.ensures.value in
    table-merged c.args.from c.args.to c.args.slots.now.items c.merge_slots.new.slots.items
    c.thin_lists.new.index.lists.entries c.empty_list.new.self.lists.entries c.drop_empty.new.list.items
    c.requires.apart
    (subst (λ (xs : List (Option Linked)). IsLinkTable xs c.thin_lists.new.index.lists.entries)
    c.deref-2.ensures.value c.thin_lists.ensures.table) c.requires.unlinked
    (c.merge_slots.ensures
    ∙ ap (λ (ks : List ℕ). slots_after_merge c.args.from c.args.to ks [] c.args.slots.now.items)
    (c.as_slice-2.ensures.value ∙ list))
    (c.drop_empty.ensures
    ∙ ap (λ (xs : List (Option Linked)). live_places xs c.list_of_both-list.result.items) c.deref-3.ensures.value
    ∙ ap (live_places c.merge_slots.new.slots.items) list)
    (λ n. c.empty_list.ensures.lists n
    ∙ ap (λ (ks : List ℕ). cond (c.args.from == n) [] ks) (c.put_list.ensures.lists n))

pub returns-clause-compact : goal.returns-clause-compact
returns-clause-compact c =
    let list : c.list_of_both-list.result.items ≡ places_of c.args.from c.args.to 0 c.args.slots.now.items =
    c.list_of_both-list.ensures.list
    ∙ ap (λ (xs : List (Option Linked)). places_of c.args.from c.args.to 0 xs) c.deref.ensures.value in
    compact-merged c.args.from c.args.to c.args.slots.now.items c.merge_slots.new.slots.items
    c.thin_lists.new.index.lists.entries c.empty_list.new.self.lists.entries c.drop_empty.new.list.items
    c.requires.apart
    (subst (λ (xs : List (Option Linked)). IsLinkTable xs c.thin_lists.new.index.lists.entries)
    c.deref-2.ensures.value c.thin_lists.ensures.table) c.requires.unlinked
    (c.merge_slots.ensures
    ∙ ap (λ (ks : List ℕ). slots_after_merge c.args.from c.args.to ks [] c.args.slots.now.items)
    (c.as_slice-2.ensures.value ∙ list))
    (c.drop_empty.ensures
    ∙ ap (λ (xs : List (Option Linked)). live_places xs c.list_of_both-list.result.items) c.deref-3.ensures.value
    ∙ ap (live_places c.merge_slots.new.slots.items) list)
    (λ n. c.empty_list.ensures.lists n
    ∙ ap (λ (ks : List ℕ). cond (c.args.from == n) [] ks) (c.put_list.ensures.lists n))

pub returns-clause-links : goal.returns-clause-links
returns-clause-links c =
    all-merged c.args.from c.args.to c.args.slots.now.items c.merge_slots.new.slots.items
    c.args.index.now.lists.entries c.requires.apart c.requires.table c.requires.unlinked
    (c.merge_slots.ensures
    ∙ ap (λ (ks : List ℕ). slots_after_merge c.args.from c.args.to ks [] c.args.slots.now.items)
    (c.as_slice-2.ensures.value ∙ c.list_of_both-list.ensures.list
    ∙ ap (λ (xs : List (Option Linked)). places_of c.args.from c.args.to 0 xs) c.deref.ensures.value))

pub returns-clause-preserved : goal.returns-clause-preserved
returns-clause-preserved c n =
    c.empty_list.ensures.there n ∙ c.put_list.ensures.there n ∙ c.thin_lists.ensures.preserved n
    ∙ c.list_of_both-list.ensures.preserved n
