use Rattle.std.proofs.Common.{◌≡◌, ◌+◌, drop}
use Rattle.serde_json.specs.View.{items_view, members_view}
use Rattle.desk_arena.specs.Contents.{room}
use Rattle.desk_eido.specs.Room.{items_room, members_room}
use Rattle.desk_eido.specs.Copied.{IsPartOf, with_items, with_members}
use Rattle.desk_eido.specs.Utf8.{ItemsHaveUtf8Texts, MembersHaveUtf8Texts}
use Rattle.desk_eido.proofs.copy.+copy.Given as goal

-- to copy the rest from here gives what it gives to copy all from the start, and takes as much room; where the rest
-- has texts of UTF-8 alone, so has all; and what was held is the oldest part
abbrev pub invariant-copy_items-loop-item : goal.invariant-copy_items-loop-item
invariant-copy_items-loop-item l = record {
  copied : with_items (items_view (drop l.item-index l.item-items)) l.arena ≡ with_items
      (items_view l.item-items) l.fn.arena;
  room : room l.fn.arena + items_room (items_view (drop l.item-index l.item-items)) ≡ room l.arena + items_room
      (items_view l.item-items);
  utf8 : ItemsHaveUtf8Texts (items_view (drop l.item-index l.item-items)) →
      ItemsHaveUtf8Texts (items_view l.item-items);
  preserved : IsPartOf l.fn.arena l.arena;
  capacity : l.arena.capacity ≡ l.fn.arena.capacity;
}

abbrev pub invariant-copy_members-loop-name : goal.invariant-copy_members-loop-name
invariant-copy_members-loop-name l = record {
  copied : with_members (members_view l.name-iterator) l.arena ≡ with_members
      (members_view l.members.entries) l.fn.arena;
  room : room l.fn.arena + members_room (members_view l.name-iterator) ≡ room l.arena + members_room
      (members_view l.members.entries);
  utf8 : MembersHaveUtf8Texts (members_view l.name-iterator) → MembersHaveUtf8Texts (members_view l.members.entries);
  preserved : IsPartOf l.fn.arena l.arena;
  capacity : l.arena.capacity ≡ l.fn.arena.capacity;
}
