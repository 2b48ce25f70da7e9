-- The room that a copy of a value takes in an arena, in bytes.
use Rattle.std.specs.Prelude.{ℕ, ◌+◌, length}
use Rattle.desk_arena.specs.declared.node.TheConstants.{NODE_BYTES}
use Rattle.serde_json.specs.Data.{Data, null, boolean, number, string, array, object, Items, no_items, item, Members}
use Rattle.serde_json.specs.Data.{no_members, member}

abbrev mutual
  -- NODE_BYTES for each value, and the bytes of each text
  pub room_of : Data → ℕ
  room_of null = NODE_BYTES
  room_of (boolean b) = NODE_BYTES
  room_of (number n) = NODE_BYTES
  room_of (string s) = length s + NODE_BYTES
  room_of (array ds) = items_room ds + NODE_BYTES
  room_of (object ms) = members_room ms + NODE_BYTES

  -- what the items of a list take
  pub items_room : Items → ℕ
  items_room no_items = 0
  items_room (item d ds) = room_of d + items_room ds

  -- what the members of an object take, each with the bytes of its name
  pub members_room : Members → ℕ
  members_room no_members = 0
  members_room (member k d ms) = length k + room_of d + members_room ms
