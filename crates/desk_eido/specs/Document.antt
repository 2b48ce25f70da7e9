-- How a document lies in an arena, and how its members are found there.
use Rattle.std.specs.Prelude.{◌≡◌, ℕ, zero, suc, ◌+◌, ◌-◌, ◌*◌, ◌<◌, ◌≤◌, ◌==◌, nat_lt, if◌then◌else◌, List, []}
use Rattle.std.specs.Prelude.{length, get_or, slice_index, Option, Some, None, IsUtf8}
use Rattle.std.specs.Str.{bytes_eq}
use Rattle.desk_arena.specs.Contents.{Contents, HoldsText, text_at}
use Rattle.desk_arena.specs.declared.node.Node.{Node}
use Rattle.desk_arena.specs.declared.text.Text.{Text}
use Rattle.desk_types.specs.Refusal.{member_name}
use Rattle.desk_eido.specs.declared.copy.TheConstants.{WORD_VALUES}
use Rattle.desk_eido.specs.declared.kind.TheConstants.{NULL, NATURAL, NEGATIVE, TEXT}
use Rattle.desk_eido.specs.Seen.{Seen, text, natural, negative, other, SeenMembers}

-- an object in an arena: what the arena holds, and the index of the object's node
pub record Placed : Type 0 where
  pub contents : Contents
  pub index : ℕ

-- the node of an index
abbrev pub node_at : Contents → ℕ → Node
node_at a i = get_or a.nodes i (record { words = [] })

-- the name of a member, by its node
abbrev pub node_name : Node → Text
node_name node = record { len = slice_index node.words 3; from_end = slice_index node.words 4 }

-- the count of nodes before what is inside a node's value
abbrev pub content_start : Node → ℕ
content_start node = slice_index node.words 5

-- the text that a node is
abbrev pub text_of : Node → Text
text_of node = record { len = slice_index node.words 1; from_end = slice_index node.words 2 }

-- what is seen of a node's value
unfoldable pub seen_node : Contents → Node → Option Seen
seen_node a node =
    let kind = slice_index node.words 0 in
    if kind == NULL then None
    else if kind == NATURAL then Some (natural (slice_index node.words 1 + WORD_VALUES * slice_index node.words 2))
    else if kind == NEGATIVE then Some negative
    else if kind == TEXT then Some (text (text_at a (text_of node)))
    else Some other

-- what is seen of a node that has a name; what was found where it has another
abbrev pub seen_if : Contents → List ℕ → Node → Option Seen → Option Seen
seen_if a name node found = if bytes_eq name (text_at a (node_name node)) then seen_node a node else found

-- what is seen under a name of the members that begin at `start`, from the last, which ends before `end`, to the
-- first, and no more of them than n; among members of one name the first decides
abbrev pub seen_before : ℕ → Contents → ℕ → List ℕ → ℕ → Option Seen → Option Seen
seen_before zero a start name end found = found
seen_before (suc n) a start name end found =
    if nat_lt start end then seen_before n a start name (content_start (node_at a (end - 1)))
    (seen_if a name (node_at a (end - 1)) found) else found

-- what is seen under a name
unfoldable pub seen_under : Placed → List ℕ → Option Seen
seen_under p name = seen_before p.index p.contents (content_start (node_at p.contents p.index)) name p.index None

-- what is seen of the last member of a name, of the same members; nothing where there is none
abbrev pub last_before : ℕ → Contents → ℕ → List ℕ → ℕ → Option Seen
last_before zero a start name end = None
last_before (suc n) a start name end =
    let node = node_at a (end - 1) in
    if nat_lt start end then seen_if a name node (last_before n a start name (content_start node)) else None

-- what is seen of the last member of a name
unfoldable pub last_under : Placed → List ℕ → Option Seen
last_under p name = last_before p.index p.contents (content_start (node_at p.contents p.index)) name p.index

-- the last member of each name is also the first: no two have one name
abbrev pub HasDistinctMembers : Placed → Type 0
HasDistinctMembers p = (name : List ℕ) → last_under p name ≡ seen_under p name

-- what is seen of an object's members
abbrev pub placed_members : Placed → SeenMembers
placed_members p m = seen_under p (member_name m)

-- if the node is a text, its bytes are there, and are UTF-8
abbrev pub HoldsItsText : Contents → Node → Type 0
HoldsItsText a node = slice_index node.words 0 ≡ TEXT → HoldsText a (text_of node) × IsUtf8 (text_at a (text_of node))

-- the node is there with its name and, if it is one, its text; what is inside it lies before it
pub record IsHeld (a : Contents) (i : ℕ) : Type 0 where
  pub node : i < length a.nodes
  pub start : content_start (node_at a i) ≤ i
  pub name : HoldsText a (node_name (node_at a i))
  pub text : HoldsItsText a (node_at a i)

-- so are the members that begin at `start`, from the last, which ends before `end`, to the first
abbrev pub AreHeld : ℕ → Contents → ℕ → ℕ → Type 0
AreHeld zero a start end = end ≤ start
AreHeld (suc n) a start end = start < end → IsHeld a (end - 1) × AreHeld n a start (content_start (node_at a (end - 1)))

-- the node of an object is there, and its members are
abbrev pub IsHeldDocument : Contents → ℕ → Type 0
IsHeldDocument a index = (index < length a.nodes) × AreHeld index a (content_start (node_at a index)) index
