-- How the copy of a value lies in an arena: what is inside it before it, and each value one node.
use Rattle.std.specs.Prelude.{◌≡◌, ℕ, ◌+◌, ◌++◌, ◌/◌, ◌%◌, if◌then◌else◌, [], ◌∷◌, List, length, IsTrue, is_some}
use Rattle.serde_json.specs.Data.{Num, unsigned, negative, float, Data, null, boolean, number, string, array, object}
use Rattle.serde_json.specs.Data.{Items, no_items, item, Members, no_members, member}
use Rattle.serde_json.specs.Find.{as_object}
use Rattle.desk_arena.specs.Contents.{Contents, with_node, with_text}
use Rattle.desk_arena.specs.declared.node.Node.{Node}
use Rattle.desk_arena.specs.declared.node.NodeId.{NodeId}
use Rattle.desk_arena.specs.declared.text.Text.{Text}
use Rattle.desk_eido.specs.declared.copy.TheConstants.{WORD_VALUES}
use Rattle.desk_eido.specs.declared.kind.TheConstants.{NULL, TRUTH_VALUE, NATURAL, NEGATIVE, OTHER_NUMBER, TEXT}
use Rattle.desk_eido.specs.declared.kind.TheConstants.{LIST, OBJECT}
use Rattle.desk_eido.specs.Names.{HasDistinctNames}
use Rattle.desk_eido.specs.Utf8.{HasUtf8Texts}

-- a node of a kind, with two words, the name of the member that it is, and the count of nodes before what is inside it
unfoldable pub copied_node : ℕ → ℕ → ℕ → Text → ℕ → Node
copied_node kind first second name start =
    record { words = kind ∷ first ∷ second ∷ name.len ∷ name.from_end ∷ start ∷ 0 ∷ 0 ∷ [] }

-- the name of a value that is no member
abbrev pub no_name : Text
no_name = record { len = 0; from_end = 0 }

-- where a text lies that is pushed next
abbrev pub next_text : Contents → List ℕ → Text
next_text a bytes = record { len = length bytes; from_end = length bytes + length a.texts }

-- a number: of a whole one from 0 on the low 32 bits and the high, of any other its kind alone
abbrev pub number_node : Num → Text → ℕ → Node
number_node (unsigned n) name start = copied_node NATURAL (n % WORD_VALUES) (n / WORD_VALUES) name start
number_node (negative z) name start = copied_node NEGATIVE 0 0 name start
number_node (float x) name start = copied_node OTHER_NUMBER 0 0 name start

-- a text, with its length and its distance from the end
abbrev pub text_node : Text → Text → ℕ → Node
text_node text name start = copied_node TEXT text.len text.from_end name start

abbrev mutual
  -- what an arena holds with a value of this name after all else
  pub with_copy : Data → Text → Contents → Contents
  with_copy null name a = with_node a (copied_node NULL 0 0 name (length a.nodes))
  with_copy (boolean b) name a = with_node a (copied_node TRUTH_VALUE (if b then 1 else 0) 0 name (length a.nodes))
  with_copy (number n) name a = with_node a (number_node n name (length a.nodes))
  with_copy (string s) name a = with_node (with_text a s) (text_node (next_text a s) name (length a.nodes))
  with_copy (array ds) name a = with_node (with_items ds a) (copied_node LIST 0 0 name (length a.nodes))
  with_copy (object ms) name a = with_node (with_members ms a) (copied_node OBJECT 0 0 name (length a.nodes))

  -- the same with the items of a list, in order
  pub with_items : Items → Contents → Contents
  with_items no_items a = a
  with_items (item d ds) a = with_items ds (with_copy d no_name a)

  -- the same with the members of an object, the text of each name before the value
  pub with_members : Members → Contents → Contents
  with_members no_members a = a
  with_members (member k d ms) a = with_members ms (with_copy d (next_text a k) (with_text a k))

-- What `a` holds stands in `b` as its oldest part: `b` may have more nodes after, and more texts in front.
abbrev pub IsPartOf : Contents → Contents → Type 0
IsPartOf a b =
    (b.capacity ≡ a.capacity) × ((more : List Node) × (b.nodes ≡ a.nodes ++ more))
    × ((more : List ℕ) × (b.texts ≡ more ++ a.texts))

-- the node is the last in the arena, and it and what is inside it are a value's copy
abbrev pub IsCopy : Data → NodeId → Contents → Type 0
IsCopy d id a = (before : Contents) × (a ≡ with_copy d no_name before) × (id.index + 1 ≡ length a.nodes)

-- the same, of some object whose texts are UTF-8 and whose members have distinct names
abbrev pub IsCopied : NodeId → Contents → Type 0
IsCopied id a = (d : Data) × IsTrue (is_some (as_object d)) × HasUtf8Texts d × HasDistinctNames d × IsCopy d id a
