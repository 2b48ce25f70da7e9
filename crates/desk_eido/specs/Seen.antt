-- What a reader sees of a document.
use Rattle.std.specs.Prelude.{ℕ, List, Option, Some, None, option_and_then}
use Rattle.serde_json.specs.Data.{Num, Data}
use Rattle.serde_json.specs.Data as json
use Rattle.serde_json.specs.Find.{get}
use Rattle.desk_types.specs.declared.refusal.Member.{Member}
use Rattle.desk_types.specs.Refusal.{member_name}

-- a text, a whole number from 0 on, a negative whole number, or anything else
pub data Seen : Type 0 where
  text : List ℕ → Seen
  natural : ℕ → Seen
  negative : Seen
  other : Seen

-- what is seen of a number; one that is not held as a whole number is something else
abbrev pub seen_number : Num → Seen
seen_number (json.unsigned n) = natural n
seen_number (json.negative z) = negative
seen_number (json.float x) = other

-- what is seen of a value; null counts as absent
abbrev pub seen : Data → Option Seen
seen json.null = None
seen (json.boolean b) = Some other
seen (json.number n) = Some (seen_number n)
seen (json.string s) = Some (text s)
seen (json.array ds) = Some other
seen (json.object ms) = Some other

-- what is seen under the names of a document's members
abbrev pub SeenMembers : Type 0
SeenMembers = Member → Option Seen

-- what is seen of a value's members
abbrev pub seen_members : Data → SeenMembers
seen_members d m = option_and_then seen (get (member_name m) d)
