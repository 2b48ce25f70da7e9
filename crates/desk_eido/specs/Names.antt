-- That no two members of an object have one name.
use Rattle.std.specs.Prelude.{◌≡◌, None}
use Rattle.serde_json.specs.Data.{Data, null, boolean, number, string, array, object, Members, no_members, member}
use Rattle.serde_json.specs.Find.{get_member}

-- after each member there is none of its name
abbrev pub HaveDistinctNames : Members → Type 0
HaveDistinctNames no_members = Unit {0}
HaveDistinctNames (member k d ms) = (get_member k ms ≡ None) × HaveDistinctNames ms

-- so it is with the members of an object
abbrev pub HasDistinctNames : Data → Type 0
HasDistinctNames null = Unit {0}
HasDistinctNames (boolean b) = Unit {0}
HasDistinctNames (number n) = Unit {0}
HasDistinctNames (string s) = Unit {0}
HasDistinctNames (array ds) = Unit {0}
HasDistinctNames (object ms) = HaveDistinctNames ms
