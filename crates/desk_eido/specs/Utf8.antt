-- That the texts inside a value are text.
use Rattle.std.specs.Prelude.{IsUtf8}
use Rattle.serde_json.specs.Data.{Data, null, boolean, number, string, array, object, Items, no_items, item, Members}
use Rattle.serde_json.specs.Data.{no_members, member}

abbrev mutual
  -- each text inside a value is UTF-8
  pub HasUtf8Texts : Data → Type 0
  HasUtf8Texts null = Unit {0}
  HasUtf8Texts (boolean b) = Unit {0}
  HasUtf8Texts (number n) = Unit {0}
  HasUtf8Texts (string s) = IsUtf8 s
  HasUtf8Texts (array ds) = ItemsHaveUtf8Texts ds
  HasUtf8Texts (object ms) = MembersHaveUtf8Texts ms

  -- each text inside the items of a list is
  pub ItemsHaveUtf8Texts : Items → Type 0
  ItemsHaveUtf8Texts no_items = Unit {0}
  ItemsHaveUtf8Texts (item d ds) = HasUtf8Texts d × ItemsHaveUtf8Texts ds

  -- each text inside the values of an object's members is
  pub MembersHaveUtf8Texts : Members → Type 0
  MembersHaveUtf8Texts no_members = Unit {0}
  MembersHaveUtf8Texts (member k d ms) = HasUtf8Texts d × MembersHaveUtf8Texts ms
