-- The names of a map's entries are distinct.
use Rattle.std.proofs.Common.{◌≡◌, List, [], ◌∷◌, None, String, Global, string_bytes, string_cmp, Less, refl}
use Rattle.std.specs.List.{AllByRecursion}
use Rattle.std.specs.List.Sorted.{IsStrictlySortedBy}
use Rattle.std.specs.Map.{keys_of}
use Rattle.serde_json.specs.Find.{get_member}
use Rattle.serde_json.specs.View.{members_view}
use Rattle.serde_json.proofs.Views.{Entry}
use Rattle.desk_eido.specs.Names.{HaveDistinctNames}

not_after : (k : String Global) (es : List Entry) → AllByRecursion (λ y. string_cmp k y ≡ Less) (keys_of es) →
    get_member (string_bytes k) (members_view es) ≡ None
not_after k [] h = refl
not_after k (e ∷ es) h = rw h.0 (not_after k es h.1)

pub distinct-sorted : (es : List Entry) → IsStrictlySortedBy string_cmp (keys_of es) →
    HaveDistinctNames (members_view es)
unfolding IsStrictlySortedBy
distinct-sorted [] h = tt
distinct-sorted (e ∷ es) h = (not_after e.0 es h.0, distinct-sorted es h.1)
