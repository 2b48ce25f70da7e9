-- Tests of all parts of a text, and hosts that are given.
use Rattle.std.proofs.Common.{◌≡◌, ◌<◌, ℕ, Bool, true, List, All, Option, Some, String, MatchBool, length, subst, sym}
use Rattle.std.specs.Prelude.{⊤, string_bytes}
use Rattle.std.specs.List.{AllWithin, HoldsAt}
use Rattle.std.proofs.lemmas.List.Elements.{All-from_all_within}
use Rattle.desk_options.specs.Hosts.{hosts_in, AreHosts, AreAllowed}

-- all passed
pub all_of : {A : Type 0} (P : A → Type 0) (xs : List A) (r : Bool) → r ≡ true →
    MatchBool r (AllWithin P xs 0 (length xs)) ((k : ℕ) × (k < length xs) × HoldsAt (λ _. ⊤) xs k) → All P xs
all_of P xs r e h =
    All-from_all_within P xs
    (subst (λ b. MatchBool b (AllWithin P xs 0 (length xs)) ((k : ℕ) × (k < length xs) × HoldsAt (λ _. ⊤) xs k)) e h)

-- hosts that are given may be given where those of their text may
pub allowed_by : {A : Type 0} (has_key : Bool) (nodes : ℕ) (given : Option (String A)) (text : String A)
    (bytes : List ℕ) → given ≡ Some text → bytes ≡ string_bytes text →
    (AreHosts has_key (hosts_in bytes) × (length (hosts_in bytes) ≡ nodes)) → AreAllowed has_key nodes given
allowed_by has_key nodes given text bytes g b h =
    subst (AreAllowed has_key nodes) (sym g)
    (subst (λ t. AreHosts has_key (hosts_in t) × (length (hosts_in t) ≡ nodes)) b h)
