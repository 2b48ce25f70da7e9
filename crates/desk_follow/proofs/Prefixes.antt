-- What stands after a prefix.
use Rattle.std.proofs.Common.{◌≡◌, ◌≢◌, ℕ, List, [], ◌∷◌, ◌++◌, Option, None, Some, option_map, Bool, true, false, cond}
use Rattle.std.proofs.Common.{eqb, refl, sym, ap, eqb-true}
use Rattle.std.specs.Option.{MatchOption}
use Rattle.std.proofs.lemmas.Bool.{eq-eqb}
use Rattle.std.proofs.lemmas.Option.{none-some, same_Some}
use denote.Ref.{Bor}
use Rattle.desk_follow.specs.Readings.{after_prefix}

pub after_itself : (prefix rest : List ℕ) → after_prefix prefix (prefix ++ rest) ≡ Some rest
after_itself [] rest = refl
after_itself (p ∷ prefix) rest = rw (eq-eqb p p refl) (after_itself prefix rest)

after_at : (p b : ℕ) (prefix text rest : List ℕ) (same : Bool) → eqb b p ≡ same →
    (after_prefix prefix text ≡ Some rest → text ≡ prefix ++ rest) →
    cond same (after_prefix prefix text) None ≡ Some rest → b ∷ text ≡ p ∷ (prefix ++ rest)
after_at p b prefix text rest true e h k = rw (eqb-true b p e, h k) refl
after_at p b prefix text rest false e h k = absurd (none-some rest k)

after_is : (prefix text rest : List ℕ) → after_prefix prefix text ≡ Some rest → text ≡ prefix ++ rest
after_is [] text rest h = same_Some _ _ h
after_is (p ∷ prefix) [] rest h = absurd (none-some rest h)
after_is (p ∷ prefix) (b ∷ text) rest h =
    after_at p b prefix text rest (eqb b p) refl (after_is prefix text rest) h

none_if : (o : Option (List ℕ)) → ((rest : List ℕ) → o ≡ Some rest → ⊥) → o ≡ None
none_if None h = refl
none_if (Some x) h = absurd (h x refl)

-- what was found is what stands there
pub found : (text prefix : List ℕ) (r : Option (Bor (List ℕ))) →
    MatchOption r ((rest : List ℕ) → text ≢ prefix ++ rest) (λ x. text ≡ prefix ++ x.now) →
    option_map (λ rest. rest.now) r ≡ after_prefix prefix text
found text prefix None h = sym (none_if (after_prefix prefix text) (λ rest e. h rest (after_is prefix text rest e)))
found text prefix (Some x) h = rw h (sym (after_itself prefix x.now))
