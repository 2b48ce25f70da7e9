-- Lists of bytes that are one.
use Rattle.std.proofs.Common.{◌≡◌, ◌↔◌, ℕ, List, [], ◌∷◌, Bool, true, false, eqb, refl, subst}
use Rattle.std.proofs.lemmas.Bool.{and_parts, and_from, eqb-true, eq-eqb, false≢true}
use Rattle.desk_records.specs.Same.{are_same}

pub same_from_test : (xs ys : List ℕ) → are_same xs ys ≡ true → xs ≡ ys
same_from_test [] [] h = refl
same_from_test [] (y ∷ ys) h = absurd (false≢true h)
same_from_test (x ∷ xs) [] h = absurd (false≢true h)
same_from_test (x ∷ xs) (y ∷ ys) h =
    let parts = and_parts (eqb x y) (are_same xs ys) h in
    let first : x ≡ y = eqb-true x y parts.0 in
    let rest : xs ≡ ys = same_from_test xs ys parts.1 in
    cc

same_test : (xs : List ℕ) → are_same xs xs ≡ true
same_test [] = refl
same_test (x ∷ xs) = and_from (eqb x x) (are_same xs xs) (eq-eqb x x refl) (same_test xs)

pub test_from_same : (xs ys : List ℕ) → xs ≡ ys → are_same xs ys ≡ true
test_from_same xs ys e = subst (λ l. are_same xs l ≡ true) e (same_test xs)
