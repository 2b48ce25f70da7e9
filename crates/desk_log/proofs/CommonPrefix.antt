-- Where two lists stop beginning alike.
use Rattle.std.proofs.Common.{◌≡◌, ◌≢◌, ◌≤◌, ◌<◌, ℕ, zero, suc, List, [], ◌∷◌, length, take, get_or, sym, ◌∙◌, arith}
use Rattle.desk_types.specs.declared.command.Entry.{Entry}

same_head : {X : Type 0} (x y : X) (xs ys : List X) → x ∷ xs ≡ y ∷ ys → x ≡ y
same_head x y xs ys e = cc

same_tail : {X : Type 0} (x y : X) (xs ys : List X) → x ∷ xs ≡ y ∷ ys → xs ≡ ys
same_tail x y xs ys e = cc

-- Two lists that have unlike elements at an index begin alike at most up to it.
pub ends_before : (xs ys : List Entry) (i : ℕ) (a b : Entry) → i < length xs → i < length ys
    → a ≡ get_or xs i a → b ≡ get_or ys i b → a ≢ b → (k : ℕ) → take k xs ≡ take k ys → k ≤ i
ends_before [] ys i a b l m p q unlike k same = absurd (omega (arith, l))
ends_before (x ∷ xs) [] i a b l m p q unlike k same = absurd (omega (arith, m))
ends_before (x ∷ xs) (y ∷ ys) i a b l m p q unlike zero same = omega arith
ends_before (x ∷ xs) (y ∷ ys) zero a b l m p q unlike (suc k) same =
    absurd (unlike (p ∙ same_head x y (take k xs) (take k ys) same ∙ sym q))
ends_before (x ∷ xs) (y ∷ ys) (suc i) a b l m p q unlike (suc k) same =
    let below : k ≤ i = ends_before xs ys i a b (omega (arith, l)) (omega (arith, m)) p q unlike k
    (same_tail x y (take k xs) (take k ys) same) in
    omega (arith, below)
