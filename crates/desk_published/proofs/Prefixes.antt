-- Prefixes of one list.
use Rattle.std.proofs.Common.{◌≡◌, ◌+◌, ◌-◌, ◌≤◌, List, [], ◌∷◌, ◌++◌, length, take, refl, ap, sym, ◌∙◌, arith}
use Rattle.std.proofs.Common.{append-nil, length-append}
use mathlib.Core.List.{IsPrefix}

pub prefix_self : {A : Type 0} (xs : List A) → IsPrefix xs xs
prefix_self xs = ([], append-nil xs)

by_length : {A : Type 0} (xs ys a b : List A) → xs ++ a ≡ ys ++ b → length xs ≤ length ys → IsPrefix xs ys
by_length [] ys a b e le = (ys, refl)
by_length (x ∷ xs) [] a b e le = absurd (omega arith)
by_length (x ∷ xs) (y ∷ ys) a b e le = let r = by_length xs ys a b (cc e) (omega arith) in (r.0, cc (e, r.1))

-- of two prefixes of one list the shorter is a prefix of the longer
pub prefix_shorter : {A : Type 0} (xs ys zs : List A) → IsPrefix xs zs → IsPrefix ys zs →
    length xs ≤ length ys → IsPrefix xs ys
prefix_shorter xs ys zs p q le = by_length xs ys p.0 q.0 (p.1 ∙ sym q.1) le

no_rest : {A : Type 0} (xs rest ys : List A) → xs ++ rest ≡ ys → length ys ≤ length xs → xs ≡ ys
no_rest xs [] ys e le = sym (append-nil xs) ∙ e
no_rest xs (r ∷ rest) ys e le = absurd (omega (arith, ap length e, length-append xs (r ∷ rest)))

-- a prefix as long as the whole is the whole
pub prefix_whole : {A : Type 0} (xs ys : List A) → IsPrefix xs ys → length ys ≤ length xs → xs ≡ ys
prefix_whole xs ys p le = no_rest xs p.0 ys p.1 le

-- a prefix that is shorter by one, of a list that ends with x
pub prefix_last : {A : Type 0} (xs start : List A) (x : A) (ys : List A) → ys ≡ start ++ x ∷ [] →
    IsPrefix xs ys → length ys ≡ length xs + 1 → ys ≡ xs ++ x ∷ []
prefix_last xs start x ys e p len =
    let more : length ys ≡ length start + 1 = ap length e ∙ length-append start (x ∷ []) in
    let pre : IsPrefix xs start = prefix_shorter xs start ys p (x ∷ [], sym e) (omega arith) in
    let same : xs ≡ start = prefix_whole xs start pre (omega arith) in
    e ∙ ap (λ w. w ++ x ∷ []) (sym same)

take_start : {A : Type 0} (xs : List A) (x : A) → take (length xs) (xs ++ x ∷ []) ≡ xs
take_start [] x = refl
take_start (y ∷ xs) x = ap (λ w. y ∷ w) (take_start xs x)

-- a list that was put together with x at its end ends with it
pub ends_with : {A : Type 0} (xs : List A) (x : A) (ys : List A) → ys ≡ xs ++ x ∷ [] →
    ys ≡ take (length ys - 1) ys ++ x ∷ []
ends_with xs x ys e =
    let n : length ys - 1 ≡ length xs = omega (arith, ap length e ∙ length-append xs (x ∷ [])) in
    e ∙ ap (λ w. w ++ x ∷ []) (sym (ap (λ k. take k ys) n ∙ ap (take (length xs)) e ∙ take_start xs x))
