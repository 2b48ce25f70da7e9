-- Prefixes of a list, as an equation and with what comes after; and what a publish leaves.
use Rattle.std.proofs.Common.{◌≡◌, ◌≢◌, ℕ, zero, suc, ◌≤◌, ◌<◌, ◌+◌, List, [], ◌∷◌, ◌++◌, length, take, drop, refl, sym}
use Rattle.std.proofs.Common.{◌∙◌, ap}
use Rattle.std.proofs.Common.{append_assoc, append-nil, arith, length-append, get_or, Bool, true, false, nat_eq, Result}
use Rattle.std.proofs.Common.{Ok, Err, MatchResult, MatchBool}
use Rattle.std.proofs.lemmas.Bool.Decides.{nat_tests}
use mathlib.Core.List.{IsPrefix}

take_drop : {A : Type 0} (n : ℕ) (xs : List A) → take n xs ++ drop n xs ≡ xs
take_drop zero xs = refl
take_drop (suc n) [] = refl
take_drop (suc n) (x ∷ xs) = ap (λ w. x ∷ w) (take_drop n xs)

take_length : {A : Type 0} (xs ys : List A) → take (length xs) (xs ++ ys) ≡ xs
take_length [] ys = refl
take_length (x ∷ xs) ys = ap (λ w. x ∷ w) (take_length xs ys)

-- the equation of a prefix
pub is_front : {A : Type 0} (xs ys : List A) → IsPrefix xs ys → xs ≡ take (length xs) ys
is_front xs ys p = sym (take_length xs p.0) ∙ ap (take (length xs)) p.1

-- and back
pub is_prefix : {A : Type 0} (xs ys : List A) → xs ≡ take (length xs) ys → IsPrefix xs ys
is_prefix xs ys e = (drop (length xs) ys, ap (λ w. w ++ drop (length xs) ys) e ∙ take_drop (length xs) ys)

pub prefix_trans : {A : Type 0} (xs ys zs : List A) → IsPrefix xs ys → IsPrefix ys zs → IsPrefix xs zs
prefix_trans xs ys zs p q = (p.0 ++ q.0, sym (append_assoc xs p.0 q.0) ∙ ap (λ w. w ++ q.0) p.1 ∙ q.1)

-- a list is a prefix of it with more
pub prefix_more : {A : Type 0} (xs ys zs : List A) → zs ≡ xs ++ ys → IsPrefix xs zs
prefix_more xs ys zs e = (ys, sym e)

pub length_take : {A : Type 0} (n : ℕ) (xs : List A) → n ≤ length xs → length (take n xs) ≡ n
length_take zero xs le = refl
length_take (suc n) [] le = absurd (omega arith)
length_take (suc n) (x ∷ xs) le = ap suc (length_take n xs (omega arith))

no_rest : {A : Type 0} (xs rest ys : List A) → xs ++ rest ≡ ys → length ys ≤ length xs → xs ≡ ys
no_rest xs [] ys e le = sym (append-nil xs) ∙ e
no_rest xs (r ∷ rest) ys e le = absurd (omega (arith, ap length e, length-append xs (r ∷ rest)))

-- a prefix with the next of the list
next_of : {A : Type 0} (xs log : List A) (x : A) → IsPrefix xs log → length xs < length log →
    x ≡ get_or log (length xs) x → IsPrefix (xs ++ x ∷ []) log
next_of [] [] x p lt e = absurd (omega arith)
next_of [] (y ∷ ys) x p lt e = (ys, ap (λ w. w ∷ ys) e)
next_of (z ∷ zs) [] x p lt e = absurd (omega arith)
next_of (z ∷ zs) (y ∷ ys) x p lt e = let r = next_of zs ys x (p.0, cc p.1) (omega arith) e in (r.0, cc (p.1, r.1))

-- and where the list goes on with entries after a front of it
pub next_after : {A : Type 0} (front xs log : List A) (k : ℕ) (x : A) → IsPrefix xs (front ++ log) →
    length xs ≡ length front + k → k < length log → x ≡ get_or log k x → IsPrefix (xs ++ x ∷ []) (front ++ log)
next_after [] xs log k x p at lt e =
    let same : length xs ≡ k = omega (arith, at) in
    next_of xs log x p (omega (arith, same, lt)) (e ∙ ap (λ (i : ℕ). get_or log i x) (sym same))
next_after (f ∷ front) [] log k x p at lt e = absurd (omega (arith, at))
next_after (f ∷ front) (y ∷ xs) log k x p at lt e =
    let r = next_after front xs log k x (p.0, cc p.1) (omega (arith, at)) lt e in (r.0, cc (p.1, r.1))

-- how many entries are the first so many of a list with others after them
pub length_followed : {A : Type 0} (base : ℕ) (list entries : List A) → base ≤ length list →
    length (take base list ++ entries) ≡ base + length entries
length_followed base list entries le =
    length-append (take base list) entries ∙ ap (λ n. n + length entries) (length_take base list le)

-- all that was noted, after a publish
pub all_after : {A E X : Type 0} (r : Result X E) (front old now pending left rest : List A) →
    front ≡ old ++ (pending ++ rest) →
    MatchResult r (λ _. (now ≡ old ++ pending) × (left ≡ [])) (λ _. (now ≡ old) × (left ≡ pending)) →
    front ≡ now ++ (left ++ rest)
all_after (Ok x) front old now pending left rest e h =
    e
    ∙ sym (append_assoc old pending rest)
    ∙ ap (λ w. w ++ rest) (sym h.0)
    ∙ ap (λ w. now ++ (w ++ rest)) (sym h.1)
all_after (Err x) front old now pending left rest e h =
    e ∙ ap (λ w. w ++ (pending ++ rest)) (sym h.0) ∙ ap (λ w. now ++ (w ++ rest)) (sym h.1)

-- what is published grows
pub grows_after : {A E X : Type 0} (r : Result X E) (old now pending left : List A) →
    MatchResult r (λ _. (now ≡ old ++ pending) × (left ≡ [])) (λ _. (now ≡ old) × (left ≡ pending)) → IsPrefix old now
grows_after (Ok x) old now pending left h = (pending, sym h.0)
grows_after (Err x) old now pending left h = ([], append-nil old ∙ sym h.0)

-- a prefix is the whole exactly where it is as long
pub whole_is : {A : Type 0} (b : Bool) (n m : ℕ) (shown list : List A) → nat_eq n m ≡ b → n ≡ length shown →
    IsPrefix shown list → length list ≡ m → MatchBool b (shown ≡ list) (shown ≢ list)
whole_is true n m shown list is len p all =
    let same : n ≡ m = grind (arith, nat_tests) in
    no_rest shown p.0 list p.1 (omega arith)
whole_is false n m shown list is len p all = λ same.
    let as_long : length shown ≡ length list = ap length same in
    let e : n ≡ m = omega arith in
    absurd (grind (arith, nat_tests))

-- a prefix of a list is one of what the list goes on to
pub front_goes_on : {A : Type 0} (xs ys zs : List A) → xs ≡ take (length xs) ys → IsPrefix ys zs →
    xs ≡ take (length xs) zs
front_goes_on xs ys zs e p = is_front xs zs (prefix_trans xs ys zs (is_prefix xs ys e) p)
