-- All, AllPairs, find, list_any and count_by of a list with one more element, with one element or each changed, or with
-- some left out.
use Rattle.std.proofs.Common.{◌≡◌, ◌≤◌, ◌+◌, ◌⊎◌, inl, inr, ℕ, List, [], ◌∷◌, ◌++◌, map, Bool, true, false, ◌||◌}
use Rattle.std.proofs.Common.{Option, Some, None, cond, arith, refl, ap, subst, append-nil, All}
use Rattle.std.specs.List.{find, list_any, count_by, AllPairs}
use Rattle.std.proofs.lemmas.Bool.{cond_both, or_parts, or_left, or_right, or_cases, false≢true}
use Rattle.std.proofs.lemmas.List.{append_assoc}
use Rattle.std.proofs.lemmas.List.Elements.{All-nil, All-cons, All-head, All-tail}
use Rattle.std.proofs.lemmas.List.Sums.{sum_by-cons}
use Rattle.std.proofs.lemmas.Option.{none-some, same_Some}
use Rattle.desk_log.proofs.Lists.{Each, Pairs, all_from_each, each_from_all, all_pairs_from_pairs, pairs_from_all_pairs}
use Rattle.desk_types.specs.Lists.{update_first}

-- All

-- two facts of each element make a third
pub All-both : {A : Type 0} (P Q R : A → Type 0) → ((x : A) → P x → Q x → R x) → (xs : List A) → All P xs → All Q xs →
    All R xs
All-both P Q R w xs h k = λ i d l. w _ (h i d l) (k i d l)

-- what is changed is known to pass the test
pub All-update_first : {A : Type 0} (P : A → Type 0) (p : A → Bool) (f : A → A) →
    ((x : A) → p x ≡ true → P x → P (f x)) → (xs : List A) → All P xs → All P (update_first p f xs)
All-update_first P p f w [] h = h
All-update_first P p f w (x ∷ xs) h =
    let first : P x = All-head P x xs h in
    let later : All P xs = All-tail P x xs h in
    let rest : All P (update_first p f xs) = All-update_first P p f w xs later in
    cond_both (p x) (f x ∷ xs) (x ∷ update_first p f xs) (All P) (λ t. All-cons P (f x) xs (w x t first) later)
    (λ _. All-cons P x (update_first p f xs) first rest)

-- AllPairs

each_push : {A : Type 0} (P : A → Type 0) (xs : List A) (y : A) → Each P xs → P y → Each P (xs ++ y ∷ [])
each_push P [] y h k = (k, tt)
each_push P (x ∷ xs) y h k = (h.0, each_push P xs y h.1 k)

pairs_push : {A : Type 0} (R : A → A → Type 0) (xs : List A) (y : A) → Pairs R xs → Each (λ x. R x y) xs →
    Pairs R (xs ++ y ∷ [])
pairs_push R [] y h k = (tt, tt)
pairs_push R (x ∷ xs) y h k = (each_push (R x) xs y h.0 k.0, pairs_push R xs y h.1 k.1)

pub AllPairs-push : {A : Type 0} (R : A → A → Type 0) (xs : List A) (y : A) → AllPairs R xs → All (λ x. R x y) xs →
    AllPairs R (xs ++ y ∷ [])
AllPairs-push R xs y h k =
    all_pairs_from_pairs R (xs ++ y ∷ []) (pairs_push R xs y (pairs_from_all_pairs R xs h)
    (each_from_all (λ x. R x y) xs k))

pub AllPairs-weaker : {A : Type 0} (R S : A → A → Type 0) → ((x y : A) → R x y → S x y) → (xs : List A) →
    AllPairs R xs → AllPairs S xs
AllPairs-weaker R S w xs h = λ i j d before within. w _ _ (h i j d before within)

each_changed : {A : Type 0} (P : A → Type 0) (p : A → Bool) (f : A → A) → ((x : A) → P x → P (f x)) → (xs : List A) →
    Each P xs → Each P (update_first p f xs)
each_changed P p f w xs h =
    each_from_all P (update_first p f xs) (All-update_first P p f (λ x _ k. w x k) xs (all_from_each P xs h))

each_weaker : {A : Type 0} (P Q : A → Type 0) → ((x : A) → P x → Q x) → (xs : List A) → Each P xs → Each Q xs
each_weaker P Q w [] h = tt
each_weaker P Q w (x ∷ xs) h = (w x h.0, each_weaker P Q w xs h.1)

pairs_changed : {A : Type 0} (R : A → A → Type 0) (p : A → Bool) (f : A → A) →
    ((x y : A) → R x y → R (f x) y) → ((x y : A) → R x y → R x (f y)) → (xs : List A) → Pairs R xs →
    Pairs R (update_first p f xs)
pairs_changed R p f l r [] h = tt
pairs_changed R p f l r (x ∷ xs) h =
    let rest : Pairs R (update_first p f xs) = pairs_changed R p f l r xs h.1 in
    let later : Each (R x) (update_first p f xs) = each_changed (R x) p f (λ y k. r x y k) xs h.0 in
    let changed : Each (R (f x)) xs = each_weaker (R x) (R (f x)) (λ y k. l x y k) xs h.0 in
    cond_both (p x) (f x ∷ xs) (x ∷ update_first p f xs) (Pairs R) (λ _. (changed, h.1)) (λ _. (later, rest))

pub AllPairs-update_first : {A : Type 0} (R : A → A → Type 0) (p : A → Bool) (f : A → A) →
    ((x y : A) → R x y → R (f x) y) → ((x y : A) → R x y → R x (f y)) → (xs : List A) → AllPairs R xs →
    AllPairs R (update_first p f xs)
AllPairs-update_first R p f l r xs h =
    all_pairs_from_pairs R (update_first p f xs) (pairs_changed R p f l r xs (pairs_from_all_pairs R xs h))

each_map : {A B : Type 0} (P : B → Type 0) (f : A → B) (xs : List A) → Each (λ x. P (f x)) xs → Each P (map f xs)
each_map P f [] h = tt
each_map P f (x ∷ xs) h = (h.0, each_map P f xs h.1)

pairs_map : {A B : Type 0} (R : B → B → Type 0) (f : A → B) (xs : List A) → Pairs (λ x y. R (f x) (f y)) xs →
    Pairs R (map f xs)
pairs_map R f [] h = tt
pairs_map R f (x ∷ xs) h = (each_map (R (f x)) f xs h.0, pairs_map R f xs h.1)

pub AllPairs-map : {A B : Type 0} (R : B → B → Type 0) (f : A → B) (xs : List A) → AllPairs (λ x y. R (f x) (f y)) xs →
    AllPairs R (map f xs)
AllPairs-map R f xs h =
    all_pairs_from_pairs R (map f xs) (pairs_map R f xs (pairs_from_all_pairs (λ x y. R (f x) (f y)) xs h))

-- the first element beside the later ones, and these
pub AllPairs-first : {A : Type 0} (R : A → A → Type 0) (x : A) (xs : List A) → AllPairs R (x ∷ xs) → All (R x) xs
AllPairs-first R x xs h = all_from_each (R x) xs (pairs_from_all_pairs R (x ∷ xs) h).0

pub AllPairs-later : {A : Type 0} (R : A → A → Type 0) (x : A) (xs : List A) → AllPairs R (x ∷ xs) → AllPairs R xs
AllPairs-later R x xs h = all_pairs_from_pairs R xs (pairs_from_all_pairs R (x ∷ xs) h).1

pub map-update_first : {A B : Type 0} (key : A → B) (p : A → Bool) (f : A → A) → ((x : A) → key (f x) ≡ key x) →
    (xs : List A) → map key (update_first p f xs) ≡ map key xs
map-update_first key p f w [] = refl
map-update_first key p f w (x ∷ xs) =
    cond_both (p x) (f x ∷ xs) (x ∷ update_first p f xs) (λ ys. map key ys ≡ key x ∷ map key xs)
    (λ _. ap (λ k. k ∷ map key xs) (w x)) (λ _. ap (λ ks. key x ∷ ks) (map-update_first key p f w xs))

-- list_any

-- where no element passes a test
pub none_passes : {A : Type 0} (p : A → Bool) (xs : List A) → list_any p xs ≡ false → All (λ x. p x ≡ false) xs
none_passes p [] h = All-nil (λ x. p x ≡ false)
none_passes p (x ∷ xs) h =
    let parts : (p x ≡ false) × (list_any p xs ≡ false) = or_parts _ _ h in
    All-cons (λ y. p y ≡ false) x xs parts.0 (none_passes p xs parts.1)

none_step : {A : Type 0} (P : Type 0) (t : Bool) (x : A) (rest : Option A) → (rest ≡ None → P) →
    cond t (Some x) rest ≡ None → (t ≡ false) × P
none_step P true x rest w e = absurd (cc)
none_step P false x rest w e = (refl, w e)

-- where none is found that passes a test
pub none_found : {A : Type 0} (p : A → Bool) (xs : List A) → find p xs ≡ None → All (λ x. p x ≡ false) xs
none_found p [] e = All-nil (λ x. p x ≡ false)
none_found p (x ∷ xs) e =
    let parts : (p x ≡ false) × All (λ y. p y ≡ false) xs =
    none_step (All (λ y. p y ≡ false) xs) (p x) x (find p xs) (none_found p xs) e in
    All-cons (λ y. p y ≡ false) x xs parts.0 parts.1

passes_step : {A : Type 0} (p : A → Bool) (t : Bool) (x y : A) (rest : Option A) → p x ≡ t →
    (rest ≡ Some y → p y ≡ true) → cond t (Some x) rest ≡ Some y → p y ≡ true
passes_step p true x y rest h k e = let same : x ≡ y = same_Some _ _ e in rw (← same) h
passes_step p false x y rest h k e = k e

-- what was found passes
pub find_passes : {A : Type 0} (p : A → Bool) (xs : List A) (y : A) → find p xs ≡ Some y → p y ≡ true
find_passes p [] y e = absurd (none-some y e)
find_passes p (x ∷ xs) y e = passes_step p (p x) x y (find p xs) refl (find_passes p xs y) e

holds_step : {A : Type 0} (P : A → Type 0) (t : Bool) (x y : A) (rest : Option A) → P x → (rest ≡ Some y → P y) →
    cond t (Some x) rest ≡ Some y → P y
holds_step P true x y rest h k e = subst P (same_Some _ _ e) h
holds_step P false x y rest h k e = k e

-- What holds of each element holds of one that was found.
pub All-found : {A : Type 0} (P : A → Type 0) (p : A → Bool) (xs : List A) (y : A) → find p xs ≡ Some y → All P xs → P y
All-found P p [] y e h = absurd (none-some y e)
All-found P p (x ∷ xs) y e h =
    holds_step P (p x) x y (find p xs) (All-head P x xs h) (λ k. All-found P p xs y k (All-tail P x xs h)) e

found_step : {A : Type 0} (q : A → Bool) (t rest : Bool) (x y : A) (found : Option A) → q y ≡ true →
    (found ≡ Some y → rest ≡ true) → cond t (Some x) found ≡ Some y → (q x || rest) ≡ true
found_step q true rest x y found h k e = or_left (q x) rest (let same : x ≡ y = same_Some _ _ e in rw same h)
found_step q false rest x y found h k e = or_right _ _ (k e)

-- what was found by one test may pass another
pub list_any-found : {A : Type 0} (p q : A → Bool) (xs : List A) (y : A) → find p xs ≡ Some y → q y ≡ true →
    list_any q xs ≡ true
list_any-found p q [] y e h = absurd (none-some y e)
list_any-found p q (x ∷ xs) y e h =
    found_step q (p x) (list_any q xs) x y (find p xs) h (λ k. list_any-found p q xs y k h) e

list_any_more : (t u v : Bool) → (u ≡ true → v ≡ true) → (t || u) ≡ true → (t || v) ≡ true
list_any_more true u v w h = refl
list_any_more false u v w h = w h

pub list_any-push : {A : Type 0} (q : A → Bool) (xs : List A) (y : A) → list_any q xs ≡ true →
    list_any q (xs ++ y ∷ []) ≡ true
list_any-push q [] y h = absurd (false≢true h)
list_any-push q (x ∷ xs) y h =
    list_any_more (q x) (list_any q xs) (list_any q (xs ++ y ∷ [])) (list_any-push q xs y) h

pub list_any-last : {A : Type 0} (q : A → Bool) (xs : List A) (y : A) → q y ≡ true → list_any q (xs ++ y ∷ []) ≡ true
list_any-last q [] y h = or_left _ _ h
list_any-last q (x ∷ xs) y h = or_right _ _ (list_any-last q xs y h)

update_step : {A : Type 0} (q : A → Bool) (f : A → A) (t : Bool) (x y : A) (xs ys : List A) (found : Option A) →
    (q y ≡ true → q (f y) ≡ true) → (found ≡ Some y → list_any q xs ≡ true → list_any q ys ≡ true) →
    cond t (Some x) found ≡ Some y → (q x || list_any q xs) ≡ true → list_any q (cond t (f x ∷ xs) (x ∷ ys)) ≡ true
update_step q f true x y xs ys found w k e h = by_case (or_cases _ _ h)
  where
    same : x ≡ y
    same = same_Some _ _ e

    by_case : (q x ≡ true) ⊎ (list_any q xs ≡ true) → (q (f x) || list_any q xs) ≡ true
    by_case (inl a) =
        or_left (q (f x)) (list_any q xs) (let mine : q y ≡ true = rw (← same) a in let made : q (f y) ≡ true =
        w mine in rw same made)
    by_case (inr a) = or_right _ _ a
update_step q f false x y xs ys found w k e h = by_case (or_cases _ _ h)
  where
    by_case : (q x ≡ true) ⊎ (list_any q xs ≡ true) → (q x || list_any q ys) ≡ true
    by_case (inl a) = or_left _ _ a
    by_case (inr a) = or_right _ _ (k e a)

-- what passes still passes after a change of the element found, if that one still does
pub list_any-update_first : {A : Type 0} (p q : A → Bool) (f : A → A) (xs : List A) (y : A) → find p xs ≡ Some y →
    (q y ≡ true → q (f y) ≡ true) → list_any q xs ≡ true → list_any q (update_first p f xs) ≡ true
list_any-update_first p q f [] y e w h = absurd (none-some y e)
list_any-update_first p q f (x ∷ xs) y e w h =
    update_step q f (p x) x y xs (update_first p f xs) (find p xs) w (λ k. list_any-update_first p q f xs y k w) e h

-- a change that no test can see
pub list_any-unseen : {A : Type 0} (p q : A → Bool) (f : A → A) → ((x : A) → q (f x) ≡ q x) → (xs : List A) →
    list_any q (update_first p f xs) ≡ list_any q xs
list_any-unseen p q f w [] = refl
list_any-unseen p q f w (x ∷ xs) =
    cond_both (p x) (f x ∷ xs) (x ∷ update_first p f xs) (λ ys. list_any q ys ≡ (q x || list_any q xs))
    (λ _. ap (λ t. t || list_any q xs) (w x)) (λ _. ap (λ t. q x || t) (list_any-unseen p q f w xs))

-- one element more that does not pass
pub list_any-push_other : {A : Type 0} (q : A → Bool) (xs : List A) (y : A) → q y ≡ false →
    list_any q (xs ++ y ∷ []) ≡ list_any q xs
list_any-push_other q [] y h = rw h refl
list_any-push_other q (x ∷ xs) y h = ap (λ t. q x || t) (list_any-push_other q xs y h)

pub list_any-map : {A B : Type 0} (q : B → Bool) (f : A → B) (xs : List A) →
    list_any q (map f xs) ≡ list_any (λ x. q (f x)) xs
list_any-map q f [] = refl
list_any-map q f (x ∷ xs) = ap (λ t. q (f x) || t) (list_any-map q f xs)

-- counts

pub count_by-cons : {A : Type 0} (q : A → Bool) (x : A) (xs : List A) →
    count_by q (x ∷ xs) ≡ cond (q x) 1 0 + count_by q xs
count_by-cons q x xs = sum_by-cons (λ y. cond (q y) 1 0) x xs

pub count_by-push : {A : Type 0} (q : A → Bool) (xs : List A) (y : A) →
    count_by q (xs ++ y ∷ []) ≡ count_by q xs + cond (q y) 1 0
count_by-push q [] y = refl
count_by-push q (x ∷ xs) y =
    rw (count_by-cons q x xs, count_by-cons q x (xs ++ y ∷ [])) (omega (arith, count_by-push q xs y))

pub count_by-none : {A : Type 0} (q : A → Bool) (xs : List A) → All (λ x. q x ≡ false) xs → count_by q xs ≡ 0
count_by-none q [] h = refl
count_by-none q (x ∷ xs) h =
    let first : q x ≡ false = All-head (λ y. q y ≡ false) x xs h in
    let later : All (λ y. q y ≡ false) xs = All-tail (λ y. q y ≡ false) x xs h in
    rw (count_by-cons q x xs, first, count_by-none q xs later) refl

one_of_step : (t u v : Bool) (m n k : ℕ) → (t ≡ true → (u ≡ true) ⊎ (v ≡ true)) → m ≤ n + k →
    cond t 1 0 + m ≤ (cond u 1 0 + n) + (cond v 1 0 + k)
one_of_step false u v m n k w h = omega (arith, h)
one_of_step true u v m n k w h = by_case (w refl)
  where
    by_case : (u ≡ true) ⊎ (v ≡ true) → 1 + m ≤ (cond u 1 0 + n) + (cond v 1 0 + k)
    by_case (inl e) = rw e (omega (arith, h))
    by_case (inr e) = rw e (omega (arith, h))

-- what passes one test passes one of two others
pub count_by-one_of : {A : Type 0} (q r s : A → Bool) → ((x : A) → q x ≡ true → (r x ≡ true) ⊎ (s x ≡ true)) →
    (xs : List A) → count_by q xs ≤ count_by r xs + count_by s xs
count_by-one_of q r s w [] = omega arith
count_by-one_of q r s w (x ∷ xs) =
    rw (count_by-cons q x xs, count_by-cons r x xs, count_by-cons s x xs)
    (one_of_step (q x) (r x) (s x) (count_by q xs) (count_by r xs) (count_by s xs) (w x) (count_by-one_of q r s w xs))

less_step : (t u : Bool) (m n : ℕ) → (t ≡ true → u ≡ true) → m ≤ n → cond t 1 0 + m ≤ cond u 1 0 + n
less_step false u m n w h = omega (arith, h)
less_step true u m n w h = rw (w refl) (omega (arith, h))

-- what passes one test passes another
pub count_by-less : {A : Type 0} (q r : A → Bool) → ((x : A) → q x ≡ true → r x ≡ true) → (xs : List A) →
    count_by q xs ≤ count_by r xs
count_by-less q r w [] = omega arith
count_by-less q r w (x ∷ xs) =
    rw (count_by-cons q x xs, count_by-cons r x xs)
    (less_step (q x) (r x) (count_by q xs) (count_by r xs) (w x) (count_by-less q r w xs))

pub count_by-map : {A B : Type 0} (q : B → Bool) (f : A → B) (xs : List A) →
    count_by q (map f xs) ≡ count_by (λ x. q (f x)) xs
count_by-map q f [] = refl
count_by-map q f (x ∷ xs) =
    rw (count_by-cons q (f x) (map f xs), count_by-cons (λ y. q (f y)) x xs)
    (ap (λ n. cond (q (f x)) 1 0 + n) (count_by-map q f xs))

one_more : (t u : Bool) (m : ℕ) → cond t 1 0 + m ≤ cond u 1 0 + m + 1
one_more true true m = omega arith
one_more true false m = omega arith
one_more false true m = omega arith
one_more false false m = omega arith

-- a change of one element adds one at most
pub count_by-update_first : {A : Type 0} (q p : A → Bool) (f : A → A) (xs : List A) →
    count_by q (update_first p f xs) ≤ count_by q xs + 1
count_by-update_first q p f [] = omega arith
count_by-update_first q p f (x ∷ xs) =
    let rest : count_by q (update_first p f xs) ≤ count_by q xs + 1 = count_by-update_first q p f xs in
    rw (count_by-cons q x xs) (cond_both (p x) (f x ∷ xs) (x ∷ update_first p f xs)
    (λ ys. count_by q ys ≤ cond (q x) 1 0 + count_by q xs + 1)
    (λ _. rw (count_by-cons q (f x) xs) (one_more (q (f x)) (q x) (count_by q xs)))
    (λ _. rw (count_by-cons q x (update_first p f xs)) (omega (arith, rest))))

-- and none if the changed one does not pass
pub count_by-update_first-none : {A : Type 0} (q p : A → Bool) (f : A → A) → ((x : A) → q (f x) ≡ false) →
    (xs : List A) → count_by q (update_first p f xs) ≤ count_by q xs
count_by-update_first-none q p f w [] = omega arith
count_by-update_first-none q p f w (x ∷ xs) =
    let rest : count_by q (update_first p f xs) ≤ count_by q xs = count_by-update_first-none q p f w xs in
    rw (count_by-cons q x xs) (cond_both (p x) (f x ∷ xs) (x ∷ update_first p f xs)
    (λ ys. count_by q ys ≤ cond (q x) 1 0 + count_by q xs)
    (λ _. rw (count_by-cons q (f x) xs, w x) (omega arith)) (λ _. rw (count_by-cons q x (update_first p f xs))
    (omega (arith, rest))))

-- growth at the end

grows : {A : Type 0} (Q : List A → Type 0) → ((xs : List A) (x : A) → Q xs → Q (xs ++ x ∷ [])) → (ys xs : List A) →
    Q xs → Q (xs ++ ys)
grows Q step [] xs h = rw (append-nil xs) h
grows Q step (y ∷ ys) xs h = subst Q (append_assoc xs (y ∷ []) ys) (grows Q step ys (xs ++ y ∷ []) (step xs y h))

-- what holds of a list, and stays true when an element is put last, holds of the list with any others after it
pub by_growth : {A : Type 0} (Q : List A → Type 0) (xs ys : List A) → Q xs →
    ((zs : List A) (z : A) → Q zs → Q (zs ++ z ∷ [])) → Q (xs ++ ys)
by_growth Q xs ys h step = grows Q step ys xs h
