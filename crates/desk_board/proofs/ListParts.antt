-- The elements of a list that pass a test, so many of them at most, as a loop comes to them.
use Rattle.std.proofs.Common.{◌≡◌, ◌≢◌, ◌≤◌, ◌<◌, ◌+◌, ◌∙◌, ℕ, zero, suc, Bool, true, false, List, [], ◌∷◌, ◌++◌}
use Rattle.std.proofs.Common.{length, map, filter, take, drop, slice_get, slice_index_or, Some, None}
use Rattle.std.proofs.Common.{refl, sym, ap, arith}
use Rattle.std.proofs.lemmas.List.{drop_all, length-append, map-append}

pub plus_one : (n : ℕ) → n + 1 ≡ suc n
plus_one n = omega arith

-- the element at an index, and what is behind it
item : {A : Type 0} (i : ℕ) (xs : List A) (x : A) → i < length xs → x ≡ slice_index_or xs i x →
    drop i xs ≡ x ∷ drop (suc i) xs
item zero [] x h e = absurd (omega (arith, h))
item (suc i) [] x h e = absurd (omega (arith, h))
item zero (y ∷ xs) x h e = ap (λ z. z ∷ xs) (sym e)
item (suc i) (y ∷ xs) x h e = item i xs x (omega (arith, h)) e

no_element : {A : Type 0} (y : A) (ys : List A) → [] ≡ y ∷ ys → ⊥
no_element y ys e = absurd (cc)

-- where an element stands first after so many
next_element : {A : Type 0} (k : ℕ) (xs ys : List A) (y : A) → drop k xs ≡ y ∷ ys →
    (take (suc k) xs ≡ take k xs ++ y ∷ []) × (drop (suc k) xs ≡ ys) × (slice_get xs k ≡ Some y)
next_element zero [] ys y e = absurd (no_element y ys e)
next_element (suc k) [] ys y e = absurd (no_element y ys e)
next_element zero (x ∷ xs) ys y e = (cc, cc, cc)
next_element (suc k) (x ∷ xs) ys y e = let h = next_element k xs ys y e in (ap (λ l. x ∷ l) h.0, h.1, h.2)

-- where nothing stands after so many, and they are no more than the most
all_taken : {A : Type 0} (k most : ℕ) (xs : List A) → drop k xs ≡ [] → k ≤ most →
    (take k xs ≡ take most xs) × (slice_get xs most ≡ None)
all_taken zero zero [] e h = (refl, refl)
all_taken zero (suc most) [] e h = (refl, refl)
all_taken (suc k) zero [] e h = (refl, refl)
all_taken (suc k) (suc most) [] e h = (refl, refl)
all_taken zero most (x ∷ xs) e h = absurd (no_element x xs (sym e))
all_taken (suc k) zero (x ∷ xs) e h = absurd (omega (arith, h))
all_taken (suc k) (suc most) (x ∷ xs) e h =
    let r = all_taken k most xs e (omega (arith, h)) in (ap (λ l. x ∷ l) r.0, r.1)

preserved : {A : Type 0} (p : A → Bool) (x : A) (xs : List A) → p x ≡ true → filter p (x ∷ xs) ≡ x ∷ filter p xs
preserved p x xs e = rw e refl

left_out : {A : Type 0} (p : A → Bool) (x : A) (xs : List A) → p x ≡ false → filter p (x ∷ xs) ≡ filter p xs
left_out p x xs e = rw e refl

one_longer : {A : Type 0} (xs : List A) (x : A) → length (xs ++ x ∷ []) ≡ suc (length xs)
one_longer xs x = length-append xs (x ∷ []) ∙ plus_one (length xs)

module _ {A B : Type 0} (p : A → Bool) (f : A → B) (most : ℕ) (all : List A) where
  -- so many elements were looked at, and these are the images of those that pass
  abbrev pub IsPartAt : ℕ → List B → Type 0
  IsPartAt i listed =
      (listed ≡ map f (take (length listed) (filter p all)))
      × (filter p (drop i all) ≡ drop (length listed) (filter p all))
      × (length listed ≤ most)

  pub part_begins : IsPartAt 0 []
  part_begins = (refl, refl, omega arith)

  pub part_skips : (i : ℕ) (listed : List B) (x : A) → i < length all → x ≡ slice_index_or all i x → p x ≡ false →
      IsPartAt i listed → IsPartAt (suc i) listed
  part_skips i listed x h e q l =
      (l.0, sym (left_out p x (drop (suc i) all) q) ∙ ap (filter p) (sym (item i all x h e)) ∙ l.1, l.2)

  found : (i : ℕ) (listed : List B) (x : A) → i < length all → x ≡ slice_index_or all i x → p x ≡ true →
      IsPartAt i listed → drop (length listed) (filter p all) ≡ x ∷ filter p (drop (suc i) all)
  found i listed x h e q l =
      sym l.1 ∙ ap (filter p) (item i all x h e) ∙ preserved p x (drop (suc i) all) q

  pub part_adds : (i : ℕ) (listed : List B) (x : A) → i < length all → x ≡ slice_index_or all i x → p x ≡ true →
      length listed ≢ most → IsPartAt i listed → IsPartAt (suc i) (listed ++ f x ∷ [])
  part_adds i listed x h e q n l =
      let c = next_element (length listed) (filter p all) (filter p (drop (suc i) all)) x (found i listed x h e q l) in
      rw (one_longer listed (f x)) (
        (ap (λ r. r ++ f x ∷ []) l.0 ∙ sym (map-append f (take (length listed) (filter p all)) (x ∷ []))
            ∙ ap (map f) (sym c.0)),
        sym c.1,
        omega (arith, l.2, n),
      )

  pub part_stops : (i : ℕ) (listed : List B) (x : A) → i < length all → x ≡ slice_index_or all i x → p x ≡ true →
      length listed ≡ most → IsPartAt i listed →
      (listed ≡ map f (take most (filter p all))) × (slice_get (filter p all) most ≡ Some x)
  part_stops i listed x h e q n l =
      let c = next_element (length listed) (filter p all) (filter p (drop (suc i) all)) x (found i listed x h e q l) in
      (rw (sym n) l.0, rw (sym n) c.2)

  pub part_ends : (i : ℕ) (listed : List B) → length all ≤ i → IsPartAt i listed →
      (listed ≡ map f (take most (filter p all))) × (slice_get (filter p all) most ≡ None)
  part_ends i listed h l =
      let w = all_taken (length listed) most (filter p all) (sym l.1 ∙ ap (filter p) (drop_all i all h)) l.2 in
      (l.0 ∙ ap (map f) w.0, w.1)
