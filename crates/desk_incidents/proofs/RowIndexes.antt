-- Indexes of the first elements that pass tests.
use Rattle.std.proofs.Common.{◌≡◌, ◌∙◌, ◌+◌, ◌≤◌, ℕ, zero, suc, List, [], ◌∷◌, ◌++◌, length, Bool, true, false}
use Rattle.std.proofs.Common.{◌||◌, Option, Some, None, cond, is_some, slice_get, nat_eq, refl, sym, ap, subst}
use Rattle.std.proofs.Common.{arith, eqb-true}
use Rattle.std.specs.List.{find, list_any}
use Rattle.std.specs.Borrow.{Bor}
use Rattle.std.specs.Option.{option_copied}
use Rattle.std.specs.Map.{lookup}
use Rattle.std.specs.Str.{bytes_eq}
use Rattle.std.specs.Cmp.Lexicographic.{bytes_decides}
use Rattle.std.proofs.lemmas.Option.{none-some, same_Some}
use Rattle.desk_index.specs.Slots.{first}
use Rattle.desk_index.proofs.Slots.{first-from, first-push}

-- an entry put last is found where no other is

last_step : {X : Type 0} (t u : Bool) (v w : X) (r s : Option X) → s ≡ cond (is_some r) r (cond u (Some w) None) →
    cond t (Some v) s ≡ cond (is_some (cond t (Some v) r)) (cond t (Some v) r) (cond u (Some w) None)
last_step true u v w r s h = refl
last_step false u v w r s h = h

pub lookup-last : {K X : Type 0} (test : K → Bool) (es : List (K × X)) (k : K) (w : X) →
    lookup test (es ++ (k, w) ∷ []) ≡ cond (is_some (lookup test es)) (lookup test es) (cond (test k) (Some w) None)
lookup-last test [] k w = refl
lookup-last test (e ∷ es) k w = last_step (test e.0) (test k) e.1 w (lookup test es) (lookup test (es ++ (k, w) ∷ []))
    (lookup-last test es k w)

present_step : {X : Type 0} (t : Bool) (r : Option X) (w : X) → (t ≡ true → is_some r ≡ true) →
    r ≡ cond (is_some r) r (cond t (Some w) None)
present_step t (Some x) w h = refl
present_step true None w h = let e : false ≡ true = h refl in absurd (cc)
present_step false None w h = refl

-- where the key is there, nothing changes
pub lookup-present : {X : Type 0} (es : List (List ℕ × X)) (k : List ℕ) (w : X) →
    is_some (lookup (bytes_eq k) es) ≡ true → (q : List ℕ) →
    lookup (bytes_eq q) es ≡ cond (is_some (lookup (bytes_eq q) es)) (lookup (bytes_eq q) es)
    (cond (bytes_eq q k) (Some w) None)
lookup-present es k w h q =
    present_step (bytes_eq q k) (lookup (bytes_eq q) es) w
    (λ t. subst (λ m. is_some (lookup (bytes_eq m) es) ≡ true) (sym ((bytes_decides q k).0 t)) h)

pub lookup-there : {X : Type 0} (es : List (ℕ × X)) (k : ℕ) (w : X) → is_some (lookup (nat_eq k) es) ≡ true →
    (q : ℕ) →
    lookup (nat_eq q) es ≡ cond (is_some (lookup (nat_eq q) es)) (lookup (nat_eq q) es)
    (cond (nat_eq q k) (Some w) None)
lookup-there es k w h q =
    present_step (nat_eq q k) (lookup (nat_eq q) es) w
    (λ t. subst (λ m. is_some (lookup (nat_eq m) es) ≡ true) (sym (eqb-true q k t)) h)

-- what the first place holds is what is found

find_step : {A : Type 0} (p : A → Bool) (t : Bool) (i k : ℕ) (x : A) (xs : List A) →
    cond t (Some i) (first p (suc i) xs) ≡ Some (i + k) →
    ((j : ℕ) → first p (suc i) xs ≡ Some (suc i + j) → slice_get xs j ≡ find p xs) →
    slice_get (x ∷ xs) k ≡ cond t (Some x) (find p xs)
find_step p true i zero x xs h ih = refl
find_step p true i (suc k) x xs h ih = let e : i ≡ i + suc k = same_Some _ _ h in absurd (omega (arith, e))
find_step p false i zero x xs h ih = let e : suc i ≤ i + 0 = first-from p (suc i) (i + 0) xs h in
    absurd (omega (arith, e))
find_step p false i (suc k) x xs h ih = let e : i + suc k ≡ suc i + k = omega arith in ih k (h ∙ ap Some e)

pub slice_get-first : {A : Type 0} (p : A → Bool) (i k : ℕ) (xs : List A) → first p i xs ≡ Some (i + k) →
    slice_get xs k ≡ find p xs
slice_get-first p i k [] h = absurd (none-some _ h)
slice_get-first p i k (x ∷ xs) h = find_step p (p x) i k x xs h (λ j g. slice_get-first p (suc i) j xs g)

none_step : {A : Type 0} (t : Bool) (i : ℕ) (x : A) (r : Option ℕ) (found : Option A) → (r ≡ None → found ≡ None) →
    cond t (Some i) r ≡ None → cond t (Some x) found ≡ None
none_step true i x r found ih h = absurd (none-some i (sym h))
none_step false i x r found ih h = ih h

pub find-nowhere : {A : Type 0} (p : A → Bool) (i : ℕ) (xs : List A) → first p i xs ≡ None → find p xs ≡ None
find-nowhere p i [] h = refl
find-nowhere p i (x ∷ xs) h = none_step (p x) i x (first p (suc i) xs) (find p xs) (find-nowhere p (suc i) xs) h

any_step : {X : Type 0} (t : Bool) (x : X) (r : Option X) (u : Bool) → is_some r ≡ u →
    is_some (cond t (Some x) r) ≡ (t || u)
any_step true x r u h = refl
any_step false x r u h = h

pub first-any : {A : Type 0} (p : A → Bool) (i : ℕ) (xs : List A) → is_some (first p i xs) ≡ list_any p xs
first-any p i [] = refl
first-any p i (x ∷ xs) = any_step (p x) i (first p (suc i) xs) (list_any p xs) (first-any p (suc i) xs)

-- an index of the first places, after an element and its entry are put last
pub index-push : {A : Type 0} (p : A → Bool) (xs : List A) (y : A) (old new : Option ℕ) (t : Bool) →
    old ≡ first p 0 xs →
    new ≡ cond (is_some old) old (cond t (Some (length xs)) None) → t ≡ p y → new ≡ first p 0 (xs ++ y ∷ [])
index-push p xs y old new t h g e =
    let plain : length xs ≡ 0 + length xs = omega arith in
    g ∙ ap (λ o. cond (is_some o) o (cond t (Some (length xs)) None)) h
    ∙ ap (λ u. cond (is_some (first p 0 xs)) (first p 0 xs) (cond u (Some (length xs)) None)) e
    ∙ ap (λ n. cond (is_some (first p 0 xs)) (first p 0 xs) (cond (p y) (Some n) None)) plain
    ∙ sym (first-push p 0 xs y)

pub some_copied : {X : Type 0} (o : Option (Bor X)) → is_some o ≡ is_some (option_copied o)
some_copied None = refl
some_copied (Some x) = refl
