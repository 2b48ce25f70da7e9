-- Places at which links stand, among those whose slots are empty.
use Rattle.std.proofs.Common.{◌≡◌, ◌∙◌, ◌<◌, ◌||◌, ◌&&◌, ℕ, zero, suc, List, [], ◌∷◌, ◌++◌, length, set, filter}
use Rattle.std.proofs.Common.{Bool, true, false, not, eqb, Option, Some, None, All, cond, is_some, refl, sym, ap, ap₂}
use Rattle.std.proofs.Common.{◌+◌, arith, subst}
use Rattle.std.specs.List.{list_any}
use Rattle.std.proofs.lemmas.Bool.{eqb-true, eqb-false, true≢false}
use Rattle.std.proofs.lemmas.List.Elements.{All-nil, All-cons, All-head, All-tail, All-push, All-filter}
use Rattle.std.proofs.lemmas.List.Elements.{filter-append, filter_agree}
use Rattle.desk_incidents.specs.declared.incident.Linked.{Linked}
use Rattle.desk_incidents.specs.LinkTable.{live_places}
use Rattle.desk_index.specs.Slots.{passes, places, standing}
use Rattle.desk_index.proofs.Slots.{places-emptied}
use Rattle.desk_index.proofs.SlotChanges.{standing-other, standing-within}

-- 1. tests of places

all_pass : (t u : Bool) (k : ℕ) (ls ks : List ℕ) (p : ℕ → Bool) → p k ≡ t → (t ≡ true → u ≡ true) →
    filter p ls ≡ ks → filter p (cond u (k ∷ ls) ls) ≡ cond t (k ∷ ks) ks
all_pass t true k ls ks p e w h =
    ap (λ v. cond v (k ∷ filter p ls) (filter p ls)) e ∙ ap (λ js. cond t (k ∷ js) js) h
all_pass true false k ls ks p e w h = absurd (true≢false (sym (w refl)))
all_pass false false k ls ks p e w h = h

-- a stricter test after another
pub filter-stricter : (p q : ℕ → Bool) → ((k : ℕ) → p k ≡ true → q k ≡ true) → (ks : List ℕ) →
    filter p (filter q ks) ≡ filter p ks
filter-stricter p q w [] = refl
filter-stricter p q w (k ∷ ks) =
    all_pass (p k) (q k) k (filter q ks) (filter p ks) p refl (w k) (filter-stricter p q w ks)

both_step : (t u : Bool) (k : ℕ) (ls ks : List ℕ) (p : ℕ → Bool) → p k ≡ u → ls ≡ filter p ks →
    cond (t && u) (k ∷ ls) ls ≡ filter p (cond t (k ∷ ks) ks)
both_step true u k ls ks p e h =
    ap (λ js. cond u (k ∷ js) js) h ∙ ap (λ v. cond v (k ∷ filter p ks) (filter p ks)) (sym e)
both_step false u k ls ks p e h = h

-- two tests at once
filter_both : (p q : ℕ → Bool) (ks : List ℕ) → filter (λ k. q k && p k) ks ≡ filter p (filter q ks)
filter_both p q [] = refl
filter_both p q (k ∷ ks) =
    both_step (q k) (p k) k (filter (λ j. q j && p j) ks) (filter q ks) p refl (filter_both p q ks)

any_step : (t u : Bool) (k : ℕ) (p : ℕ → Bool) (ls ks : List ℕ) → p k ≡ t → (t ≡ true → u ≡ true) →
    list_any p ls ≡ list_any p ks → list_any p (cond u (k ∷ ls) ls) ≡ (t || list_any p ks)
any_step t true k p ls ks e w h = ap₂ (λ v x. v || x) e h
any_step true false k p ls ks e w h = absurd (true≢false (sym (w refl)))
any_step false false k p ls ks e w h = h

any_stricter : (p q : ℕ → Bool) → ((k : ℕ) → p k ≡ true → q k ≡ true) → (ks : List ℕ) →
    list_any p (filter q ks) ≡ list_any p ks
any_stricter p q w [] = refl
any_stricter p q w (k ∷ ks) =
    any_step (p k) (q k) k p (filter q ks) ks refl (w k) (any_stricter p q w ks)

passes_some : (p : Linked → Bool) (o : Option Linked) → passes p o ≡ true → is_some o ≡ true
passes_some p None h = h
passes_some p (Some l) h = refl

-- a link that is looked for stands, so the places of empty slots count for nothing
pub any-live : (p : Linked → Bool) (xs : List (Option Linked)) (ks : List ℕ) →
    list_any (λ k. passes p (standing xs k)) (live_places xs ks) ≡ list_any (λ k. passes p (standing xs k)) ks
any-live p xs ks =
    any_stricter (λ k. passes p (standing xs k)) (λ k. is_some (standing xs k))
    (λ k. passes_some p (standing xs k)) ks

-- one place more
pub count-live : (t : Bool) (k : ℕ) (xs : List (Option Linked)) (ks : List ℕ) → is_some (standing xs k) ≡ t →
    length (live_places xs (k ∷ ks)) ≡ cond {A = ℕ} t 1 0 + length (live_places xs ks)
count-live true k xs ks h =
    let one : 1 + length (live_places xs ks) ≡ suc (length (live_places xs ks)) = omega arith in
    ap (λ u. length (cond u (k ∷ live_places xs ks) (live_places xs ks))) h ∙ sym one
count-live false k xs ks h =
    let none : 0 + length (live_places xs ks) ≡ length (live_places xs ks) = omega arith in
    ap (λ u. length (cond u (k ∷ live_places xs ks) (live_places xs ks))) h ∙ sym none

-- 2. a slot emptied

and_true : (t : Bool) → t ≡ (t && true)
and_true true = refl
and_true false = refl

and_false : (t : Bool) → false ≡ (t && false)
and_false true = refl
and_false false = refl

emptied_at : (k : ℕ) (xs : List (Option Linked)) → is_some (standing (set xs k None) k) ≡ false
emptied_at zero [] = refl
emptied_at (suc k) [] = refl
emptied_at zero (x ∷ xs) = refl
emptied_at (suc k) (x ∷ xs) = emptied_at k xs

stands_case : (t : Bool) (k j : ℕ) (xs : List (Option Linked)) → eqb j k ≡ t →
    is_some (standing (set xs k None) j) ≡ (is_some (standing xs j) && not t)
stands_case true k j xs e =
    ap (λ i. is_some (standing (set xs k None) i)) (eqb-true j k e) ∙ emptied_at k xs
    ∙ and_false (is_some (standing xs j))
stands_case false k j xs e =
    ap (λ (o : Option Linked). is_some o) (standing-other j k None xs (eqb-false j k e))
    ∙ and_true (is_some (standing xs j))

-- of places with those of a table, those at which links stand after a slot is emptied
pub live-emptied : (q : Linked → Bool) (k : ℕ) (xs : List (Option Linked)) (ks : List ℕ) →
    live_places xs ks ≡ places (passes q) 0 xs →
    live_places (set xs k None) ks ≡ places (passes q) 0 (set xs k None)
live-emptied q k xs ks h =
    let plain : 0 + k ≡ k = omega arith in
    filter_agree (λ j. is_some (standing (set xs k None) j)) (λ j. is_some (standing xs j) && not (eqb j k))
    (λ j. stands_case (eqb j k) k j xs refl) ks
    ∙ filter_both (λ j. not (eqb j k)) (λ j. is_some (standing xs j)) ks
    ∙ ap (filter (λ j. not (eqb j k))) h
    ∙ sym (places-emptied q 0 k xs ∙ ap (λ n. filter (λ j. not (eqb j n)) (places (passes q) 0 xs)) plain)

-- what is compacted is so again
pub live-twice : (xs : List (Option Linked)) (ks : List ℕ) → live_places xs (live_places xs ks) ≡ live_places xs ks
live-twice xs ks = filter-stricter (λ k. is_some (standing xs k)) (λ k. is_some (standing xs k)) (λ k h. h) ks

pub live-compacted : (t : Bool) (xs : List (Option Linked)) (ks new : List ℕ) →
    new ≡ cond t (live_places xs ks) ks → live_places xs new ≡ live_places xs ks
live-compacted true xs ks new h = ap (live_places xs) h ∙ live-twice xs ks
live-compacted false xs ks new h = ap (live_places xs) h

pub within-compacted : (P : ℕ → Type 0) (t : Bool) (xs : List (Option Linked)) (ks new : List ℕ) →
    new ≡ cond t (live_places xs ks) ks → All P ks → All P new
within-compacted P true xs ks new h a =
    subst (All P) (sym h) (All-filter (λ k. is_some (standing xs k)) P ks a)
within-compacted P false xs ks new h a = subst (All P) (sym h) a

-- links stand in slots
some_within : (k : ℕ) (o : Option Linked) (xs : List (Option Linked)) → standing xs k ≡ o → is_some o ≡ true →
    k < length xs
some_within k None xs e h = absurd (true≢false (sym h))
some_within k (Some l) xs e h = standing-within k l xs e

within_step : (n k : ℕ) (t : Bool) (ks : List ℕ) → (t ≡ true → k < n) → All (λ j. j < n) ks →
    All (λ j. j < n) (cond t (k ∷ ks) ks)
within_step n k true ks w h = All-cons (λ j. j < n) k ks (w refl) h
within_step n k false ks w h = h

pub live-within : (xs : List (Option Linked)) (ks : List ℕ) → All (λ k. k < length xs) (live_places xs ks)
live-within xs [] = All-nil (λ (k : ℕ). k < length xs)
live-within xs (k ∷ ks) =
    within_step (length xs) k (is_some (standing xs k)) (live_places xs ks)
    (some_within k (standing xs k) xs refl) (live-within xs ks)

-- 3. a slot put last

standing_before : (k : ℕ) (y : Option Linked) (xs : List (Option Linked)) → k < length xs →
    standing (xs ++ y ∷ []) k ≡ standing xs k
standing_before k y [] h = absurd (omega (arith, h))
standing_before zero y (x ∷ xs) h = refl
standing_before (suc k) y (x ∷ xs) h = standing_before k y xs (omega (arith, h))

standing_last : (y : Option Linked) (xs : List (Option Linked)) → standing (xs ++ y ∷ []) (length xs) ≡ y
standing_last y [] = refl
standing_last y (x ∷ xs) = standing_last y xs

-- places of slots that were there
pub live-before : (y : Option Linked) (xs : List (Option Linked)) (ks : List ℕ) → All (λ k. k < length xs) ks →
    live_places (xs ++ y ∷ []) ks ≡ live_places xs ks
live-before y xs [] h = refl
live-before y xs (k ∷ ks) h =
    ap₂ (λ (o : Option Linked) (js : List ℕ). cond (is_some o) (k ∷ js) js)
    (standing_before k y xs (All-head (λ j. j < length xs) k ks h))
    (live-before y xs ks (All-tail (λ j. j < length xs) k ks h))

-- the place of the last slot put into a list, or not
pub live-put : (t : Bool) (l : Linked) (xs : List (Option Linked)) (ks new : List ℕ) →
    new ≡ cond t (ks ++ length xs ∷ []) ks →
    live_places (xs ++ Some l ∷ []) new ≡ cond t (live_places (xs ++ Some l ∷ []) ks ++ length xs ∷ [])
    (live_places (xs ++ Some l ∷ []) ks)
live-put true l xs ks new h =
    ap (live_places (xs ++ Some l ∷ [])) h
    ∙ filter-append (λ k. is_some (standing (xs ++ Some l ∷ []) k)) ks (length xs ∷ [])
    ∙ ap (λ (o : Option Linked). live_places (xs ++ Some l ∷ []) ks ++ cond (is_some o) (length xs ∷ []) [])
    (standing_last (Some l) xs)
live-put false l xs ks new h = ap (live_places (xs ++ Some l ∷ [])) h

pub within-put : (t : Bool) (k n : ℕ) (ks new : List ℕ) → new ≡ cond t (ks ++ k ∷ []) ks → k < n →
    All (λ j. j < n) ks → All (λ j. j < n) new
within-put true k n ks new h o a = subst (All (λ j. j < n)) (sym h) (All-push (λ j. j < n) ks k a o)
within-put false k n ks new h o a = subst (All (λ j. j < n)) (sym h) a
