-- Pairs moved from one incident to another: what the slots and the lists are then.
use Rattle.std.proofs.Common.{◌≡◌, ◌∙◌, ◌≢◌, ◌+◌, ◌<◌, ◌==◌, ◌||◌, ℕ, zero, suc, List, [], ◌∷◌, length, map, Bool, true}
use Rattle.std.proofs.Common.{false, Option, Some, None, cond, slice_get, nat_eq, refl, sym, ap, arith}
use Rattle.std.specs.Option.{option_map}
use Rattle.std.specs.Set.{remove_key}
use Rattle.std.specs.declared.vec.Vec.{Vec}
use Rattle.std.proofs.lemmas.Bool.{eqb-true, eq-eqb, ne_eqb}
use Rattle.std.proofs.lemmas.Option.{none-some, same_Some}
use Rattle.desk_index.specs.Places.{at_in}
use Rattle.desk_index.specs.Slots.{live, passes, places, changed_at, with_place, without_place}
use Rattle.desk_index.proofs.Slots.{live-map}
use Rattle.desk_index.proofs.ChangedPlaces.{places-changed, places-head}
use Rattle.desk_units.specs.declared.unit.UnitPair.{UnitPair}
use Rattle.desk_units.specs.Checks.{is_to}
use Rattle.desk_index.specs.MergedList.{merged}
use Rattle.desk_units.specs.PairTable.{IsPlaced, pair_at}
use Rattle.desk_units.specs.Verbs.{pair_after_merge}
use Rattle.desk_index.proofs.MergedLists.{places-merged}

-- 1. one pair moved

number_of : (from : ℕ) (o : Option UnitPair) → passes (is_to from) o ≡ true →
    (p : UnitPair) × (o ≡ Some p) × (p.incident ≡ from)
number_of from None h = let d : false ≡ true = h in absurd (cc)
number_of from (Some p) h = (p, refl, eqb-true _ _ h)

-- the pair of the first place of an incident
first_pair : (from k : ℕ) (ks : List ℕ) (xs : List (Option UnitPair)) → places (passes (is_to from)) 0 xs ≡ k ∷ ks →
    (p : UnitPair) × (slice_get xs k ≡ Some (Some p)) × (p.incident ≡ from)
first_pair from k ks xs h =
    let plain : k ≡ 0 + k = omega arith in
    let it : (y : Option UnitPair) × (slice_get xs k ≡ Some y) × (passes (is_to from) y ≡ true) =
    places-head (passes (is_to from)) 0 k xs (ap (λ (js : List ℕ). slice_get js 0) h ∙ ap Some plain) in
    let pair : (p : UnitPair) × (it.0 ≡ Some p) × (p.incident ≡ from) = number_of from it.0 it.2 in
    (pair.0, it.1 ∙ ap Some pair.1, pair.2)

slot_within : {A : Type 0} (k : ℕ) (x : A) (xs : List A) → slice_get xs k ≡ Some x → k < length xs
slot_within k x [] h = absurd (none-some x h)
slot_within zero x (y ∷ xs) h = omega arith
slot_within (suc k) x (y ∷ xs) h = omega (arith, slot_within k x xs h)

pub place-within : (from k : ℕ) (ks : List ℕ) (xs : List (Option UnitPair)) →
    places (passes (is_to from)) 0 xs ≡ k ∷ ks → k < length xs
place-within from k ks xs h =
    let it : (p : UnitPair) × (slice_get xs k ≡ Some (Some p)) × (p.incident ≡ from) = first_pair from k ks xs h in
    slot_within k (Some it.0) xs it.1

-- the places of an incident without the first, whose pair is moved
pub places-left : (from to k : ℕ) (ks : List ℕ) (xs : List (Option UnitPair)) → from ≢ to →
    places (passes (is_to from)) 0 xs ≡ k ∷ ks →
    places (passes (is_to from)) 0 (changed_at k (option_map (pair_at to)) xs) ≡ ks
places-left from to k ks xs d h =
    let it : (p : UnitPair) × (slice_get xs k ≡ Some (Some p)) × (p.incident ≡ from) = first_pair from k ks xs h in
    let plain : 0 + k ≡ k = omega arith in
    let apart : (to == from) ≡ false = ne_eqb to from (λ s. d (sym s)) in
    let same : (it.0.incident == from) ≡ true = eq-eqb it.0.incident from it.2 in
    places-changed (passes (is_to from)) (option_map (pair_at to)) 0 k (Some it.0) xs it.1
    ∙ ap (λ t. with_place t (0 + k) (without_place (it.0.incident == from) (0 + k)
    (places (passes (is_to from)) 0 xs))) apart
    ∙ ap (λ t. without_place t (0 + k) (places (passes (is_to from)) 0 xs)) same
    ∙ ap (λ j. remove_key (nat_eq j) (places (passes (is_to from)) 0 xs)) plain
    ∙ ap (remove_key (nat_eq k)) h ∙ ap (λ t. cond t ks (k ∷ remove_key (nat_eq k) ks)) (eq-eqb k k refl)

map_changed : {A B : Type 0} (g : A → B) (f : A → A) (k : ℕ) (x : A) (xs : List A) → slice_get xs k ≡ Some x →
    g (f x) ≡ g x → map g (changed_at k f xs) ≡ map g xs
map_changed g f k x [] h e = refl
map_changed g f zero x (y ∷ xs) h e =
    let same : y ≡ x = same_Some _ _ h in
    ap (λ z. z ∷ map g xs) (ap (λ z. g (f z)) same ∙ e ∙ ap g (sym same))
map_changed g f (suc k) x (y ∷ xs) h e = ap (λ ys. g y ∷ ys) (map_changed g f k x xs h e)

moved_on : (a : ℕ) (t : Bool) → cond t a a ≡ a
moved_on a true = refl
moved_on a false = refl

-- a pair moved at once is one that the merge moves
pub slots-moved : (from to k : ℕ) (ks : List ℕ) (xs : List (Option UnitPair)) →
    places (passes (is_to from)) 0 xs ≡ k ∷ ks →
    map (option_map (pair_after_merge from to)) (changed_at k (option_map (pair_at to)) xs) ≡ map
    (option_map (pair_after_merge from to)) xs
slots-moved from to k ks xs h =
    let it : (p : UnitPair) × (slice_get xs k ≡ Some (Some p)) × (p.incident ≡ from) = first_pair from k ks xs h in
    let gone : cond (it.0.incident == from) to it.0.incident ≡ to =
    ap (λ t. cond t to it.0.incident) (eq-eqb it.0.incident from it.2) in
    map_changed (option_map (pair_after_merge from to)) (option_map (pair_at to)) k (Some it.0) xs it.1
    (ap (λ n. Some (record { unit = it.0.unit; incident = n })) (moved_on to (to == from) ∙ sym gone))

-- 2. none is left

none_step : (t : Bool) (i : ℕ) (ks : List ℕ) → length (cond t (i ∷ ks) ks) ≡ 0 → (t ≡ false) × (length ks ≡ 0)
none_step true i ks h = absurd (omega (arith, h))
none_step false i ks h = (refl, h)

-- where an incident has no pairs, its merge moves none
pub none-moved : (from to i : ℕ) (xs : List (Option UnitPair)) → length (places (passes (is_to from)) i xs) ≡ 0 →
    map (option_map (pair_after_merge from to)) xs ≡ xs
none-moved from to i [] h = refl
none-moved from to i (None ∷ xs) h = ap (λ ys. None ∷ ys) (none-moved from to (suc i) xs h)
none-moved from to i (Some p ∷ xs) h =
    let parts : (is_to from p ≡ false) × (length (places (passes (is_to from)) (suc i) xs) ≡ 0) =
    none_step (is_to from p) i (places (passes (is_to from)) (suc i) xs) h in
    let here : cond (is_to from p) to p.incident ≡ p.incident = ap (λ t. cond t to p.incident) parts.0 in
    ap (λ n. Some (record { unit = p.unit; incident = n }) ∷ map (option_map (pair_after_merge from to)) xs) here
    ∙ ap (λ ys. Some p ∷ ys) (none-moved from to (suc i) xs parts.1)

pub live-merged : (from to : ℕ) (xs : List (Option UnitPair)) →
    live (map (option_map (pair_after_merge from to)) xs) ≡ map (pair_after_merge from to) (live xs)
live-merged from to xs =
    live-map (pair_after_merge from to) (option_map (pair_after_merge from to)) refl (λ x. refl) xs

same_number : (n from : ℕ) (t : Bool) → (n == from) ≡ t → cond t from n ≡ n
same_number n from true e = sym (eqb-true n from e)
same_number n from false e = refl

-- a merge of an incident with itself moves none
pub self-moved : (from : ℕ) (ps : List UnitPair) → map (pair_after_merge from from) ps ≡ ps
self-moved from [] = refl
self-moved from (p ∷ ps) =
    ap (λ n. record { unit = p.unit; incident = n } ∷ map (pair_after_merge from from) ps)
    (same_number p.incident from (p.incident == from) refl)
    ∙ ap (λ qs. p ∷ qs) (self-moved from ps)

-- 3. the lists

same_step : (t u : Bool) (i : ℕ) (ks ls : List ℕ) → t ≡ u → ks ≡ ls → cond t (i ∷ ks) ks ≡ cond u (i ∷ ls) ls
same_step t u i ks ls e h = ap (λ v. cond v (i ∷ ks) ks) e ∙ ap (λ js. cond u (i ∷ js) js) h

-- the places of what a test passes once it is changed
places_map : {A B : Type 0} (p : B → Bool) (q : A → Bool) (f : A → B) → ((x : A) → p (f x) ≡ q x) → (i : ℕ)
    (xs : List A) →
    places p i (map f xs) ≡ places q i xs
places_map p q f w i [] = refl
places_map p q f w i (x ∷ xs) =
    same_step (p (f x)) (q x) i (places p (suc i) (map f xs)) (places q (suc i) xs) (w x)
    (places_map p q f w (suc i) xs)

none_pass : {A : Type 0} (i : ℕ) (xs : List A) → places (λ _. false) i xs ≡ []
none_pass i [] = refl
none_pass i (x ∷ xs) = none_pass (suc i) xs

-- whether a pair is at an incident after a merge

of_from : (from to n m : ℕ) (t : Bool) → from ≢ to → n ≡ from → (m == from) ≡ t → (cond t to m == n) ≡ false
of_from from to n m true d s e = ne_eqb to n (λ g. d (sym (g ∙ s)))
of_from from to n m false d s e = ap (λ k. m == k) s ∙ e

or_none : (u : Bool) → u ≡ (u || false)
or_none true = refl
or_none false = refl

or_one : (u : Bool) → true ≡ (u || true)
or_one true = refl
or_one false = refl

of_to : (from to m : ℕ) (t : Bool) → (m == from) ≡ t → (cond t to m == to) ≡ ((m == to) || t)
of_to from to m true e = eq-eqb to to refl ∙ or_one (m == to)
of_to from to m false e = or_none (m == to)

pub of_other : (from to n m : ℕ) (t : Bool) → (from == n) ≡ false → (to == n) ≡ false → (m == from) ≡ t →
    (cond t to m == n) ≡ (m == n)
of_other from to n m true f g e = g ∙ sym (ap (λ k. k == n) (eqb-true m from e) ∙ f)
of_other from to n m false f g e = refl

none_of_from : (from to n : ℕ) → from ≢ to → n ≡ from → (o : Option UnitPair) →
    passes (is_to n) (option_map (pair_after_merge from to) o) ≡ false
none_of_from from to n d s None = refl
none_of_from from to n d s (Some p) = of_from from to n p.incident (p.incident == from) d s refl

either_of_to : (from to : ℕ) (o : Option UnitPair) →
    passes (is_to to) (option_map (pair_after_merge from to) o) ≡ (passes (is_to to) o || passes (is_to from) o)
either_of_to from to None = refl
either_of_to from to (Some p) = of_to from to p.incident (p.incident == from) refl

same_of_other : (from to n : ℕ) → (from == n) ≡ false → (to == n) ≡ false → (o : Option UnitPair) →
    passes (is_to n) (option_map (pair_after_merge from to) o) ≡ passes (is_to n) o
same_of_other from to n f g None = refl
same_of_other from to n f g (Some p) = of_other from to n p.incident (p.incident == from) f g refl

not_both : (from to : ℕ) → from ≢ to → (o : Option UnitPair) → passes (is_to to) o ≡ true →
    passes (is_to from) o ≡ false
not_both from to d None h = refl
not_both from to d (Some p) h = ne_eqb p.incident from (λ e. d (sym e ∙ eqb-true p.incident to h))

placed_case : (t u : Bool) (from to n : ℕ) (xs : List (Option UnitPair)) (list old new : List ℕ) → from ≢ to →
    (from == n) ≡ t → (to == n) ≡ u →
    list ≡ merged (places (passes (is_to to)) 0 xs) (places (passes (is_to from)) 0 xs) →
    old ≡ places (passes (is_to n)) 0 xs → new ≡ cond t [] (cond u list old) →
    new ≡ places (passes (is_to n)) 0 (map (option_map (pair_after_merge from to)) xs)
placed_case true u from to n xs list old new d f g l o e =
    e ∙ sym (places_map (passes (is_to n)) (λ _. false) (option_map (pair_after_merge from to))
    (none_of_from from to n d (sym (eqb-true from n f))) 0 xs ∙ none_pass 0 xs)
placed_case false true from to n xs list old new d f g l o e =
    e ∙ l ∙ sym (places-merged (passes (is_to to)) (passes (is_to from)) (not_both from to d) 0 xs)
    ∙ sym (places_map (passes (is_to to)) (λ o. passes (is_to to) o || passes (is_to from) o)
    (option_map (pair_after_merge from to)) (either_of_to from to) 0 xs)
    ∙ ap (λ m. places (passes (is_to m)) 0 (map (option_map (pair_after_merge from to)) xs)) (eqb-true to n g)
placed_case false false from to n xs list old new d f g l o e =
    e ∙ o ∙ sym (places_map (passes (is_to n)) (passes (is_to n)) (option_map (pair_after_merge from to))
    (same_of_other from to n f g) 0 xs)

-- the lists after all pairs of an incident went to another
pub placed-merged : {B : Type 0} (slots : List (Option UnitPair)) (lists new : List (ℕ × Vec ℕ B)) (from to : ℕ)
    (list : List ℕ) →
    IsPlaced slots lists → from ≢ to → list ≡ merged (at_in to lists) (at_in from lists) →
    ((n : ℕ) → at_in n new ≡ cond (from == n) [] (cond (to == n) list (at_in n lists))) →
    IsPlaced (map (option_map (pair_after_merge from to)) slots) new
placed-merged slots lists new from to list h d l e n =
    placed_case (from == n) (to == n) from to n slots list (at_in n lists) (at_in n new) d refl refl
    (l ∙ ap (λ ks. merged ks (at_in from lists)) (h to) ∙ ap (merged (places (passes (is_to to)) 0 slots)) (h from))
    (h n) (e n)
