-- The lists of an index by incident after a pair is put or taken out, and the units that are read by them.
use Rattle.std.proofs.Common.{◌≡◌, ◌≢◌, ◌∙◌, ◌+◌, ◌-◌, ◌≤◌, ◌==◌, ℕ, suc, List, [], ◌∷◌, ◌++◌, length, set, map}
use Rattle.std.proofs.Common.{filter, Bool, true, false, Option, Some, None, cond, nat_eq, append-nil, refl, sym, ap}
use Rattle.std.proofs.Common.{subst, arith}
use Rattle.std.specs.List.{AllByRecursion}
use Rattle.std.specs.Option.{option_map}
use Rattle.std.specs.Set.{remove_key}
use Rattle.std.proofs.lemmas.List.{length-map}
use Rattle.std.proofs.lemmas.Option.{none-some, same_Some}
use Rattle.std.specs.declared.vec.Vec.{Vec}
use Rattle.desk_index.specs.Places.{at_in}
use Rattle.desk_index.specs.Slots.{live, passes, places, standing}
use Rattle.desk_index.proofs.Slots.{from, places-push}
use Rattle.desk_index.proofs.SlotChanges.{places-removed, places-apart}
use Rattle.desk_units.specs.declared.unit.UnitPair.{UnitPair}
use Rattle.desk_units.specs.Checks.{is_unit, is_to, units_of}
use Rattle.desk_units.specs.NameTable.{IsNameTable}
use Rattle.desk_units.specs.PairTable.{IsPlaced, IsPairTable, name_at, names_at}

-- 1. one more

push_cases : (t : Bool) (ks : List ℕ) (i k : ℕ) → i ≡ k → cond t (ks ++ i ∷ []) ks ≡ ks ++ cond t (k ∷ []) []
push_cases true ks i k e = ap (λ n. ks ++ n ∷ []) e
push_cases false ks i k e = sym (append-nil ks)

-- a pair put last, and its slot in the list of its incident
pub placed-pushed : {B : Type 0} (slots : List (Option UnitPair)) (lists new : List (ℕ × Vec ℕ B)) (p : UnitPair) →
    IsPlaced slots lists →
    ((n : ℕ) → at_in n new ≡ cond (p.incident == n) (at_in n lists ++ length slots ∷ []) (at_in n lists)) →
    IsPlaced (slots ++ Some p ∷ []) new
placed-pushed slots lists new p h put n =
    let plain : length slots ≡ 0 + length slots = omega arith in
    put n ∙ ap (λ ks. cond (p.incident == n) (ks ++ length slots ∷ []) ks) (h n)
    ∙ push_cases (p.incident == n) (places (passes (is_to n)) 0 slots) (length slots) (0 + length slots) plain
    ∙ sym (places-push (passes (is_to n)) 0 slots (Some p))

-- 2. one less

out_cases : (t : Bool) (k : ℕ) (ps old new after : List ℕ) → old ≡ ps → after ≡ remove_key (nat_eq k) ps →
    (t ≡ false → after ≡ ps) → new ≡ cond t (remove_key (nat_eq k) old) old → new ≡ after
out_cases true k ps old new after o a b e = e ∙ ap (remove_key (nat_eq k)) o ∙ sym a
out_cases false k ps old new after o a b e = e ∙ o ∙ sym (b refl)

-- a slot emptied, and taken from the list of its incident
pub placed-removed : {B : Type 0} (slots : List (Option UnitPair)) (lists new : List (ℕ × Vec ℕ B)) (k number : ℕ) →
    IsPlaced slots lists → option_map (λ p. p.incident) (standing slots k) ≡ Some number →
    ((n : ℕ) → at_in n new ≡ cond (number == n) (remove_key (nat_eq k) (at_in n lists)) (at_in n lists)) →
    IsPlaced (set slots k None) new
placed-removed slots lists new k number h there out n =
    let plain : 0 + k ≡ k = omega arith in
    out_cases (number == n) k (places (passes (is_to n)) 0 slots) (at_in n lists) (at_in n new)
    (places (passes (is_to n)) 0 (set slots k None)) (h n)
    (places-removed (is_to n) 0 k slots ∙ ap (λ j. remove_key (nat_eq j) (places (passes (is_to n)) 0 slots)) plain)
    (λ t. places-apart (is_to n) 0 k slots (apart (standing slots k) there t)) (out n)
  where
    apart : (o : Option UnitPair) → option_map (λ p. p.incident) o ≡ Some number → (number == n) ≡ false →
        passes (is_to n) o ≡ false
    apart None e t = refl
    apart (Some p) e t = let same : p.incident ≡ number = same_Some _ _ e in ap (λ m. m == n) same ∙ t

-- what stands in the slot of a unit has a number
pub number-stands : (slots : List (Option UnitPair)) (k : ℕ) (u : List ℕ) →
    (p : UnitPair) × (standing slots k ≡ Some p) × (is_unit u p ≡ true) →
    option_map (λ p. p.incident) (standing slots k) ≢ None
number-stands slots k u it none =
    none-some it.0.incident (sym none ∙ ap (option_map {U = ℕ} (λ (p : UnitPair). p.incident)) it.1)

remove_step : (t : Bool) (k : ℕ) (ks rest : List ℕ) → length rest ≤ length ks →
    length (cond t ks (k ∷ rest)) ≤ suc (length ks)
remove_step true k ks rest h = omega arith
remove_step false k ks rest h = omega (arith, h)

removed_length : (p : ℕ → Bool) (ks : List ℕ) → length (remove_key p ks) ≤ length ks
removed_length p [] = omega arith
removed_length p (k ∷ ks) = remove_step (p k) k ks (remove_key p ks) (removed_length p ks)

-- no list is longer once a slot is taken out
pub no-longer : (t : Bool) (k : ℕ) (ks new : List ℕ) → new ≡ cond t (remove_key (nat_eq k) ks) ks →
    length new ≤ length ks
no-longer true k ks new e = subst (λ l. length l ≤ length ks) (sym e) (removed_length (nat_eq k) ks)
no-longer false k ks new e = subst (λ l. length l ≤ length ks) (sym e) (omega arith)

-- 3. none more and none less

-- a table whose parts say the same
pub same-table : {B : Type 0} (slots after : List (Option UnitPair)) (es fs : List (List ℕ × ℕ))
    (lists new : List (ℕ × Vec ℕ B)) →
    after ≡ slots → fs ≡ es → ((n : ℕ) → at_in n new ≡ at_in n lists) → IsPairTable slots es lists →
    IsPairTable after fs new
same-table slots after es fs lists new s e l h = record {
  named =
      subst (λ xs. IsNameTable (λ p. p.unit) xs fs) (sym s)
      (subst (λ gs. IsNameTable (λ p. p.unit) slots gs) (sym e) h.named);
  placed = λ n. l n ∙ h.placed n ∙ ap (λ xs. places (passes (is_to n)) 0 xs) (sym s);
}

-- 4. the units of an incident

count_step : (t : Bool) (i : ℕ) (ks : List ℕ) (x : UnitPair) (ps : List UnitPair) → length ks ≡ length ps →
    length (cond t (i ∷ ks) ks) ≡ length (cond t (x ∷ ps) ps)
count_step true i ks x ps h = ap suc h
count_step false i ks x ps h = h

places_counted : (p : UnitPair → Bool) (i : ℕ) (xs : List (Option UnitPair)) →
    length (places (passes p) i xs) ≡ length (filter p (live xs))
places_counted p i [] = refl
places_counted p i (None ∷ xs) = places_counted p (suc i) xs
places_counted p i (Some x ∷ xs) =
    count_step (p x) i (places (passes p) (suc i) xs) x (filter p (live xs)) (places_counted p (suc i) xs)

-- as many places as units
pub units-counted : {B : Type 0} (n : ℕ) (slots : List (Option UnitPair)) (lists : List (ℕ × Vec ℕ B))
    (ps : List UnitPair) →
    IsPlaced slots lists → live slots ≡ ps → length (at_in n lists) ≡ length (units_of n ps)
units-counted n slots lists ps h v =
    ap (λ (ks : List ℕ). length ks) (h n) ∙ places_counted (is_to n) 0 slots
    ∙ sym (length-map (filter (is_to n) (live slots)) (λ p. p.unit)) ∙ ap (λ qs. length (units_of n qs)) v

-- what a function gives of each slot, one after the other
abbrev each_of : (ℕ → List (List ℕ)) → List ℕ → List (List ℕ)
each_of f [] = []
each_of f (k ∷ ks) = f k ++ each_of f ks

shift : (i : ℕ) (x : Option UnitPair) (xs : List (Option UnitPair)) (ks : List ℕ) →
    AllByRecursion (λ k. suc i ≤ k) ks →
    each_of (λ k. name_at (x ∷ xs) (k - i)) ks ≡ each_of (λ k. name_at xs (k - suc i)) ks
shift i x xs [] h = refl
shift i x xs (k ∷ ks) h =
    let n : k - i ≡ suc (k - suc i) = omega (arith, h.0) in
    ap (λ m. name_at (x ∷ xs) m ++ each_of (λ j. name_at (x ∷ xs) (j - i)) ks) n
    ∙ ap (λ l. name_at xs (k - suc i) ++ l) (shift i x xs ks h.1)

one_step : (t : Bool) (i : ℕ) (x : UnitPair) (xs : List (Option UnitPair)) (ks : List ℕ) (ps : List UnitPair) →
    AllByRecursion (λ k. suc i ≤ k) ks →
    each_of (λ k. name_at xs (k - suc i)) ks ≡ map (λ p. p.unit) ps →
    each_of (λ k. name_at (Some x ∷ xs) (k - i)) (cond t (i ∷ ks) ks) ≡ map (λ p. p.unit) (cond t (x ∷ ps) ps)
one_step true i x xs ks ps h g =
    let n : i - i ≡ 0 = omega arith in
    ap (λ m. name_at (Some x ∷ xs) m ++ each_of (λ j. name_at (Some x ∷ xs) (j - i)) ks) n
    ∙ ap (λ l. x.unit ∷ l) (shift i (Some x) xs ks h ∙ g)
one_step false i x xs ks ps h g = shift i (Some x) xs ks h ∙ g

names-from : (n i : ℕ) (xs : List (Option UnitPair)) →
    each_of (λ k. name_at xs (k - i)) (places (passes (is_to n)) i xs) ≡ units_of n (live xs)
names-from n i [] = refl
names-from n i (None ∷ xs) =
    shift i None xs (places (passes (is_to n)) (suc i) xs) (from (passes (is_to n)) (suc i) xs)
    ∙ names-from n (suc i) xs
names-from n i (Some x ∷ xs) =
    one_step (is_to n x) i x xs (places (passes (is_to n)) (suc i) xs) (filter (is_to n) (live xs))
    (from (passes (is_to n)) (suc i) xs) (names-from n (suc i) xs)

plain : (xs : List (Option UnitPair)) (ks : List ℕ) → names_at xs ks ≡ each_of (λ k. name_at xs (k - 0)) ks
plain xs [] = refl
plain xs (k ∷ ks) =
    let n : k ≡ k - 0 = omega arith in
    ap (λ m. name_at xs m ++ names_at xs ks) n ∙ ap (λ l. name_at xs (k - 0) ++ l) (plain xs ks)

-- the units at the slots of a number are its units, in their order
pub names-at : (n : ℕ) (xs : List (Option UnitPair)) (ks : List ℕ) → ks ≡ places (passes (is_to n)) 0 xs →
    names_at xs ks ≡ units_of n (live xs)
names-at n xs ks h = plain xs ks ∙ ap (each_of (λ k. name_at xs (k - 0))) h ∙ names-from n 0 xs
