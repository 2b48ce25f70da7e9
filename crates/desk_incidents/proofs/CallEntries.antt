-- Calls, as entries of a table.
use Rattle.std.proofs.Common.{◌≡◌, ◌∙◌, ◌+◌, ◌-◌, ◌≤◌, filter, take, ℕ, suc, List, [], ◌∷◌, ◌++◌, map}
use Rattle.std.proofs.Common.{length, Bool, true, false, ◌||◌, Option, Some, cond, is_some}
use Rattle.std.proofs.Common.{append-nil, refl, sym, ap, arith}
use Rattle.std.specs.List.{AllByRecursion, list_any, count_by}
use Rattle.std.specs.declared.vec.Vec.{Vec}
use Rattle.desk_incidents.specs.declared.incident.HasCall.{HasCall}
use Rattle.std.specs.Map.{lookup, keys_of}
use Rattle.desk_index.specs.Places.{at_in, has_list, is_listed}
use Rattle.std.specs.Str.{bytes_eq}
use Rattle.std.specs.Cmp.Lexicographic.{nat_list_eq_equiv}
use Rattle.std.proofs.lemmas.Bool.{or_parts}
use Rattle.std.proofs.lemmas.List.Sums.{sum_by-cons}
use Rattle.indexmap.specs.IndexMap.{insert_entry}
use Rattle.desk_incidents.specs.CallTable.{pair_of, call_at, calls_at, IsCallTable}
use Rattle.desk_incidents.specs.Calls.{is_call, is_of, calls_of, call_count}
use Rattle.desk_index.specs.Slots.{places}
use Rattle.desk_index.proofs.IndexChanges.{has_list-listed}
use Rattle.desk_index.proofs.Slots.{from, places-push}

any_step : {X : Type 0} (t : Bool) (x : X) (r : Option X) (u : Bool) → is_some r ≡ u →
    is_some (cond t (Some x) r) ≡ (t || u)
any_step true x r u h = refl
any_step false x r u h = h

-- a call is found where a pair is that of it
pub lookup-any : (u : List ℕ) (es : List (List ℕ × ℕ)) →
    is_some (lookup (bytes_eq u) es) ≡ list_any (is_call u) (map pair_of es)
lookup-any u [] = refl
lookup-any u (e ∷ es) =
    any_step (bytes_eq u e.0) e.1 (lookup (bytes_eq u) es) (list_any (is_call u) (map pair_of es)) (lookup-any u es)
    ∙ ap (λ t. t || list_any (is_call u) (map pair_of es)) (nat_list_eq_equiv.symm u e.0)

-- a new call goes last
pub insert_entry-new : (u : List ℕ) (n : ℕ) (es : List (List ℕ × ℕ)) → list_any (is_call u) (map pair_of es) ≡ false →
    insert_entry bytes_eq es u n ≡ es ++ (u, n) ∷ []
insert_entry-new u n [] h = refl
insert_entry-new u n (e ∷ es) h =
    let parts : (bytes_eq e.0 u ≡ false) × (list_any (is_call u) (map pair_of es) ≡ false) = or_parts _ _ h in
    let here : bytes_eq u e.0 ≡ false = nat_list_eq_equiv.symm u e.0 ∙ parts.0 in
    rw here (ap (λ fs. e ∷ fs) (insert_entry-new u n es parts.1))

count_step : (t : Bool) (i n : ℕ) (ks : List ℕ) → length ks ≡ n → length (cond t (i ∷ ks) ks) ≡ cond t 1 0 + n
count_step true i n ks h = let e : 1 + n ≡ suc n = omega arith in rw e (ap suc h)
count_step false i n ks h = let e : 0 + n ≡ n = omega arith in rw e h

-- as many places as pass
pub places-counted : {A : Type 0} (p : A → Bool) (i : ℕ) (xs : List A) → length (places p i xs) ≡ count_by p xs
places-counted p i [] = refl
places-counted p i (x ∷ xs) =
    count_step (p x) i (count_by p xs) (places p (suc i) xs) (places-counted p (suc i) xs)
    ∙ sym (sum_by-cons (λ y. cond (p y) 1 0) x xs)

push_cases : (t : Bool) (ks : List ℕ) (i k : ℕ) → i ≡ k → cond t (ks ++ i ∷ []) ks ≡ ks ++ cond t (k ∷ []) []
push_cases true ks i k e = ap (λ n. ks ++ n ∷ []) e
push_cases false ks i k e = sym (append-nil ks)

-- the places of a number, with a pair put last
pub places-last : {A : Type 0} (p : A → Bool) (xs : List A) (y : A) (t : Bool) (k : ℕ) (old new : List ℕ) →
    old ≡ places p 0 xs → t ≡ p y → k ≡ length xs →
    new ≡ cond t (old ++ k ∷ []) old → new ≡ places p 0 (xs ++ y ∷ [])
places-last p xs y t k old new h e l g =
    let plain : k ≡ 0 + length xs = omega (arith, l) in
    g ∙ ap (λ ks. cond t (ks ++ k ∷ []) ks) h ∙ push_cases t (places p 0 xs) k (0 + length xs) plain
    ∙ ap (λ u. places p 0 xs ++ cond u ((0 + length xs) ∷ []) []) e
    ∙ sym (places-push p 0 xs y)

-- the last one taken out

take_front : (ps : List ℕ) (k : ℕ) → take (length ps) (ps ++ k ∷ []) ≡ ps
take_front [] k = refl
take_front (x ∷ ps) k = ap (λ l. x ∷ l) (take_front ps k)

one_more : (ps : List ℕ) (k : ℕ) → length (ps ++ k ∷ []) ≡ suc (length ps)
one_more [] k = refl
one_more (x ∷ ps) k = ap suc (one_more ps k)

popped : (t : Bool) (ps : List ℕ) (k : ℕ) (old new : List ℕ) → old ≡ ps ++ cond t (k ∷ []) [] →
    new ≡ cond t (take (length old - 1) old) old → new ≡ ps
popped true ps k old new h g =
    let l : length old ≡ suc (length ps) = ap length h ∙ one_more ps k in
    let n : length old - 1 ≡ length ps = omega (arith, l) in
    g ∙ ap (λ m. take m old) n ∙ ap (take (length ps)) h ∙ take_front ps k
popped false ps k old new h g = g ∙ h ∙ append-nil ps

pub places-popped : {A : Type 0} (p : A → Bool) (xs : List A) (y : A) (t : Bool) (old new : List ℕ) →
    old ≡ places p 0 (xs ++ y ∷ []) → t ≡ p y →
    new ≡ cond t (take (length old - 1) old) old → new ≡ places p 0 xs
places-popped p xs y t old new h e g =
    popped t (places p 0 xs) (0 + length xs) old new
    (h ∙ places-push p 0 xs y ∙ ap (λ u. places p 0 xs ++ cond u ((0 + length xs) ∷ []) []) (sym e)) g

-- the calls at places, one after the other

-- what a function gives of each place, one after the other
abbrev each_of : (ℕ → List (List ℕ)) → List ℕ → List (List ℕ)
each_of f [] = []
each_of f (k ∷ ks) = f k ++ each_of f ks

shift : (i : ℕ) (e : List ℕ × ℕ) (es : List (List ℕ × ℕ)) (ks : List ℕ) → AllByRecursion (λ k. suc i ≤ k) ks →
    each_of (λ k. call_at (e ∷ es) (k - i)) ks ≡ each_of (λ k. call_at es (k - suc i)) ks
shift i e es [] h = refl
shift i e es (k ∷ ks) h =
    let n : k - i ≡ suc (k - suc i) = omega (arith, h.0) in
    ap (λ m. call_at (e ∷ es) m ++ each_of (λ j. call_at (e ∷ es) (j - i)) ks) n
    ∙ ap (λ l. call_at es (k - suc i) ++ l) (shift i e es ks h.1)

one_step : (t : Bool) (i : ℕ) (e : List ℕ × ℕ) (es : List (List ℕ × ℕ)) (ks : List ℕ) (hs : List HasCall) →
    AllByRecursion (λ k. suc i ≤ k) ks →
    each_of (λ k. call_at es (k - suc i)) ks ≡ map (λ h. h.call) hs →
    each_of (λ k. call_at (e ∷ es) (k - i)) (cond t (i ∷ ks) ks) ≡ map (λ h. h.call) (cond t (pair_of e ∷ hs) hs)
one_step true i e es ks hs h g =
    let n : i - i ≡ 0 = omega arith in
    ap (λ m. call_at (e ∷ es) m ++ each_of (λ j. call_at (e ∷ es) (j - i)) ks) n
    ∙ ap (λ l. e.0 ∷ l) (shift i e es ks h ∙ g)
one_step false i e es ks hs h g = shift i e es ks h ∙ g

calls-from : (n i : ℕ) (es : List (List ℕ × ℕ)) →
    each_of (λ k. call_at es (k - i)) (places (is_of n) i (map pair_of es)) ≡ calls_of n (map pair_of es)
calls-from n i [] = refl
calls-from n i (e ∷ es) =
    one_step (is_of n (pair_of e)) i e es (places (is_of n) (suc i) (map pair_of es))
    (filter (is_of n) (map pair_of es))
    (from (is_of n) (suc i) (map pair_of es)) (calls-from n (suc i) es)

plain : (es : List (List ℕ × ℕ)) (ks : List ℕ) → calls_at es ks ≡ each_of (λ k. call_at es (k - 0)) ks
plain es [] = refl
plain es (k ∷ ks) =
    let n : k ≡ k - 0 = omega arith in
    ap (λ m. call_at es m ++ calls_at es ks) n ∙ ap (λ l. call_at es (k - 0) ++ l) (plain es ks)

-- the calls at the places of a number are its calls, in their order
pub calls-at : (n : ℕ) (es : List (List ℕ × ℕ)) (ks : List ℕ) → ks ≡ places (is_of n) 0 (map pair_of es) →
    calls_at es ks ≡ calls_of n (map pair_of es)
calls-at n es ks h = plain es ks ∙ ap (each_of (λ k. call_at es (k - 0))) h ∙ calls-from n 0 es

-- numbers that keep their lists
pub listed-preserved : {V : Type 0} (old new : List (ℕ × V)) →
    ((n : ℕ) → has_list n old ≡ true → has_list n new ≡ true) →
    (listed : List ℕ) → keys_of old ≡ listed → (n : ℕ) → is_listed n listed ≡ true → is_listed n (keys_of new) ≡ true
listed-preserved old new w listed v n h =
    sym (has_list-listed n new) ∙ w n (has_list-listed n old ∙ ap (is_listed n) v ∙ h)

pub listed-same : {V : Type 0} (old new : List (ℕ × V)) → ((n : ℕ) → has_list n new ≡ has_list n old) →
    (listed : List ℕ) → keys_of old ≡ listed → (n : ℕ) → is_listed n (keys_of new) ≡ is_listed n listed
listed-same old new w listed v n =
    sym (has_list-listed n new) ∙ w n ∙ has_list-listed n old ∙ ap (is_listed n) v

-- as many places as calls
pub count-at : {B : Type 0} (n : ℕ) (es : List (List ℕ × ℕ)) (lists : List (ℕ × Vec ℕ B)) (ps : List HasCall) →
    IsCallTable es lists → map pair_of es ≡ ps → length (at_in n lists) ≡ call_count n ps
count-at n es lists ps t v =
    ap (λ (ks : List ℕ). length ks) (t n) ∙ places-counted (is_of n) 0 (map pair_of es) ∙ ap (call_count n) v
