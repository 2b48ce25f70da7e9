-- Calls given to other incidents: what the table and the lists are then.
use Rattle.std.proofs.Common.{◌≡◌, ◌∙◌, ◌≢◌, ◌+◌, ◌≤◌, ◌<◌, ◌&&◌, ◌||◌, ◌==◌, ℕ, zero, suc, List, [], ◌∷◌, length}
use Rattle.std.proofs.Common.{map, Bool}
use Rattle.std.proofs.Common.{true, false, Option, Some, None, cond, slice_get, position, nat_eq, refl, sym, ap}
use Rattle.std.proofs.Common.{subst, arith}
use Rattle.std.specs.List.{AllByRecursion, list_any, IsDistinct}
use Rattle.std.specs.Option.{option_map, option_map_or}
use Rattle.std.specs.Map.{lookup, keys_of}
use Rattle.std.specs.Set.{remove_key}
use Rattle.std.specs.Str.{bytes_eq}
use Rattle.std.specs.Cmp.Lexicographic.{nat_list_eq_equiv, bytes_decides}
use Rattle.std.proofs.lemmas.Bool.{eqb-true, eq-eqb, ne_eqb}
use Rattle.std.proofs.lemmas.Option.{none-some, same_Some}
use Rattle.indexmap.specs.IndexMap.{set_value_at}
use Rattle.desk_index.specs.Slots.{places, insert_place, first, changed_at, with_place, without_place}
use Rattle.desk_index.proofs.ChangedPlaces.{places-changed, first-is-position, remove_key-head}
use Rattle.desk_index.proofs.PlaceLists.{insert_place-length}
use Rattle.desk_index.proofs.WithoutFirst.{remove_key-length}
use Rattle.desk_incidents.specs.declared.incident.HasCall.{HasCall}
use Rattle.desk_incidents.specs.CallTable.{pair_of}
use Rattle.desk_types.specs.MergedNumber.{number_after_merge}
use Rattle.desk_incidents.specs.Calls.{is_call, is_of, call_of_incident, call_after_merge}

-- 1. entries and pairs

first-keys : (u : List ℕ) (i : ℕ) (es : List (List ℕ × ℕ)) →
    first (bytes_eq u) i (keys_of es) ≡ first (is_call u) i (map pair_of es)
first-keys u i [] = refl
first-keys u i (e ∷ es) =
    ap (λ r. cond (bytes_eq u e.0) (Some i) r) (first-keys u (suc i) es)
    ∙ ap (λ t. cond t (Some i) (first (is_call u) (suc i) (map pair_of es))) (nat_list_eq_equiv.symm u e.0)

-- where the key of a call stands, its pair does
pub place-of-key : (u : List ℕ) (es : List (List ℕ × ℕ)) →
    position (bytes_eq u) (keys_of es) ≡ first (is_call u) 0 (map pair_of es)
place-of-key u es = sym (first-is-position (bytes_eq u) (keys_of es)) ∙ first-keys u 0 es

-- a number written at a place
pub pairs-set : (n k : ℕ) (es : List (List ℕ × ℕ)) →
    map pair_of (set_value_at es k n) ≡ changed_at k (call_of_incident n) (map pair_of es)
pairs-set n k [] = refl
pairs-set n zero (e ∷ es) = refl
pairs-set n (suc k) (e ∷ es) = ap (λ ps. pair_of e ∷ ps) (pairs-set n k es)

-- the pair of an entry whose number is known
pub pair-there : (n k : ℕ) (es : List (List ℕ × ℕ)) → option_map (λ e. e.1) (slice_get es k) ≡ Some n →
    (h : HasCall) × (slice_get (map pair_of es) k ≡ Some h) × (h.incident ≡ n)
pair-there n k [] h = absurd (none-some n h)
pair-there n zero (e ∷ es) h = (pair_of e, refl, same_Some _ _ h)
pair-there n (suc k) (e ∷ es) h = pair-there n k es h

pub entry-within : (n k : ℕ) (es : List (List ℕ × ℕ)) → option_map (λ e. e.1) (slice_get es k) ≡ Some n → k < length es
entry-within n k [] h = absurd (none-some n h)
entry-within n zero (e ∷ es) h = omega arith
entry-within n (suc k) (e ∷ es) h = omega (arith, entry-within n k es h)

-- the number of an entry whose pair is known
pub number-there : (n k : ℕ) (es : List (List ℕ × ℕ)) →
    (h : HasCall) × (slice_get (map pair_of es) k ≡ Some h) × (is_of n h ≡ true) →
    option_map (λ e. e.1) (slice_get es k) ≡ Some n
number-there n k [] h = absurd (none-some h.0 h.1)
number-there n zero (e ∷ es) h =
    let same : pair_of e ≡ h.0 = same_Some _ _ h.1 in
    ap Some (ap (λ (p : HasCall). p.incident) same ∙ eqb-true _ _ h.2)
number-there n (suc k) (e ∷ es) h = number-there n k es h

-- an entry at the first place of a call
pub no-number : (p : HasCall → Bool) (i k : ℕ) (es : List (List ℕ × ℕ)) → first p i (map pair_of es) ≡ Some (i + k) →
    k < length (map pair_of es) → option_map (λ e. e.1) (slice_get es k) ≢ None
no-number p i k [] f w h = absurd (omega (arith, w))
no-number p i zero (e ∷ es) f w h = absurd (none-some _ (sym h))
no-number p i (suc k) (e ∷ es) f w h = later k es (omega (arith, w)) h
  where
    later : (k : ℕ) (es : List (List ℕ × ℕ)) → k < length (map pair_of es) →
        option_map (λ e. e.1) (slice_get es k) ≢ None
    later k [] w h = absurd (omega (arith, w))
    later zero (e ∷ es) w h = absurd (none-some _ (sym h))
    later (suc k) (e ∷ es) w h = later k es (omega (arith, w)) h

-- 2. one call given away

-- the list of a number after the call at a place went from one incident to another
pub places-given : (n old number k : ℕ) (ps : List HasCall) (before mid after : List ℕ) →
    (h : HasCall) × (slice_get ps k ≡ Some h) × (h.incident ≡ old) → before ≡ places (is_of n) 0 ps →
    mid ≡ without_place (nat_eq old n) k before → after ≡ with_place (nat_eq number n) k mid →
    after ≡ places (is_of n) 0 (changed_at k (call_of_incident number) ps)
places-given n old number k ps before mid after h b m a =
    let plain : 0 + k ≡ k = omega arith in
    a ∙ ap (with_place (nat_eq number n) k)
    (m ∙ ap (without_place (nat_eq old n) k) b
    ∙ ap (λ o. without_place (nat_eq o n) k (places (is_of n) 0 ps)) (sym h.2))
    ∙ ap (λ j. with_place (nat_eq number n) j (without_place (nat_eq h.0.incident n) j (places (is_of n) 0 ps)))
    (sym plain)
    ∙ sym (places-changed (is_of n) (call_of_incident number) 0 k h.0 ps h.1)

-- room for a place stays where one is taken out
pub room-without : (t : Bool) (k r s : ℕ) (before mid : List ℕ) → mid ≡ without_place t k before →
    length before < r → r ≤ s → length mid < s
room-without true k r s before mid e h g =
    let l : length mid ≡ length (remove_key (nat_eq k) before) = ap length e in
    omega (arith, l, remove_key-length k before, h, g)
room-without false k r s before mid e h g = let l : length mid ≡ length before = ap length e in omega (arith, l, h, g)

-- the list that a call went from is shorter by one
pub fewer-given : (from to k : ℕ) (before after : List ℕ) → from ≢ to →
    after ≡ with_place (nat_eq to from) k (without_place (nat_eq from from) k before) → slice_get before 0 ≡ Some k →
    length after + 1 ≡ length before
fewer-given from to k before after d e h =
    let apart : nat_eq to from ≡ false = ne_eqb to from (λ s. d (sym s)) in
    let same : nat_eq from from ≡ true = eq-eqb from from refl in
    let out : after ≡ remove_key (nat_eq k) before =
    e ∙ ap (λ t. with_place t k (without_place (nat_eq from from) k before)) apart
    ∙ ap (λ t. without_place t k before) same in
    ap (λ xs. length xs + 1) out ∙ remove_key-head k before h

-- and the list that it went to longer by one
pub more-given : (from to k : ℕ) (before after : List ℕ) → from ≢ to →
    after ≡ with_place (nat_eq to to) k (without_place (nat_eq from to) k before) → length after ≡ suc (length before)
more-given from to k before after d e =
    let apart : nat_eq from to ≡ false = ne_eqb from to d in
    let same : nat_eq to to ≡ true = eq-eqb to to refl in
    let put : after ≡ insert_place k before =
    e ∙ ap (λ t. with_place t k (without_place (nat_eq from to) k before)) same
    ∙ ap (λ t. insert_place k (without_place t k before)) apart in
    ap (λ xs. length xs) put ∙ insert_place-length k before

-- 3. all calls of an incident given away

map-changed : {A B : Type 0} (g : A → B) (f : A → A) (k : ℕ) (x : A) (xs : List A) → slice_get xs k ≡ Some x →
    g (f x) ≡ g x → map g (changed_at k f xs) ≡ map g xs
map-changed g f k x [] h e = refl
map-changed g f zero x (y ∷ xs) h e =
    let same : y ≡ x = same_Some _ _ h in
    ap (λ z. z ∷ map g xs) (ap (λ z. g (f z)) same ∙ e ∙ ap g (sym same))
map-changed g f (suc k) x (y ∷ xs) h e = ap (λ ys. g y ∷ ys) (map-changed g f k x xs h e)

moved_on : (a b : ℕ) (t : Bool) → nat_eq b a ≡ t → cond t b b ≡ b
moved_on a b true e = refl
moved_on a b false e = refl

-- a call given at once is one that the merge gives
pub calls-given : (from to k : ℕ) (ps : List HasCall) →
    (h : HasCall) × (slice_get ps k ≡ Some h) × (h.incident ≡ from) →
    map (call_after_merge from to) (changed_at k (call_of_incident to) ps) ≡ map (call_after_merge from to) ps
calls-given from to k ps h =
    let here : number_after_merge from to h.0.incident ≡ to =
    ap (λ t. cond t to h.0.incident) (eq-eqb h.0.incident from h.2) in
    map-changed (call_after_merge from to) (call_of_incident to) k h.0 ps h.1
    (ap (λ n. record { incident = n; call = h.0.call }) (moved_on from to (nat_eq to from) refl ∙ sym here))

none_step : (t : Bool) (i : ℕ) (ks : List ℕ) → length (cond t (i ∷ ks) ks) ≡ 0 → (t ≡ false) × (length ks ≡ 0)
none_step true i ks h = absurd (omega (arith, h))
none_step false i ks h = (refl, h)

-- where an incident has no calls, its merge changes none
pub none-given : (from to i : ℕ) (ps : List HasCall) → length (places (is_of from) i ps) ≡ 0 →
    map (call_after_merge from to) ps ≡ ps
none-given from to i [] h = refl
none-given from to i (p ∷ ps) h =
    let parts : (is_of from p ≡ false) × (length (places (is_of from) (suc i) ps) ≡ 0) =
    none_step (is_of from p) i (places (is_of from) (suc i) ps) h in
    let here : number_after_merge from to p.incident ≡ p.incident = ap (λ t. cond t to p.incident) parts.0 in
    ap (λ n. record { incident = n; call = p.call } ∷ map (call_after_merge from to) ps) here
    ∙ ap (λ qs. p ∷ qs) (none-given from to (suc i) ps parts.1)

pub none-first : (ks : List ℕ) → slice_get ks 0 ≡ None → length ks ≡ 0
none-first [] h = refl
none-first (k ∷ ks) h = absurd (none-some k (sym h))

-- 4. whether an incident has a call

none-any : (n : ℕ) (k : List ℕ) (es : List (List ℕ × ℕ)) → AllByRecursion (λ y. bytes_eq k y ≡ false) (keys_of es) →
    list_any (λ h. is_of n h && is_call k h) (map pair_of es) ≡ false
none-any n k [] a = refl
none-any n k (e ∷ es) a =
    let here : bytes_eq e.0 k ≡ false = nat_list_eq_equiv.symm e.0 k ∙ a.0 in
    ap (λ t. ((e.1 == n) && t) || list_any (λ h. is_of n h && is_call k h) (map pair_of es)) here
    ∙ out (e.1 == n) (list_any (λ h. is_of n h && is_call k h) (map pair_of es)) (none-any n k es a.1)
  where
    out : (t u : Bool) → u ≡ false → ((t && false) || u) ≡ false
    out true u h = h
    out false u h = h

any_step : (t u v : Bool) (m n : ℕ) (r : Option ℕ) → (t ≡ true → v ≡ false) → v ≡ option_map_or (λ k. k == n) r false →
    (((m == n) && t) || v) ≡ option_map_or (λ k. k == n) (cond t (Some m) r) false
any_step true u v m n r none h = ap (λ w. ((m == n) && true) || w) (none refl) ∙ plain (m == n)
  where
    plain : (t : Bool) → ((t && true) || false) ≡ t
    plain true = refl
    plain false = refl
any_step false u v m n r none h = off (m == n) v ∙ h
  where
    off : (t v : Bool) → ((t && false) || v) ≡ v
    off true v = refl
    off false v = refl

-- the entry of a call tells whose it is, as its keys differ
pub pair-any : (u : List ℕ) (n : ℕ) (es : List (List ℕ × ℕ)) → IsDistinct bytes_eq (keys_of es) →
    list_any (λ h. is_of n h && is_call u h) (map pair_of es) ≡ option_map_or (λ k. k == n)
    (lookup (bytes_eq u) es) false
unfolding IsDistinct
pair-any u n [] d = refl
pair-any u n (e ∷ es) d =
    ap (λ t. ((e.1 == n) && t) || list_any (λ h. is_of n h && is_call u h) (map pair_of es))
    (nat_list_eq_equiv.symm e.0 u)
    ∙ any_step (bytes_eq u e.0) true (list_any (λ h. is_of n h && is_call u h) (map pair_of es)) e.1 n
    (lookup (bytes_eq u) es)
    (λ t. subst (λ w. list_any (λ h. is_of n h && is_call w h) (map pair_of es) ≡ false)
    (sym ((bytes_decides u e.0).0 t))
    (none-any n e.0 es d.0)) (pair-any u n es d.1)
