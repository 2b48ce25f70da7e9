-- What an index holds after a change of one list.
use Rattle.std.proofs.Common.{◌≡◌, ◌∙◌, ◌≤◌, length, ℕ, List, [], ◌∷◌, Bool, true, false, Option, Some, None, cond}
use Rattle.std.proofs.Common.{nat_eq, position, refl, vec_capacity, is_some, sym, ap, subst, eqb-true, ◌||◌, arith}
use Rattle.std.specs.Option.{option_map_or}
use Rattle.std.specs.Map.{lookup, keys_of}
use Rattle.std.specs.Cmp.{nat_eq_equiv}
use Rattle.std.specs.declared.vec.Vec.{Vec}
use Rattle.std.proofs.lemmas.Bool.{eq-eqb}
use Rattle.indexmap.specs.IndexMap.{insert_entry, set_value_at}
use Rattle.indexmap.proofs.MapLemmas.{Found-position, insert_entry-first}
use Rattle.desk_index.specs.Places.{at_in, room_in, has_list, is_listed}

same_step : {X : Type 0} (t : Bool) (w v : X) (rest : Option X) →
    cond t (Some w) rest ≡ cond t (Some w) (cond t (Some v) rest)
same_step true w v rest = refl
same_step false w v rest = refl

lookup_step : {X : Type 0} (n k q : ℕ) (t : Bool) → nat_eq n k ≡ t → (w v : X) (es rest : Option X) →
    rest ≡ cond (nat_eq n q) (Some w) es →
    cond t (cond (nat_eq q k) (Some w) es) (cond (nat_eq q k) (Some v) rest) ≡ cond (nat_eq n q) (Some w)
    (cond (nat_eq q k) (Some v) es)
lookup_step n k q true e w v es rest ih =
    let same : n ≡ k = eqb-true n k e in
    subst (λ m. cond (nat_eq q m) (Some w) es ≡ cond (nat_eq n q) (Some w) (cond (nat_eq q m) (Some v) es)) same
    (subst (λ t. cond t (Some w) es ≡ cond (nat_eq n q) (Some w) (cond t (Some v) es)) (nat_eq_equiv.symm n q)
    (same_step (nat_eq n q) w v es))
lookup_step n k q false e w v es rest ih = by (nat_eq q k) refl
  where
    by : (u : Bool) → nat_eq q k ≡ u → cond u (Some v) rest ≡ cond (nat_eq n q) (Some w) (cond u (Some v) es)
    by true f =
        let other : nat_eq n q ≡ false = subst (λ m. nat_eq n m ≡ false) (sym (eqb-true q k f)) e in
        rw other refl
    by false f = ih

cond_lookup : {X : Type 0} (t u : Bool) (k : ℕ) (w v : X) (q : ℕ) (es rest : List (ℕ × X)) →
    lookup (nat_eq q) (cond t ((k, w) ∷ es) ((k, v) ∷ rest)) ≡ cond t
    (cond (nat_eq q k) (Some w) (lookup (nat_eq q) es)) (cond (nat_eq q k) (Some v) (lookup (nat_eq q) rest))
cond_lookup true u k w v q es rest = refl
cond_lookup false u k w v q es rest = refl

pub lookup-insert_entry : {X : Type 0} (es : List (ℕ × X)) (n : ℕ) (w : X) (q : ℕ) →
    lookup (nat_eq q) (insert_entry nat_eq es n w) ≡ cond (nat_eq n q) (Some w) (lookup (nat_eq q) es)
lookup-insert_entry [] n w q = ap (λ t. cond t (Some w) None) (nat_eq_equiv.symm q n)
lookup-insert_entry (e ∷ es) n w q =
    cond_lookup (nat_eq n e.0) true e.0 w e.1 q es (insert_entry nat_eq es n w)
    ∙ lookup_step n e.0 q (nat_eq n e.0) refl w e.1 (lookup (nat_eq q) es)
    (lookup (nat_eq q) (insert_entry nat_eq es n w)) (lookup-insert_entry es n w q)

read_step : {X Y : Type 0} (g : X → Y) (d : Y) (t : Bool) (w : X) (r : Option X) (y : Y) → (t ≡ true → g w ≡ y) →
    option_map_or g (cond t (Some w) r) d ≡ cond t y (option_map_or g r d)
read_step g d true w r y h = h refl
read_step g d false w r y h = refl

-- what is read of one number changed, by a write at its index
pub read-set : {X Y : Type 0} (g : X → Y) (d : Y) (f : Y → Y) (es : List (ℕ × X)) (n i : ℕ) (v w : X) →
    position (nat_eq n) (keys_of es) ≡ Some i → lookup (nat_eq n) es ≡ Some v → g w ≡ f (g v) →
    (q : ℕ) → option_map_or g (lookup (nat_eq q) (set_value_at es i w)) d
    ≡ cond (nat_eq n q) (f (option_map_or g (lookup (nat_eq q) es) d)) (option_map_or g (lookup (nat_eq q) es) d)
read-set g d f es n i v w at there made q =
    ap (λ fs. option_map_or g (lookup (nat_eq q) fs) d)
    (sym (insert_entry-first nat_eq n w es i (Found-position (nat_eq n) es i at).first))
    ∙ ap (λ r. option_map_or g r d) (lookup-insert_entry es n w q)
    ∙ read_step g d (nat_eq n q) w (lookup (nat_eq q) es) (f (option_map_or g (lookup (nat_eq q) es) d))
    (λ same. made ∙ ap f (subst (λ m. g v ≡ option_map_or g (lookup (nat_eq m) es) d) (eqb-true n q same)
    (sym (ap (λ r. option_map_or g r d) there))))

pub at_in-set : {A B : Type 0} (f : List A → List A) (es : List (ℕ × Vec A B)) (n i : ℕ) (v w : Vec A B) →
    position (nat_eq n) (keys_of es) ≡ Some i → lookup (nat_eq n) es ≡ Some v → w.items ≡ f v.items →
    (q : ℕ) → at_in q (set_value_at es i w) ≡ cond (nat_eq n q) (f (at_in q es)) (at_in q es)
at_in-set f es n i v w at there made q = read-set (λ (u : Vec _ _). u.items) [] f es n i v w at there made q

more_room : (t : Bool) (r s q : ℕ) → (t ≡ true → q ≤ s) → q ≤ cond t s q
more_room true r s q h = h refl
more_room false r s q h = omega arith

-- a list written at its index keeps the room of each
pub room_in-set : {A B : Type 0} (es : List (ℕ × Vec A B)) (n i : ℕ) (v w : Vec A B) →
    position (nat_eq n) (keys_of es) ≡ Some i → lookup (nat_eq n) es ≡ Some v → vec_capacity v ≤ vec_capacity w →
    (q : ℕ) → room_in q es ≤ room_in q (set_value_at es i w)
room_in-set es n i v w at there more q =
    subst (λ r. room_in q es ≤ r) (sym
    (read-set (λ (u : Vec _ _). vec_capacity u) 0 (λ _. vec_capacity w) es n i v w at there refl q))
    (more_room (nat_eq n q) 0 (vec_capacity w) (room_in q es)
    (λ same. subst (λ m. room_in m es ≤ vec_capacity w) (eqb-true n q same)
    (subst (λ o. option_map_or (λ (u : Vec _ _). vec_capacity u) o 0 ≤ vec_capacity w) (sym there) more)))

pub cond_same : {X : Type 0} (t : Bool) (x : X) → cond t x x ≡ x
cond_same true x = refl
cond_same false x = refl

-- the room of the list that is written
pub room_of-set : {A B : Type 0} (es : List (ℕ × Vec A B)) (n i : ℕ) (v w : Vec A B) →
    position (nat_eq n) (keys_of es) ≡ Some i → lookup (nat_eq n) es ≡ Some v →
    room_in n (set_value_at es i w) ≡ vec_capacity w
room_of-set es n i v w at there =
    read-set (λ (u : Vec _ _). vec_capacity u) 0 (λ _. vec_capacity w) es n i v w at there refl n
    ∙ ap (λ t. cond t (vec_capacity w) (room_in n es)) (eq-eqb n n refl)

fits_case : (t : Bool) (l r s : ℕ) → (t ≡ true → l ≤ s) → l ≤ r → l ≤ cond t s r
fits_case true l r s h g = h refl
fits_case false l r s h g = g

-- what fits still fits, where the list that is written does
pub fits-set : {B : Type 0} (es : List (ℕ × Vec ℕ B)) (n i : ℕ) (v w : Vec ℕ B) →
    position (nat_eq n) (keys_of es) ≡ Some i → lookup (nat_eq n) es ≡ Some v → w.items ≡ v.items →
    length (at_in n es) ≤ vec_capacity w →
    (q : ℕ) → length (at_in q es) ≤ room_in q es →
    length (at_in q (set_value_at es i w)) ≤ room_in q (set_value_at es i w)
fits-set es n i v w at there made fits q h =
    subst (λ r. length (at_in q (set_value_at es i w)) ≤ r)
    (sym (read-set (λ (u : Vec _ _). vec_capacity u) 0 (λ _. vec_capacity w) es n i v w at there refl q))
    (subst (λ xs. length xs ≤ cond (nat_eq n q) (vec_capacity w) (room_in q es))
    (sym (at_in-set (λ l. l) es n i v w at there made q ∙ cond_same (nat_eq n q) (at_in q es)))
    (fits_case (nat_eq n q) (length (at_in q es)) (room_in q es) (vec_capacity w)
    (λ t. subst (λ m. length (at_in m es) ≤ vec_capacity w) (eqb-true n q t) fits) h))

is_map_or : {X : Type 0} (o : Option X) → is_some o ≡ option_map_or (λ _. true) o false
is_map_or None = refl
is_map_or (Some x) = refl

-- a list written at its index: the numbers that have lists are the same
pub has_list-set : {V : Type 0} (es : List (ℕ × V)) (n i : ℕ) (v w : V) → position (nat_eq n) (keys_of es) ≡ Some i →
    lookup (nat_eq n) es ≡ Some v → (q : ℕ) → has_list q (set_value_at es i w) ≡ has_list q es
has_list-set es n i v w at there q =
    is_map_or (lookup (nat_eq q) (set_value_at es i w))
    ∙ read-set (λ _. true) false (λ b. b) es n i v w at there refl q
    ∙ cond_same (nat_eq n q) (option_map_or (λ _. true) (lookup (nat_eq q) es) false)
    ∙ sym (is_map_or (lookup (nat_eq q) es))

listed_step : {V : Type 0} (t : Bool) (v : V) (r : Option V) (u : Bool) → is_some r ≡ u →
    is_some (cond t (Some v) r) ≡ (t || u)
listed_step true v r u h = refl
listed_step false v r u h = h

-- a number that has a list is among those that have one
pub has_list-listed : {V : Type 0} (n : ℕ) (es : List (ℕ × V)) → has_list n es ≡ is_listed n (keys_of es)
has_list-listed n [] = refl
has_list-listed n (e ∷ es) =
    listed_step (nat_eq n e.0) e.1 (lookup (nat_eq n) es) (is_listed n (keys_of es)) (has_list-listed n es)
