-- Sets of far ends after a change of one.
use Rattle.std.proofs.Common.{◌≡◌, ◌∙◌, ◌||◌, ◌&&◌, ℕ, List, Bool, true, false, Some, cond, nat_eq}
use Rattle.std.proofs.Common.{position, refl, ap}
use Rattle.std.specs.List.{list_any}
use Rattle.std.specs.Map.{lookup, keys_of}
use Rattle.std.proofs.lemmas.Bool.{eq-eqb}
use Rattle.indexmap.specs.IndexMap.{set_value_at}
use Rattle.indexmap.specs.IndexSet.{IndexSet, spare}
use Rattle.desk_incidents.specs.EndSets.{has_end, room_of}
use Rattle.desk_index.proofs.IndexChanges.{read-set}

pub cond_both_tests : (t u b x : Bool) → cond t (cond u b x) x ≡ cond (t && u) b x
cond_both_tests true u b x = refl
cond_both_tests false u b x = refl

-- a set written at the index of its number
pub has_end-set : {S : Type 0} (f : Bool → Bool) (m : ℕ) (es : List (ℕ × IndexSet ℕ S)) (n i : ℕ) (v w : IndexSet ℕ S) →
    position (nat_eq n) (keys_of es) ≡ Some i → lookup (nat_eq n) es ≡ Some v →
    list_any (nat_eq m) w.keys ≡ f (list_any (nat_eq m) v.keys) →
    (q : ℕ) → has_end q m (set_value_at es i w) ≡ cond (nat_eq n q) (f (has_end q m es)) (has_end q m es)
has_end-set f m es n i v w at there made q =
    read-set (λ (u : IndexSet _ _). list_any (nat_eq m) u.keys) false f es n i v w at there made q

-- and the room of the set that is written
pub room_of-set : {S : Type 0} (es : List (ℕ × IndexSet ℕ S)) (n i : ℕ) (v w : IndexSet ℕ S) →
    position (nat_eq n) (keys_of es) ≡ Some i → lookup (nat_eq n) es ≡ Some v →
    room_of n (set_value_at es i w) ≡ spare w
room_of-set es n i v w at there =
    read-set (λ (u : IndexSet _ _). spare u) 0 (λ _. spare w) es n i v w at there refl n
    ∙ ap (λ t. cond t (spare w) (room_of n es)) (eq-eqb n n refl)

-- tests of one place more

pub put_more : (t u x : Bool) → cond u true (cond t true x) ≡ cond (t || u) true x
put_more true true x = refl
put_more true false x = refl
put_more false u x = refl

pub taken_more : (s t u x : Bool) → cond (s && u) false (cond (s && t) false x) ≡ cond (s && (t || u)) false x
taken_more true true true x = refl
taken_more true true false x = refl
taken_more true false u x = refl
taken_more false t u x = refl

pub taken_none : (s x : Bool) → cond (s && false) false x ≡ x
taken_none true x = refl
taken_none false x = refl

-- the sets of both ends of a link

pub taken_both : (s t u x : Bool) → cond (u && s) false (cond (t && s) false x) ≡ cond (s && (t || u)) false x
taken_both true true true x = refl
taken_both true true false x = refl
taken_both true false true x = refl
taken_both true false false x = refl
taken_both false true true x = refl
taken_both false true false x = refl
taken_both false false true x = refl
taken_both false false false x = refl

pub both_ways : (t u x y : Bool) →
    (cond u false (cond t false x) || cond t false (cond u false y)) ≡ cond (t || u) false (x || y)
both_ways true true x y = refl
both_ways true false x y = refl
both_ways false true x y = refl
both_ways false false x y = refl

pub put_ways : (t u x y : Bool) → (cond t true x || cond u true y) ≡ cond (t || u) true (x || y)
put_ways true u x y = refl
put_ways false true true y = refl
put_ways false true false y = refl
put_ways false false x y = refl

pub cond_test : (t : Bool) → cond t true false ≡ t
cond_test true = refl
cond_test false = refl
