-- Counts of different nodes: two counts that are more than all the nodes together meet in a node.
use Rattle.std.proofs.Common.{◌≡◌, ℕ, zero, suc, ◌+◌, ◌<◌, ◌≤◌, Bool, true, false, cond, ◌||◌, eqb, refl, sym, ◌∙◌}
use Rattle.std.proofs.Common.{arith, ◌⊎◌, inl, inr}
use Rattle.std.proofs.lemmas.Bool.{cases_eq, eq-eqb, ne_eqb, false≢true}
use Rattle.desk_log.specs.Quorum.{tally}

-- a node below n that passes both tests
abbrev pub Shared : ℕ → (ℕ → Bool) → (ℕ → Bool) → Type 0
Shared n p q = (j : ℕ) × (j < n) × (p j ≡ true) × (q j ≡ true)

shared_more : (n : ℕ) (p q : ℕ → Bool) → Shared n p q → Shared (suc n) p q
shared_more n p q s = (s.0, omega (arith, s.1), s.2, s.3)

meet_step : (n : ℕ) (p q : ℕ → Bool) (a b : Bool) → p n ≡ a → q n ≡ b →
    (n < tally n p + tally n q → Shared n p q) →
    suc n < cond a (suc (tally n p)) (tally n p) + cond b (suc (tally n q)) (tally n q) → Shared (suc n) p q
meet_step n p q true true e f ih k = (n, omega arith, e, f)
meet_step n p q true false e f ih k = shared_more n p q (ih (omega arith))
meet_step n p q false true e f ih k = shared_more n p q (ih (omega arith))
meet_step n p q false false e f ih k = shared_more n p q (ih (omega arith))

pub tallies_meet : (n : ℕ) (p q : ℕ → Bool) → n < tally n p + tally n q → Shared n p q
tallies_meet zero p q h = absurd (omega arith)
tallies_meet (suc n) p q h = meet_step n p q (p n) (q n) refl refl (tallies_meet n p q) h

-- Tests that agree below n count the same.
pub tally_same : (n : ℕ) (p q : ℕ → Bool) → ((j : ℕ) → j < n → p j ≡ q j) → tally n p ≡ tally n q
tally_same zero p q h = refl
tally_same (suc n) p q h =
    let here : p n ≡ q n = h n (omega arith) in
    let below : tally n p ≡ tally n q = tally_same n p q (λ j l. h j (omega arith)) in
    rw (here, below)

one_more_step : (n x : ℕ) (p : ℕ → Bool) → x < suc n → p x ≡ false →
    (x < n → tally n (λ j. eqb j x || p j) ≡ suc (tally n p)) →
    (x ≡ n) ⊎ (x ≡ n → ⊥) →
    tally (suc n) (λ j. eqb j x || p j) ≡ suc (tally (suc n) p)
one_more_step n x p l free ih (inl e) =
    let here : eqb n x ≡ true = eq-eqb n x (sym e) in
    let off : p n ≡ false = rw e at free in
    let same : tally n (λ j. eqb j x || p j) ≡ tally n p =
    tally_same n _ p (λ j k. let ne : eqb j x ≡ false = ne_eqb j x (λ q. omega arith) in rw ne) in
    rw (here, off, same)
one_more_step n x p l free ih (inr ne) =
    let here : eqb n x ≡ false = ne_eqb n x (λ q. ne (sym q)) in
    let below : tally n (λ j. eqb j x || p j) ≡ suc (tally n p) = ih (omega arith) in
    rw (here, below) (by_test (p n))
  where
    by_test : (b : Bool) → cond b (suc (suc (tally n p))) (suc (tally n p)) ≡ suc (cond b (suc (tally n p)) (tally n p))
    by_test true = refl
    by_test false = refl

-- One more node counts one more.
pub tally_one_more : (n x : ℕ) (p : ℕ → Bool) → x < n → p x ≡ false → tally n (λ j. eqb j x || p j) ≡ suc (tally n p)
tally_one_more zero x p l free = absurd (omega arith)
tally_one_more (suc n) x p l free = one_more_step n x p l free (λ k. tally_one_more n x p k free) (cases_eq x n)

le_step : (n : ℕ) (p q : ℕ → Bool) (a b : Bool) → p n ≡ a → q n ≡ b → (p n ≡ true → q n ≡ true) →
    tally n p ≤ tally n q →
    cond a (suc (tally n p)) (tally n p) ≤ cond b (suc (tally n q)) (tally n q)
le_step n p q true true e f h l = omega (arith, l)
le_step n p q true false e f h l = absurd (false≢true (sym f ∙ h e))
le_step n p q false true e f h l = omega (arith, l)
le_step n p q false false e f h l = l

-- A test that passes wherever another does counts no less.
pub tally_le : (n : ℕ) (p q : ℕ → Bool) → ((j : ℕ) → p j ≡ true → q j ≡ true) → tally n p ≤ tally n q
tally_le zero p q h = omega arith
tally_le (suc n) p q h = le_step n p q (p n) (q n) refl refl (h n) (tally_le n p q h)

some_step : (n : ℕ) (p : ℕ → Bool) (b : Bool) → p n ≡ b → (0 < tally n p → (j : ℕ) × (p j ≡ true)) →
    0 < cond b (suc (tally n p)) (tally n p) → (j : ℕ) × (p j ≡ true)
some_step n p true e ih l = (n, e)
some_step n p false e ih l = ih l

-- A count that is not 0 has a node.
pub tally_some : (n : ℕ) (p : ℕ → Bool) → 0 < tally n p → (j : ℕ) × (p j ≡ true)
tally_some zero p h = absurd (omega arith)
tally_some (suc n) p h = some_step n p (p n) refl (tally_some n p) h
