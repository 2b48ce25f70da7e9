-- The best of the offers, and the greatest of their commits.
use Rattle.std.proofs.Common.{◌≡◌, ℕ, zero, suc, ◌<◌, ◌≤◌, ◌⊎◌, Bool, true, false, ◌&&◌, cond, max, List, length}
use Rattle.std.proofs.Common.{Option, Some, None, refl, sym, ◌∙◌, arith, inl, inr, ⊎_elim, eqb, ltb}
use Rattle.std.specs.Prelude.{slice_index_or}
use Rattle.std.proofs.lemmas.Bool.{cases_lt, or_parts, or_cases, and_parts, eqb-true, eq-eqb, ne_eqb, ltb-true}
use Rattle.std.proofs.lemmas.Bool.{ltb-false, lt-ltb, le-ltb, false≢true}
use Rattle.std.proofs.lemmas.Option.{same_Some, none-some}
use Rattle.desk_view_change.specs.declared.offer.Offer.{Offer}
use Rattle.desk_view_change.specs.Choice.{commit_of, is_better, better_offer, best_offer, greatest_commit}
use Rattle.desk_view_change.specs.ChoiceLaws.{IsBest, BestIsBest, BestIsNone, GreatestBounds, GreatestIsReached}

-- The second offer is better.
abbrev Better : Offer → Offer → Type 0
Better a b = (a.normal < b.normal) ⊎ ((a.normal ≡ b.normal) × (length a.log < length b.log))

-- The first offer is no better.
abbrev pub NoBetter : Offer → Offer → Type 0
NoBetter a b = (a.normal < b.normal) ⊎ ((a.normal ≡ b.normal) × (length a.log ≤ length b.log))

better_from : (a b : Offer) → is_better a b ≡ true → Better a b
better_from a b t = ⊎_elim
    (λ x. inl (ltb-true a.normal b.normal x))
    (λ y.
    let p = and_parts (eqb a.normal b.normal) (ltb (length a.log) (length b.log)) y in
    inr (eqb-true a.normal b.normal p.0, ltb-true (length a.log) (length b.log) p.1))
    (or_cases (ltb a.normal b.normal) (eqb a.normal b.normal && ltb (length a.log) (length b.log)) t)

better_to : (a b : Offer) → Better a b → is_better a b ≡ true
better_to a b (inl l) = rw (lt-ltb a.normal b.normal l) refl
better_to a b (inr p) =
    let level : b.normal ≤ a.normal = omega (arith, p.0) in
    rw (
      le-ltb a.normal b.normal level,
      eq-eqb a.normal b.normal p.0,
      lt-ltb (length a.log) (length b.log) p.1,
    ) refl

no_better_to : (a b : Offer) → NoBetter b a → is_better a b ≡ false
no_better_to a b (inl l) =
    let least : b.normal ≤ a.normal = omega (arith, l) in
    let other : a.normal ≡ b.normal → ⊥ = λ e. omega (arith, l, e) in
    rw (le-ltb a.normal b.normal least, ne_eqb a.normal b.normal other) refl
no_better_to a b (inr p) =
    let least : b.normal ≤ a.normal = omega (arith, p.0) in
    let level : a.normal ≡ b.normal = sym p.0 in
    rw (
      le-ltb a.normal b.normal least,
      eq-eqb a.normal b.normal level,
      le-ltb (length a.log) (length b.log) p.1,
    ) refl

pub no_better_from : (a b : Offer) → is_better a b ≡ false → NoBetter b a
no_better_from a b t = by_order (cases_lt b.normal a.normal) (cases_lt (length a.log) (length b.log))
  where
    by_order : (b.normal < a.normal) ⊎ (a.normal ≤ b.normal) →
        (length a.log < length b.log) ⊎ (length b.log ≤ length a.log) → NoBetter b a
    by_order (inl lt) o = inl lt
    by_order (inr ge) o =
        let p = or_parts (ltb a.normal b.normal) (eqb a.normal b.normal && ltb (length a.log) (length b.log)) t in
        let least : b.normal ≤ a.normal = ltb-false a.normal b.normal p.0 in
        let level : a.normal ≡ b.normal = omega (arith, ge, least) in
        by_length level o
      where
        by_length : a.normal ≡ b.normal → (length a.log < length b.log) ⊎ (length b.log ≤ length a.log) → NoBetter b a
        by_length level (inl lt) = absurd (false≢true (sym t ∙ better_to a b (inr (level, lt))))
        by_length level (inr le) = inr (sym level, le)

no_better_itself : (a : Offer) → is_better a a ≡ false
no_better_itself a = no_better_to a a (inr (refl, omega arith))

-- What is no better than an offer is worse than one that is better.
worse : (a b c : Offer) → NoBetter a b → Better b c → Better a c
worse a b c (inl x) (inl y) = inl (omega (arith, x, y))
worse a b c (inl x) (inr y) = inl (omega (arith, x, y.0))
worse a b c (inr x) (inl y) = inl (omega (arith, x.0, y))
worse a b c (inr x) (inr y) = inr (omega (arith, x.0, y.0), omega (arith, x.1, y.1))

no_better : (a b : Offer) → Better a b → NoBetter a b
no_better a b (inl x) = inl x
no_better a b (inr y) = inr (y.0, omega (arith, y.1))

offer_worse : (b c p : Offer) → is_better b p ≡ false → is_better b c ≡ true → Better p c
offer_worse b c p low high = worse p b c (no_better_from b p low) (better_from b c high)

-- what is said of the best offer of the nodes below k
abbrev BestBelow : List (Option Offer) → ℕ → Option Offer → Type 0
BestBelow offers k None = (j : ℕ) → j < k → slice_index_or offers j None ≡ None
BestBelow offers k (Some o) = IsBest offers k o

some_here : (offers : List (Option Offer)) (j k : ℕ) (c p : Offer) → j < suc k → k ≤ j →
    slice_index_or offers k None ≡ Some c → slice_index_or offers j None ≡ Some p → c ≡ p
some_here offers j k c p l ge e q =
    let same : j ≡ k = omega (arith, l, ge) in
    let there : slice_index_or offers k None ≡ Some p = rw same at q in
    same_Some c p (sym e ∙ there)

none_here : (offers : List (Option Offer)) (j k : ℕ) → j < suc k → k ≤ j → slice_index_or offers k None ≡ None →
    slice_index_or offers j None ≡ None
none_here offers j k l ge e = let same : j ≡ k = omega (arith, l, ge) in rw same e

best_step : (offers : List (Option Offer)) (k : ℕ) (b c : Option Offer) → slice_index_or offers k None ≡ c →
    BestBelow offers k b → BestBelow offers (suc k) (better_offer b c)
best_step offers k None None e ih =
    λ j l. ⊎_elim (λ lt. ih j lt) (λ ge. none_here offers j k l ge e) (cases_lt j k)
best_step offers k None (Some c) e ih = record {
  node = k;
  within = omega arith;
  is = e;
  none_better = λ j p l q. ⊎_elim
      (λ lt. absurd (none-some p (sym (ih j lt) ∙ q)))
      (λ ge. rw (← some_here offers j k c p l ge e q) (no_better_itself c))
      (cases_lt j k);
  first = λ j p l q. absurd (none-some p (sym (ih j l) ∙ q));
}
best_step offers k (Some b) None e ih = record {
  node = ih.node;
  within = omega (arith, ih.within);
  is = ih.is;
  none_better = λ j p l q. ⊎_elim
      (λ lt. ih.none_better j p lt q)
      (λ ge. absurd (none-some p (sym (none_here offers j k l ge e) ∙ q)))
      (cases_lt j k);
  first = ih.first;
}
best_step offers k (Some b) (Some c) e ih = by_test (is_better b c) refl
  where
    by_test : (t : Bool) → is_better b c ≡ t → IsBest offers (suc k) (cond t c b)
    by_test true y = record {
      node = k;
      within = omega arith;
      is = e;
      none_better = λ j p l q. ⊎_elim
          (λ lt. no_better_to c p (no_better p c (offer_worse b c p (ih.none_better j p lt q) y)))
          (λ ge. rw (← some_here offers j k c p l ge e q) (no_better_itself c))
          (cases_lt j k);
      first = λ j p l q. better_to p c (offer_worse b c p (ih.none_better j p l q) y);
    }
    by_test false y = record {
      node = ih.node;
      within = omega (arith, ih.within);
      is = ih.is;
      none_better = λ j p l q. ⊎_elim
          (λ lt. ih.none_better j p lt q)
          (λ ge. rw (← some_here offers j k c p l ge e q) y)
          (cases_lt j k);
      first = ih.first;
    }

best_below : (offers : List (Option Offer)) (k : ℕ) → BestBelow offers k (best_offer offers k)
best_below offers zero = λ j l. absurd (omega (arith, l))
best_below offers (suc k) =
    best_step offers k (best_offer offers k) (slice_index_or offers k None) refl (best_below offers k)

pub best_is_best : BestIsBest
best_is_best offers n o e = rw e at (best_below offers n)

pub best_is_none : BestIsNone
best_is_none offers n e = rw e at (best_below offers n)

pub greatest_bounds : GreatestBounds
greatest_bounds offers zero k l = absurd (omega (arith, l))
greatest_bounds offers (suc n) k l = ⊎_elim
    (λ (lt : k < n). omega (arith, greatest_bounds offers n k lt))
    (λ (ge : n ≤ k). let same : k ≡ n = omega (arith, l, ge) in rw same (omega arith))
    (cases_lt k n)

greatest_step : (offers : List (Option Offer)) (n g : ℕ) →
    (g ≡ 0) ⊎ ((k : ℕ) × (k < n) × (commit_of (slice_index_or offers k None) ≡ g)) →
    (commit_of (slice_index_or offers n None) < g) ⊎ (g ≤ commit_of (slice_index_or offers n None)) →
    (max g (commit_of (slice_index_or offers n None)) ≡ 0) ⊎ ((k : ℕ) × (k < suc n) ×
    (commit_of (slice_index_or offers k None) ≡ max g (commit_of (slice_index_or offers n None))))
greatest_step offers n g ih (inr ge) = inr (n, omega arith, omega (arith, ge))
greatest_step offers n g (inl z) (inl lt) = absurd (omega (arith, z, lt))
greatest_step offers n g (inr w) (inl lt) = inr (w.0, omega (arith, w.1), omega (arith, w.2, lt))

pub greatest_is_reached : GreatestIsReached
greatest_is_reached offers zero = inl refl
greatest_is_reached offers (suc n) =
    greatest_step offers n (greatest_commit offers n) (greatest_is_reached offers n)
    (cases_lt (commit_of (slice_index_or offers n None)) (greatest_commit offers n))
