-- The acknowledged place is the greatest candidate that has the votes.
use Rattle.std.proofs.Common.{◌≡◌, ℕ, zero, suc, ◌<◌, ◌≤◌, ◌⊎◌, inl, inr, Bool, true, false, cond}
use Rattle.std.proofs.Common.{not, ◌&&◌, eqb, leb, ltb, min, List, refl, sym, ◌∙◌}
use Rattle.std.proofs.Common.{arith, subst, le-leb, ⊎_elim}
use Rattle.std.specs.Prelude.{slice_index_or}
use Rattle.std.proofs.lemmas.Bool.{cond_both, cases_lt, and_parts, leb-true, leb-false, ltb-true, ltb-false}
use Rattle.std.proofs.lemmas.Bool.{not-true}
use Rattle.desk_log.specs.Quorum.{tally, faults}
use Rattle.desk_normal.specs.Acknowledgements.{votes, acknowledged_place}
use Rattle.desk_normal.specs.Candidates.{candidate, greatest_candidate}
use Rattle.desk_normal.specs.PlaceLaws.{IsVoted, AcknowledgedIsGreatest}

place_most : (i n : ℕ) (places : List ℕ) (len k : ℕ) → k ≤ len → IsVoted i n places k →
    k ≤ acknowledged_place i n places len
place_most i n places zero k l b = omega (arith, l)
place_most i n places (suc len) k l b =
    cond_both (leb (faults n) (votes i n places (suc len))) (suc len) (acknowledged_place i n places len) (λ x. k ≤ x)
    (λ _. l)
    (λ e. ⊎_elim
    (λ (q : k ≤ len). place_most i n places len k q b)
    (λ (q : k ≡ suc len). ⊎_elim
    (λ (z : k ≡ 0). absurd (omega (arith, z, q)))
    (λ (v : faults n ≤ votes i n places k).
    let w : faults n ≤ votes i n places (suc len) = subst (λ x. faults n ≤ votes i n places x) q v in
    absurd (omega (arith, leb-false (faults n) (votes i n places (suc len)) e, w))) b)
    (split k len l))
  where
    split : (k len : ℕ) → k ≤ suc len → (k ≤ len) ⊎ (k ≡ suc len)
    split k len l = ⊎_elim (λ (q : len < k). inr (omega (arith, l, q))) (λ (q : k ≤ len). inl q) (cases_lt len k)

place_within : (i n : ℕ) (places : List ℕ) (len : ℕ) → acknowledged_place i n places len ≤ len
place_within i n places zero = omega arith
place_within i n places (suc len) =
    cond_both (leb (faults n) (votes i n places (suc len))) (suc len) (acknowledged_place i n places len)
    (λ x. x ≤ suc len)
    (λ _. omega arith) (λ _. omega (arith, place_within i n places len))

place_voted : (i n : ℕ) (places : List ℕ) (len : ℕ) → IsVoted i n places (acknowledged_place i n places len)
place_voted i n places zero = inl refl
place_voted i n places (suc len) =
    cond_both (leb (faults n) (votes i n places (suc len))) (suc len) (acknowledged_place i n places len)
    (IsVoted i n places)
    (λ e. inr (leb-true (faults n) (votes i n places (suc len)) e)) (λ _. place_voted i n places len)

pub acknowledged_is_greatest : AcknowledgedIsGreatest
acknowledged_is_greatest i n places len = record {
  within = place_within i n places len;
  voted = place_voted i n places len;
  greatest = λ other l v. place_most i n places len other l (inr v);
}

candidate_within : (i : ℕ) (places : List ℕ) (len j : ℕ) → candidate i places len j ≤ len
candidate_within i places len j =
    cond_both (eqb j i) 0 (min (slice_index_or places j 0) len) (λ x. x ≤ len) (λ _. omega arith) (λ _. omega arith)

greatest_within : (i n : ℕ) (places : List ℕ) (len j : ℕ) → greatest_candidate i n places len j ≤ len
greatest_within i n places len zero = omega arith
greatest_within i n places len (suc j) =
    cond_both (ltb (greatest_candidate i n places len j) (candidate i places len j)
    && leb (faults n) (votes i n places (candidate i places len j))) (candidate i places len j)
    (greatest_candidate i n places len j) (λ x. x ≤ len)
    (λ _. candidate_within i places len j) (λ _. greatest_within i n places len j)

greatest_voted : (i n : ℕ) (places : List ℕ) (len j : ℕ) → IsVoted i n places (greatest_candidate i n places len j)
greatest_voted i n places len zero = inl refl
greatest_voted i n places len (suc j) =
    cond_both (ltb (greatest_candidate i n places len j) (candidate i places len j)
    && leb (faults n) (votes i n places (candidate i places len j))) (candidate i places len j)
    (greatest_candidate i n places len j) (IsVoted i n places)
    (λ e. inr (leb-true (faults n) (votes i n places (candidate i places len j))
    (and_parts (ltb (greatest_candidate i n places len j) (candidate i places len j))
    (leb (faults n) (votes i n places (candidate i places len j))) e).1))
    (λ _. greatest_voted i n places len j)

-- A test of two that fails, one after the other
and_split : (a b : Bool) → (a && b) ≡ false → b ≡ true → a ≡ false
and_split true true e f = absurd (no_way e)
  where
    no_way : true ≡ false → ⊥
    no_way q = omega (arith, leb-false 0 1 (le-leb 0 1 (omega arith) ∙ q))
and_split true false e f = sym f ∙ refl
and_split false b e f = refl

greatest_grows : (i n : ℕ) (places : List ℕ) (len j : ℕ) →
    greatest_candidate i n places len j ≤ greatest_candidate i n places len (suc j)
greatest_grows i n places len j =
    cond_both (ltb (greatest_candidate i n places len j) (candidate i places len j)
    && leb (faults n) (votes i n places (candidate i places len j))) (candidate i places len j)
    (greatest_candidate i n places len j) (λ x. greatest_candidate i n places len j ≤ x)
    (λ e. omega (
      arith,
      ltb-true (greatest_candidate i n places len j) (candidate i places len j)
          (and_parts (ltb (greatest_candidate i n places len j) (candidate i places len j))
          (leb (faults n) (votes i n places (candidate i places len j))) e).0,
    ))
    (λ _. omega arith)

greatest_here : (i n : ℕ) (places : List ℕ) (len j : ℕ) → faults n ≤ votes i n places (candidate i places len j) →
    candidate i places len j ≤ greatest_candidate i n places len (suc j)
greatest_here i n places len j v =
    cond_both (ltb (greatest_candidate i n places len j) (candidate i places len j)
    && leb (faults n) (votes i n places (candidate i places len j))) (candidate i places len j)
    (greatest_candidate i n places len j) (λ x. candidate i places len j ≤ x)
    (λ _. omega arith)
    (λ e. ltb-false (greatest_candidate i n places len j) (candidate i places len j)
    (and_split (ltb (greatest_candidate i n places len j) (candidate i places len j))
    (leb (faults n) (votes i n places (candidate i places len j))) e
    (le-leb (faults n) (votes i n places (candidate i places len j)) v)))

greatest_most : (i n : ℕ) (places : List ℕ) (len k j : ℕ) → j < k →
    faults n ≤ votes i n places (candidate i places len j) →
    candidate i places len j ≤ greatest_candidate i n places len k
greatest_most i n places len zero j l v = absurd (omega (arith, l))
greatest_most i n places len (suc k) j l v = ⊎_elim
    (λ (q : j < k). omega (arith, greatest_most i n places len k j q v, greatest_grows i n places len k))
    (λ (q : k ≤ j). let same : j ≡ k = omega (arith, l, q) in
    subst (λ x. candidate i places len j ≤ greatest_candidate i n places len (suc x)) same
    (greatest_here i n places len j v))
    (cases_lt j k)

-- Where one test passes more often than another, there is a node at which it alone passes.
differ_step : (n : ℕ) (p q : ℕ → Bool) (a b : Bool) → p n ≡ a → q n ≡ b →
    (tally n p < tally n q → (j : ℕ) × (j < n) × (p j ≡ false) × (q j ≡ true)) →
    cond a (suc (tally n p)) (tally n p) < cond b (suc (tally n q)) (tally n q) →
    (j : ℕ) × (j < suc n) × (p j ≡ false) × (q j ≡ true)
differ_step n p q true true e f ih l = let r = ih (omega (arith, l)) in (r.0, omega (arith, r.1), r.2, r.3)
differ_step n p q true false e f ih l = let r = ih (omega (arith, l)) in (r.0, omega (arith, r.1), r.2, r.3)
differ_step n p q false true e f ih l = (n, omega arith, e, f)
differ_step n p q false false e f ih l = let r = ih l in (r.0, omega (arith, r.1), r.2, r.3)

differ : (n : ℕ) (p q : ℕ → Bool) → tally n p < tally n q → (j : ℕ) × (j < n) × (p j ≡ false) × (q j ≡ true)
differ zero p q l = absurd (omega (arith, l))
differ (suc n) p q l = differ_step n p q (p n) (q n) refl refl (differ n p q) l

tally_none : (n : ℕ) → tally n (λ _. false) ≡ 0
tally_none zero = refl
tally_none (suc n) = tally_none n

-- An acknowledged place is the candidate of some node.
candidate_at : (i n : ℕ) (places : List ℕ) (len s j : ℕ) → s ≤ len →
    (not (eqb j i) && leb s (slice_index_or places j 0)) ≡ true → (slice_index_or places j 0 ≤ s) ⊎ (len ≤ s) →
    candidate i places len j ≡ s
candidate_at i n places len s j l t c =
    let parts = and_parts (not (eqb j i)) (leb s (slice_index_or places j 0)) t in
    let off : eqb j i ≡ false = not-true (eqb j i) parts.0 in
    let low : s ≤ slice_index_or places j 0 = leb-true s (slice_index_or places j 0) parts.1 in
    rw off (omega (arith, l, low, c))

left_false : (j i : ℕ) (places : List ℕ) (s : ℕ) → (not (eqb j i) && leb (suc s) (slice_index_or places j 0)) ≡ false →
    (not (eqb j i) && leb s (slice_index_or places j 0)) ≡ true → slice_index_or places j 0 ≤ s
left_false j i places s e t =
    let parts = and_parts (not (eqb j i)) (leb s (slice_index_or places j 0)) t in
    let off : (true && leb (suc s) (slice_index_or places j 0)) ≡ false = rw parts.0 at e in
    omega (arith, leb-false (suc s) (slice_index_or places j 0) off)

record FoundCandidate (i n : ℕ) (places : List ℕ) (len s : ℕ) : Type 0 where
  node : ℕ
  within : node < n
  is : candidate i places len node ≡ s

found : (i n : ℕ) (places : List ℕ) (len s : ℕ) → 0 < faults n → s ≡ acknowledged_place i n places len →
    faults n ≤ votes i n places s → (s < len) ⊎ (len ≤ s) → FoundCandidate i n places len s
found i n places len s f q v (inl l) =
    let few : votes i n places (suc s) < faults n = ⊎_elim (λ (z : votes i n places (suc s) < faults n). z)
    (λ (z : faults n ≤ votes i n places (suc s)). absurd
    (omega (arith, place_most i n places len (suc s) l (inr z), q)))
    (cases_lt (votes i n places (suc s)) (faults n)) in
    let d = differ n (λ j. not (eqb j i) && leb (suc s) (slice_index_or places j 0))
    (λ j. not (eqb j i) && leb s (slice_index_or places j 0)) (omega (arith, few, v)) in
    record {
      node = d.0;
      within = d.1;
      is =
          candidate_at i n places len s d.0 (omega (arith, l)) d.3 (inl (left_false d.0 i places s d.2 d.3));
    }
found i n places len s f q v (inr l) =
    let d = differ n (λ _. false) (λ j. not (eqb j i) && leb s (slice_index_or places j 0))
    (omega (arith, tally_none n, v, f)) in
    record {
      node = d.0;
      within = d.1;
      is =
          candidate_at i n places len s d.0 (omega (arith, place_within i n places len, q)) d.3 (inr l);
    }

upper : (i n : ℕ) (places : List ℕ) (len : ℕ) → 0 < faults n → IsVoted i n places (acknowledged_place i n places len) →
    acknowledged_place i n places len ≤ greatest_candidate i n places len n
upper i n places len f (inl z) = omega (arith, z)
upper i n places len f (inr v) =
    let s : ℕ = acknowledged_place i n places len in
    let d : FoundCandidate i n places len s = found i n places len s f refl v (cases_lt s len) in
    let w : faults n ≤ votes i n places (candidate i places len d.node) =
    subst (λ x. faults n ≤ votes i n places x) (sym d.is) v in
    omega (arith, greatest_most i n places len n d.node d.within w, d.is)

pub greatest_is_acknowledged : (i n : ℕ) (places : List ℕ) (len : ℕ) → 0 < faults n →
    greatest_candidate i n places len n ≡ acknowledged_place i n places len
greatest_is_acknowledged i n places len f =
    let a : greatest_candidate i n places len n ≤ acknowledged_place i n places len =
    place_most i n places len (greatest_candidate i n places len n) (greatest_within i n places len n)
    (greatest_voted i n places len n) in
    let b : acknowledged_place i n places len ≤ greatest_candidate i n places len n =
    upper i n places len f (place_voted i n places len) in
    omega (arith, a, b)

-- Where no node may fail the whole length is acknowledged.
pub all_acknowledged : (i n : ℕ) (places : List ℕ) (len : ℕ) → faults n ≡ 0 → acknowledged_place i n places len ≡ len
all_acknowledged i n places zero f = refl
all_acknowledged i n places (suc len) f =
    cond_both (leb (faults n) (votes i n places (suc len))) (suc len) (acknowledged_place i n places len)
    (λ x. x ≡ suc len)
    (λ _. refl)
    (λ e. absurd (omega (arith, leb-false (faults n) (votes i n places (suc len)) e, f)))
