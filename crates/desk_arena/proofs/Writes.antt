-- A piece of a list that is written over.
use Rattle.std.proofs.Common.{◌≡◌, ℕ, zero, suc, ◌+◌, ◌-◌, ◌≤◌, List, [], ◌∷◌, ◌++◌, length, take, drop, sym, ap}
use Rattle.std.proofs.Common.{◌∙◌, append_assoc, arith, length-append, length-drop}
use Rattle.std.proofs.lemmas.List.{length-take-le}
use Rattle.std.proofs.Math.Seq.{drop-nil, drop-append-add, drop-append_seam, take-append_seam}

pub drop-drop : (a b : ℕ) (xs : List ℕ) → drop b (drop a xs) ≡ drop (a + b) xs
drop-drop zero b xs = let here : b ≡ 0 + b = omega arith in ap (λ i. drop i xs) here
drop-drop (suc a) b [] = drop-nil b ∙ sym (drop-nil (suc a + b))
drop-drop (suc a) b (x ∷ xs) =
    let one_on : suc (a + b) ≡ suc a + b = omega arith in
    drop-drop a b xs ∙ ap (λ i. drop i (x ∷ xs)) one_on

module _ (old new : List ℕ) (at : ℕ) (fits : at + length new ≤ length old) where
  -- the old list with the new one from `at` on
  abbrev pub written : List ℕ
  written = take at old ++ new ++ drop (at + length new) old

  pub length-written : length written ≡ length old
  length-written =
      omega (
        arith,
        length-append (take at old ++ new) (drop (at + length new) old),
        length-append
            (take at old) new,
        length-take-le at old (omega arith),
        length-drop (at + length new) old,
      )

  pub length-front : length (take at old ++ new) ≡ at + length new
  length-front = omega (arith, length-append (take at old) new, length-take-le at old (omega arith))

  -- what lies after it stays
  pub drop-written_after : (k : ℕ) → at + length new ≤ k → drop k written ≡ drop k old
  drop-written_after k after =
      let more = k - (at + length new) in
      let k_is : k ≡ length (take at old ++ new) + more = omega (arith, length-front) in
      let is_k : (at + length new) + more ≡ k = omega arith in
      ap (λ i. drop i written) k_is ∙ drop-append-add (take at old ++ new) (drop (at + length new) old) more
      ∙ drop-drop (at + length new) more old ∙ ap (λ i. drop i old) is_k

  -- it begins at its place
  pub drop-written_at : drop at written ≡ new ++ drop (at + length new) old
  drop-written_at =
      let rest = new ++ drop (at + length new) old in
      let at_is : at ≡ length (take at old) = sym (length-take-le at old (omega arith)) in
      ap (drop at) (append_assoc (take at old) new (drop (at + length new) old))
      ∙ ap (λ i. drop i (take at old ++ rest)) at_is ∙ drop-append_seam (take at old) rest

-- two pieces side by side, one after another, are written as one
pub written-written : (old xs ys : List ℕ) (at : ℕ) → at + length xs + length ys ≤ length old
    → take (at + length xs) (take at old ++ xs ++ drop (at + length xs) old) ++ ys ++ drop
    (at + length xs + length ys) (take at old ++ xs ++ drop (at + length xs) old)
    ≡ take at old ++ (xs ++ ys) ++ drop (at + length (xs ++ ys)) old
written-written old xs ys at fits =
    let first_fits : at + length xs ≤ length old = omega arith in
    let rest = drop (at + length xs) old in
    let front : take (at + length xs) (take at old ++ xs ++ rest) ≡ take at old ++ xs =
    ap (λ n. take n (take at old ++ xs ++ rest)) (sym (length-front old xs at first_fits))
    ∙ take-append_seam (take at old ++ xs) rest in
    let after = drop-written_after old xs at first_fits (at + length xs + length ys) (omega arith) in
    let sum : at + length xs + length ys ≡ at + length (xs ++ ys) = omega (arith, length-append xs ys) in
    rw (front, after) (
    ap (λ t. t ++ drop (at + length xs + length ys) old) (append_assoc (take at old) xs ys)
    ∙ ap (λ n. take at old ++ (xs ++ ys) ++ drop n old) sum
    )
