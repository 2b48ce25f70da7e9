-- A packet to each other node below a number, and below the next number.
use Rattle.std.proofs.Common.{◌≡◌, ◌≢◌, ◌+◌, ◌≤◌, ℕ, List, [], ◌∷◌, ◌++◌, length, map, take, add-one, append_assoc}
use Rattle.std.proofs.Common.{Result, Ok, Err, OnErr, refl, arith}
use Rattle.std.proofs.lemmas.Bool.{eq-eqb, ne_eqb}
use Rattle.std.proofs.lemmas.List.{map_push, take_at}
use Rattle.desk_types.specs.Lists.{others_below}

-- The node itself gets no packet.
pub copies_but_own : {P : Type 0} (packet : P) (i j : ℕ) (before packets : List (ℕ × P)) → j ≡ i
    → packets ≡ before ++ map (λ k. (k, packet)) (others_below i j)
    → packets ≡ before ++ map (λ k. (k, packet)) (others_below i (j + 1))
copies_but_own packet i j before packets own are = rw (add-one, eq-eqb j i own) are

-- Another node gets one.
pub copies_one_more : {P : Type 0} (packet : P) (i j : ℕ) (before packets more : List (ℕ × P)) → j ≢ i
    → packets ≡ before ++ map (λ k. (k, packet)) (others_below i j) → more ≡ packets ++ (j, packet) ∷ []
    → more ≡ before ++ map (λ k. (k, packet)) (others_below i (j + 1))
copies_one_more packet i j before packets more other are pushed =
    rw (add-one, ne_eqb j i other, map_push, ← append_assoc) (rw are at pushed)

-- Below the last number stand all of them.
pub copies_all : {P : Type 0} (packet : P) (i j n : ℕ) (before packets : List (ℕ × P)) → n ≤ j → j ≤ n
    → packets ≡ before ++ map (λ k. (k, packet)) (others_below i j)
    → packets ≡ before ++ map (λ k. (k, packet)) (others_below i n)
copies_all packet i j n before packets le ge are =
    let all : j ≡ n = omega arith in rw all at are

-- Where memory is refused, what stood before still stands there.
pub before_copies : {A E P : Type 0} (result : Result A E) (before some packets new : List P)
    → packets ≡ before ++ some → new ≡ packets → OnErr result (take (length before) new ≡ before)
before_copies (Ok x) before some packets new are same = tt
before_copies (Err e) before some packets new are same = rw (same, are) (take_at before some _ refl)
