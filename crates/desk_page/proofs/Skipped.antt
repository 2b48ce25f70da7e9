-- A place's mark does not stand within quiet text: it has a colon after `k` and a quote.
use Rattle.std.proofs.Common.{◌≡◌, ◌∙◌, ℕ, List, [], ◌∷◌, ◌++◌, Bool, true, false, not, eqb, refl}
use Rattle.std.specs.Prelude.{◌==◌, ◌&&◌}
use Rattle.std.proofs.lemmas.Bool.{eqb-true}
use Rattle.desk_types.proofs.Bytes.{and_parts}
use Rattle.desk_page.specs.Reported.{after_mark}
use Rattle.desk_page.proofs.Marks.{begins, later}
use Rattle.desk_page.proofs.Quiet.{quiet, step}

-- a mark that begins as that of a place does
abbrev pub mark_of : List ℕ → List ℕ
mark_of m = 34 ∷ 111 ∷ 107 ∷ 34 ∷ 58 ∷ m

false_unless : (b : Bool) → (b ≡ true → ⊥) → b ≡ false
false_unless true f = absurd (f refl)
false_unless false f = refl

-- where the mark's first five bytes stand, the text is not quiet
not_quiet : (s b c d e f : ℕ) (u : List ℕ) → b ≡ 34 → c ≡ 111 → d ≡ 107 → e ≡ 34 → f ≡ 58 →
    quiet s (b ∷ c ∷ d ∷ e ∷ f ∷ u) ≡ false
not_quiet s b c d e f u p q r v w = rw (p, q, r, v, w) refl

not_begun : (s b c d e f : ℕ) (u : List ℕ) (x : Bool) → quiet s (b ∷ c ∷ d ∷ e ∷ f ∷ u) ≡ true →
    (eqb b 34 && (eqb c 111 && (eqb d 107 && (eqb e 34 && (eqb f 58 && x))))) ≡ true → ⊥
not_begun s b c d e f u x h is =
    let first = and_parts (eqb b 34) _ is in
    let second = and_parts (eqb c 111) _ first.1 in
    let third = and_parts (eqb d 107) _ second.1 in
    let fourth = and_parts (eqb e 34) _ third.1 in
    let fifth = and_parts (eqb f 58) x fourth.1 in
    absurd (let noisy = not_quiet s b c d e f u (eqb-true b 34 first.0) (eqb-true c 111 second.0)
    (eqb-true d 107 third.0) (eqb-true e 34 fourth.0) (eqb-true f 58 fifth.0) in cc)

-- no text that is quiet up to its fifth byte begins with the mark
long : (m : List ℕ) (s b c d e f : ℕ) (u t : List ℕ) → quiet s (b ∷ c ∷ d ∷ e ∷ f ∷ u) ≡ true →
    begins (mark_of m) (b ∷ c ∷ d ∷ e ∷ f ∷ t) ≡ false
long m s b c d e f u t h = false_unless _ (λ is. not_begun s b c d e f u _ h is)

none : (a : Bool) → (a && false) ≡ false
none true = refl
none false = refl

none_of_two : (a b : Bool) → (a && (b && false)) ≡ false
none_of_two true b = none b
none_of_two false b = refl

none_of_three : (a b c : Bool) → (a && (b && (c && false))) ≡ false
none_of_three true b c = none_of_two b c
none_of_three false b c = refl

rest_quiet : (s b : ℕ) (bytes : List ℕ) → quiet s (b ∷ bytes) ≡ true → quiet (step s b) bytes ≡ true
rest_quiet s b bytes h = (and_parts (not ((b == 58) && (s == 2))) (quiet (step s b) bytes) h).1

-- the mark does not begin before the comma after a quiet text
pub skipped : (m : List ℕ) (s : ℕ) (xs rest : List ℕ) → quiet s (xs ++ 44 ∷ []) ≡ true →
    after_mark (mark_of m) (xs ++ 44 ∷ rest) ≡ after_mark (mark_of m) rest
skipped m s [] rest h = refl
skipped m s (b ∷ []) rest h =
    later (mark_of m) (44 ∷ rest) b (none (eqb b 34)) ∙ skipped m (step s b) [] rest (rest_quiet s b (44 ∷ []) h)
skipped m s (b ∷ c ∷ []) rest h =
    later (mark_of m) (c ∷ 44 ∷ rest) b (none_of_two (eqb b 34) (eqb c 111))
    ∙ skipped m (step s b) (c ∷ []) rest (rest_quiet s b (c ∷ 44 ∷ []) h)
skipped m s (b ∷ c ∷ d ∷ []) rest h =
    later (mark_of m) (c ∷ d ∷ 44 ∷ rest) b (none_of_three (eqb b 34) (eqb c 111) (eqb d 107))
    ∙ skipped m (step s b) (c ∷ d ∷ []) rest (rest_quiet s b (c ∷ d ∷ 44 ∷ []) h)
skipped m s (b ∷ c ∷ d ∷ e ∷ []) rest h =
    later (mark_of m) (c ∷ d ∷ e ∷ 44 ∷ rest) b (long m s b c d e 44 [] rest h)
    ∙ skipped m (step s b) (c ∷ d ∷ e ∷ []) rest (rest_quiet s b (c ∷ d ∷ e ∷ 44 ∷ []) h)
skipped m s (b ∷ c ∷ d ∷ e ∷ f ∷ xs) rest h =
    later (mark_of m) (c ∷ d ∷ e ∷ f ∷ (xs ++ 44 ∷ rest)) b (long m s b c d e f (xs ++ 44 ∷ []) (xs ++ 44 ∷ rest) h)
    ∙ skipped m (step s b) (c ∷ d ∷ e ∷ f ∷ xs) rest (rest_quiet s b (c ∷ d ∷ e ∷ f ∷ (xs ++ 44 ∷ [])) h)
