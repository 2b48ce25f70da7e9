-- A list of eight elements, by its elements.
use Rattle.std.proofs.Common.{◌≡◌, List, [], ◌∷◌, length, get_or, arith}

pub eight : {X : Type 0} (xs : List X) (a b c d e f g h : X) → length xs ≡ 8
    → a ≡ get_or xs 0 a → b ≡ get_or xs 1 b → c ≡ get_or xs 2 c → d ≡ get_or xs 3 d
    → e ≡ get_or xs 4 e → f ≡ get_or xs 5 f → g ≡ get_or xs 6 g → h ≡ get_or xs 7 h
    → xs ≡ a ∷ b ∷ c ∷ d ∷ e ∷ f ∷ g ∷ h ∷ []
eight [] a b c d e f g h long p0 p1 p2 p3 p4 p5 p6 p7 = absurd (omega (arith, long))
eight (x0 ∷ []) a b c d e f g h long p0 p1 p2 p3 p4 p5 p6 p7 = absurd (omega (arith, long))
eight (x0 ∷ x1 ∷ []) a b c d e f g h long p0 p1 p2 p3 p4 p5 p6 p7 = absurd (omega (arith, long))
eight (x0 ∷ x1 ∷ x2 ∷ []) a b c d e f g h long p0 p1 p2 p3 p4 p5 p6 p7 = absurd (omega (arith, long))
eight (x0 ∷ x1 ∷ x2 ∷ x3 ∷ []) a b c d e f g h long p0 p1 p2 p3 p4 p5 p6 p7 = absurd (omega (arith, long))
eight (x0 ∷ x1 ∷ x2 ∷ x3 ∷ x4 ∷ []) a b c d e f g h long p0 p1 p2 p3 p4 p5 p6 p7 = absurd (omega (arith, long))
eight (x0 ∷ x1 ∷ x2 ∷ x3 ∷ x4 ∷ x5 ∷ []) a b c d e f g h long p0 p1 p2 p3 p4 p5 p6 p7 = absurd (omega (arith, long))
eight (x0 ∷ x1 ∷ x2 ∷ x3 ∷ x4 ∷ x5 ∷ x6 ∷ []) a b c d e f g h long
    p0 p1 p2 p3 p4 p5 p6 p7 = absurd (omega (arith, long))
eight (x0 ∷ x1 ∷ x2 ∷ x3 ∷ x4 ∷ x5 ∷ x6 ∷ x7 ∷ []) a b c d e f g h long p0 p1 p2 p3 p4 p5 p6 p7 = cc
eight (x0 ∷ x1 ∷ x2 ∷ x3 ∷ x4 ∷ x5 ∷ x6 ∷ x7 ∷ x8 ∷ xs) a b c d e f g h long
    p0 p1 p2 p3 p4 p5 p6 p7 = absurd (omega (arith, long))
