-- A row is its columns.
use Rattle.std.proofs.Common.{◌≡◌, ◌∙◌, ℕ, pos, ap, Option, Some, MatchOption, [], ◌∷◌, length, refl, arith}
use Rattle.sqlite_value.specs.Order.{Row, column}
use Rattle.sqlite_value.specs.declared.value.Value.{Value}
use Rattle.sqlite_value.specs.declared.value.Value.TheVariants.{Int}

pub of_eight : (row : Row) → length row ≡ 8 → row ≡ column row 0 ∷ column row 1 ∷ column row 2 ∷ column row 3
    ∷ column row 4 ∷ column row 5 ∷ column row 6 ∷ column row 7 ∷ []
of_eight (a ∷ b ∷ c ∷ d ∷ e ∷ f ∷ g ∷ h ∷ []) width = refl
of_eight _ width = absurd (omega arith)

-- a row of eight columns that are known
pub eight_are : (row : Row) → length row ≡ 8 → {a b c d e f g h : Value} → column row 0 ≡ a → column row 1 ≡ b
    → column row 2 ≡ c → column row 3 ≡ d → column row 4 ≡ e → column row 5 ≡ f → column row 6 ≡ g
    → column row 7 ≡ h → row ≡ a ∷ b ∷ c ∷ d ∷ e ∷ f ∷ g ∷ h ∷ []
eight_are row width p q r s t u v w = of_eight row width ∙ rw (p, q, r, s, t, u, v, w) refl

-- a number that was read is that of its column
pub number_is : (found : Option ℕ) (x y : ℕ) (it : Value) (P : Type 0) → found ≡ Some x
    → MatchOption found P (λ k. it ≡ Int (pos k)) → x ≡ y → it ≡ Int (pos y)
number_is found x y it P is read same = rw is at read ∙ ap (λ k. Int (pos k)) same
