-- When the equality that a derive gives to an enum tells equal values from others.
use Rattle.std.proofs.Common.{◌≡◌, inl, inr, ◌&&◌, Bool, false, List, [], ◌∷◌, Option, Some, None, refl, sym}
use Rattle.std.proofs.Common.{ap, ◌∙◌}
use Rattle.std.proofs.lemmas.Bool.{false≢true, and_parts}
use Rattle.std.specs.Bool.{Decides}
use Rattle.std.specs.Option.{option_eq}
use denote.Struct.Field.{Field}
use denote.Struct.Values.{Values}
use denote.Enum.Compared.{Each, by}
use denote.Enum.Declared.{Choice, Record, left_or, right_or, values_one}

-- For each variant, the equality of its fields tells equal ones from others.
abbrev pub DecidesEach : (Fss : List (List Field)) → Each Bool Fss → Type 0
DecidesEach [] each = Unit {0}
DecidesEach (Fs ∷ Fss) each = ((x y : Values Fs) → Decides (each.0 x y) (x ≡ y)) × DecidesEach Fss each.1

variants_decide : (Fss : List (List Field)) (each : Each Bool Fss) → DecidesEach Fss each → (c d : Choice Fss) →
    Decides (by false false Fss each c d) (c ≡ d)
variants_decide [] each all c d = absurd c
variants_decide (Fs ∷ Fss) each all (inl x) (inl y) =
    let it = all.0 x y in (λ h. ap inl (it.0 h), λ e. it.1 (ap (left_or x) e))
variants_decide (Fs ∷ Fss) each all (inr c) (inr d) =
    let it = variants_decide Fss each.1 all.1 c d in (λ h. ap inr (it.0 h), λ e. it.1 (ap (right_or c) e))
variants_decide (Fs ∷ Fss) each all (inl x) (inr d) = (λ h. absurd (false≢true h), λ e. cc)
variants_decide (Fs ∷ Fss) each all (inr c) (inl y) = (λ h. absurd (false≢true h), λ e. cc)

-- the answer of a derived equality
pub enum_decides : (N : Record) (each : Each Bool N.parts) (a b : N.D) (r : Bool) →
    r ≡ by false false N.parts each (N.as_values a) (N.as_values b) → DecidesEach N.parts each → Decides r (a ≡ b)
enum_decides N each a b r is all =
    let it = variants_decide N.parts each all (N.as_values a) (N.as_values b) in
    (λ h. values_one N a b (it.0 (sym is ∙ h)), λ e. is ∙ it.1 (ap N.as_values e))

module _ {A : Type 0} (E : A → A → Bool) (decides : (a b : A) → Decides (E a b) (a ≡ b)) where
  -- the last field of a variant
  pub last_decides : (x y : A × Unit {0}) → Decides (E x.0 y.0) (x ≡ y)
  last_decides x y =
      let it = decides x.0 y.0 in
      (λ h. ap (λ a. (a, tt)) (it.0 h), λ e. it.1 (ap (λ (v : A × Unit {0}). v.0) e))

  -- a field, and those after it
  pub field_decides : {B : Type 0} (F : B → B → Bool) → ((a b : B) → Decides (F a b) (a ≡ b)) → (x y : A × B) →
      Decides (E x.0 y.0 && F x.1 y.1) (x ≡ y)
  field_decides {B = B} F others x y =
      let it = decides x.0 y.0 in
      let more = others x.1 y.1 in (
        λ h.
            let both = and_parts (E x.0 y.0) (F x.1 y.1) h in
            let first = it.0 both.0 in
            let rest = more.0 both.1 in
            λ i. (first i, rest i),
        λ e.
            let first = it.1 (ap (λ (v : A × B). v.0) e) in
            let rest = more.1 (ap (λ (v : A × B). v.1) e) in
            λ i. first i && rest i,
      )

  pub option_decides : (a b : Option A) → Decides (option_eq E a b) (a ≡ b)
  option_decides None None = (λ h. refl, λ e. refl)
  option_decides None (Some y) = (λ h. absurd (false≢true h), λ e. cc)
  option_decides (Some x) None = (λ h. absurd (false≢true h), λ e. cc)
  option_decides (Some x) (Some y) =
      let it = decides x y in (λ h. ap Some (it.0 h), λ e. it.1 (cc))
