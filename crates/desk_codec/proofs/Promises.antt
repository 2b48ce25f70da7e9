-- What is promised of bodies.
use Rattle.std.proofs.Common.{◌≡◌, List, ℕ, [], ◌++◌, ◌⊎◌, inl, inr, Option, Some, None, sym, ap, ◌∙◌}
use Rattle.std.proofs.lemmas.Option.{none-some}
use Rattle.desk_types.specs.declared.command.Command.{Command}
use Rattle.desk_types.specs.declared.refusal.Refusal.{Refusal}
use Rattle.desk_types.specs.declared.refusal.Refusal.TheVariants as refusals
use Rattle.desk_codec.specs.declared.fault.SpellingFault.{SpellingFault}
use Rattle.desk_codec.specs.declared.fault.SpellingFault.TheVariants.{NoSpelling, NoMemory}
use Rattle.desk_codec.specs.Faults.{refusal_of}
use Rattle.desk_codec.specs.Ranges.{FitsCommand}
use Rattle.desk_codec.specs.Spelling.{body_spelling, SpellsBody, AreOne}
use Rattle.desk_codec.specs.Reading.{Reader, Fails, whole, first_body, whole_body}
use Rattle.desk_codec.proofs.Forms.{IsBytes, Exact, whole_takes, whole_again, prefix_free}
use Rattle.desk_codec.proofs.Bodies.{exact_body}

-- bytes were refused for want of memory, or as no spelling
abbrev pub IsSpellingRefusal : Refusal → Type 0 → Type 0
IsSpellingRefusal refusal NoneSpelled =
    (refusal ≡ refusals.WantOfMemory) ⊎ ((refusal ≡ refusals.FrameFault) × NoneSpelled)

refused_as : {Y NoneSpelled : Type 0} (fault : SpellingFault) (refusal : Refusal) (read : Option Y) →
    refusal ≡ refusal_of fault → Fails fault read → (read ≡ None → NoneSpelled) → IsSpellingRefusal refusal NoneSpelled
refused_as NoMemory refusal read is h none = inl is
refused_as NoSpelling refusal read is h none = inr (is, none h)

none_whole : {A : Type 0} {pa : A → List ℕ} {Fa : A → Type 0} {ga : Reader A} → Exact pa Fa ga →
    (bytes : List ℕ) (x : A) →
    Fa x → bytes ≡ pa x → whole ga bytes ≡ None → ⊥
none_whole {pa = pa} {Fa = Fa} {ga = ga} ea bytes x fits e none =
    none-some x (sym none ∙ ap (whole ga) e ∙ whole_again pa Fa ga ea x fits)

pub body_found : (bytes : List ℕ) (c : Command) → IsBytes bytes → whole_body bytes ≡ Some c → SpellsBody c bytes
unfolding whole_body
body_found bytes c h e =
    let t = whole_takes body_spelling FitsCommand first_body exact_body bytes c h e in
    record { fits = t.1; spelling = t.0 }

pub body_refused : (bytes : List ℕ) (fault : SpellingFault) (refusal : Refusal) → refusal ≡ refusal_of fault →
    Fails fault (whole_body bytes) → IsSpellingRefusal refusal ((c : Command) → SpellsBody c bytes → ⊥)
unfolding whole_body
body_refused bytes fault refusal is h =
    refused_as fault refusal (whole_body bytes) is h (λ none c s. none_whole exact_body bytes c s.fits s.spelling none)

pub bodies_are_one : AreOne SpellsBody
bodies_are_one c d x y s t = (
  (λ e. s.spelling ∙ ap body_spelling e ∙ sym t.spelling),
  (λ e.
      let same : body_spelling c ≡ body_spelling d = sym s.spelling ∙ e ∙ t.spelling in
      (prefix_free body_spelling FitsCommand first_body exact_body c d [] [] s.fits t.fits (ap (λ z. z ++ []) same)).0),
)
