-- Statuses and verbs, and their numbers.
use Rattle.std.proofs.Common.{◌≡◌, ℕ, Bool, true, false, cond, eqb, List, [], ◌∷◌, Option, Some, refl, subst}
use Rattle.std.specs.List.{find}
use Rattle.std.proofs.lemmas.Bool.{eqb-true}
use Rattle.std.proofs.lemmas.Option.{same_Some}
use Rattle.desk_types.specs.Numbers.{status_number, all_statuses, status_of_number, verb_number, all_verbs}
use Rattle.desk_types.specs.Numbers.{verb_of_number}
use Rattle.desk_types.specs.declared.show.Status.{Status}
use Rattle.desk_types.specs.declared.show.Status.TheVariants as statuses
use Rattle.desk_types.specs.declared.verb.Verb.{Verb}
use Rattle.desk_types.specs.declared.verb.Verb.TheVariants as verbs

found_first : {A : Type 0} (p : A → Bool) (x : A) (others : Option A) (y : A) (b : Bool) → p x ≡ b →
    cond b (Some x) others ≡ Some y → (others ≡ Some y → p y ≡ true) → p y ≡ true
found_first p x others y true t e h = subst (λ z. p z ≡ true) (same_Some x y e) t
found_first p x others y false t e h = h e

-- what is found passes the test
pub found_passes : {A : Type 0} (p : A → Bool) (xs : List A) (y : A) → find p xs ≡ Some y → p y ≡ true
found_passes p [] y e = absurd cc
found_passes p (x ∷ xs) y e = found_first p x (find p xs) y (p x) refl e (found_passes p xs y)

pub status_has : (number : ℕ) (status : Status) → status_of_number number ≡ Some status →
    number ≡ status_number status
unfolding status_of_number
status_has number status e =
    eqb-true number (status_number status) (found_passes (λ s. eqb number (status_number s)) all_statuses status e)

pub status_again : (status : Status) → status_of_number (status_number status) ≡ Some status
unfolding status_of_number
status_again statuses.Available = refl
status_again statuses.Dispatched = refl
status_again statuses.EnRoute = refl
status_again statuses.OnScene = refl
status_again statuses.Transporting = refl
status_again statuses.AtFacility = refl
status_again statuses.OutOfService = refl

pub verb_has : (number : ℕ) (verb : Verb) → verb_of_number number ≡ Some verb → number ≡ verb_number verb
unfolding verb_of_number
verb_has number verb e =
    eqb-true number (verb_number verb) (found_passes (λ v. eqb number (verb_number v)) all_verbs verb e)

pub verb_again : (verb : Verb) → verb_of_number (verb_number verb) ≡ Some verb
unfolding verb_of_number
verb_again verbs.Open = refl
verb_again verbs.AddCall = refl
verb_again verbs.Link = refl
verb_again verbs.Unlink = refl
verb_again verbs.Merge = refl
verb_again verbs.Split = refl
verb_again verbs.Clear = refl
verb_again verbs.Reopen = refl
verb_again verbs.Note = refl
verb_again verbs.SignOn = refl
verb_again verbs.SignOff = refl
verb_again verbs.Assign = refl
verb_again verbs.SetStatus = refl
verb_again verbs.Release = refl
verb_again verbs.StandBy = refl
verb_again verbs.StandDown = refl
verb_again verbs.Replace = refl
