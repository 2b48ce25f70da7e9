-- The numbers that stand for statuses and for verbs.
use Rattle.std.specs.Prelude.{ℕ, List, [], ◌∷◌, ◌==◌, Option}
use Rattle.std.specs.List.{find}
use Rattle.desk_types.specs.declared.show.Status.{Status}
use Rattle.desk_types.specs.declared.show.Status.TheVariants as statuses
use Rattle.desk_types.specs.declared.verb.Verb.{Verb}
use Rattle.desk_types.specs.declared.verb.Verb.TheVariants as verbs

-- the number of a unit's status, which is its rank among the statuses
abbrev pub status_number : Status → ℕ
status_number statuses.Available = 0
status_number statuses.Dispatched = 1
status_number statuses.EnRoute = 2
status_number statuses.OnScene = 3
status_number statuses.Transporting = 4
status_number statuses.AtFacility = 5
status_number statuses.OutOfService = 6

abbrev pub all_statuses : List Status
all_statuses = statuses.Available ∷ statuses.Dispatched ∷ statuses.EnRoute ∷ statuses.OnScene
    ∷ statuses.Transporting ∷ statuses.AtFacility ∷ statuses.OutOfService ∷ []

-- the status of a number, where one has it
unfoldable pub status_of_number : ℕ → Option Status
status_of_number number = find (λ status. number == status_number status) all_statuses

-- the number of a command's verb
abbrev pub verb_number : Verb → ℕ
verb_number verbs.Open = 1
verb_number verbs.AddCall = 2
verb_number verbs.Link = 3
verb_number verbs.Unlink = 4
verb_number verbs.Merge = 5
verb_number verbs.Split = 6
verb_number verbs.Clear = 7
verb_number verbs.Reopen = 8
verb_number verbs.Note = 9
verb_number verbs.SignOn = 10
verb_number verbs.SignOff = 11
verb_number verbs.Assign = 12
verb_number verbs.SetStatus = 13
verb_number verbs.Release = 14
verb_number verbs.StandBy = 15
verb_number verbs.StandDown = 16
verb_number verbs.Replace = 17

abbrev pub all_verbs : List Verb
all_verbs = verbs.Open ∷ verbs.AddCall ∷ verbs.Link ∷ verbs.Unlink ∷ verbs.Merge ∷ verbs.Split ∷ verbs.Clear
    ∷ verbs.Reopen ∷ verbs.Note ∷ verbs.SignOn ∷ verbs.SignOff ∷ verbs.Assign ∷ verbs.SetStatus ∷ verbs.Release
    ∷ verbs.StandBy ∷ verbs.StandDown ∷ verbs.Replace ∷ []

-- the verb of a number, where one has it
unfoldable pub verb_of_number : ℕ → Option Verb
verb_of_number number = find (λ verb. number == verb_number verb) all_verbs
