-- When two entries are the same, as a test.
use Rattle.std.specs.Prelude.{ℕ, ℤ, pos, negsuc, Bool, ◌&&◌, ◌==◌, List, [], ◌∷◌, Option, Some, None}
use Rattle.std.specs.Str.{bytes_eq}
use Rattle.std.specs.Cmp.Lexicographic.{pointwise}
use Rattle.desk_types.specs.Numbers.{status_number, verb_number}
use Rattle.desk_types.specs.declared.command.Command.{Command}
use Rattle.desk_types.specs.declared.command.Command.TheVariants.{Open, AddCall, Link, Unlink, Merge, Split, Clear}
use Rattle.desk_types.specs.declared.command.Command.TheVariants.{Reopen, Note, SignOn, SignOff, Assign, SetStatus}
use Rattle.desk_types.specs.declared.command.Command.TheVariants.{Release, StandBy, StandDown, Replace}
use Rattle.desk_types.specs.declared.command.Entry.{Entry}
use Rattle.desk_types.specs.declared.show.Status.{Status}
use Rattle.desk_types.specs.declared.verb.Verb.{Verb}
use Rattle.desk_types.specs.declared.verb.Verb.TheVariants as verbs

-- a text that may be absent
abbrev pub optional_part : Option (List ℕ) → List ℕ
optional_part None = []
optional_part (Some text) = 1 ∷ text

-- a time
abbrev pub time_part : ℤ → List ℕ
time_part (pos seconds) = 0 ∷ seconds ∷ []
time_part (negsuc seconds) = 1 ∷ seconds ∷ []

-- a status
abbrev pub status_part : Status → List ℕ
status_part status = status_number status ∷ []

-- the number of a node, or a token
abbrev pub number_part : ℕ → List ℕ
number_part number = number ∷ []

-- a verb
abbrev pub verb_part : Verb → List ℕ
verb_part verb = verb_number verb ∷ []

-- The parts of a command: its verb, its time, and its other fields. Commands with equal parts are equal.
abbrev pub parts : Command → List (List ℕ)
parts (Open at kind site incident call) =
    verb_part verbs.Open ∷ time_part at ∷ kind ∷ site ∷ optional_part incident ∷ optional_part call ∷ []
parts (AddCall at incident call) = verb_part verbs.AddCall ∷ time_part at ∷ incident ∷ call ∷ []
parts (Link at incident other) = verb_part verbs.Link ∷ time_part at ∷ incident ∷ other ∷ []
parts (Unlink at incident other) = verb_part verbs.Unlink ∷ time_part at ∷ incident ∷ other ∷ []
parts (Merge at incident into) = verb_part verbs.Merge ∷ time_part at ∷ incident ∷ into ∷ []
parts (Split at incident call kind site) = verb_part verbs.Split ∷ time_part at ∷ incident ∷ call ∷ kind ∷ site ∷ []
parts (Clear at incident) = verb_part verbs.Clear ∷ time_part at ∷ incident ∷ []
parts (Reopen at incident) = verb_part verbs.Reopen ∷ time_part at ∷ incident ∷ []
parts (Note at incident text) = verb_part verbs.Note ∷ time_part at ∷ incident ∷ text ∷ []
parts (SignOn at unit) = verb_part verbs.SignOn ∷ time_part at ∷ unit ∷ []
parts (SignOff at unit) = verb_part verbs.SignOff ∷ time_part at ∷ unit ∷ []
parts (Assign at unit incident) = verb_part verbs.Assign ∷ time_part at ∷ unit ∷ incident ∷ []
parts (SetStatus at unit status) = verb_part verbs.SetStatus ∷ time_part at ∷ unit ∷ status_part status ∷ []
parts (Release at unit) = verb_part verbs.Release ∷ time_part at ∷ unit ∷ []
parts (StandBy at unit incident) = verb_part verbs.StandBy ∷ time_part at ∷ unit ∷ incident ∷ []
parts (StandDown at unit) = verb_part verbs.StandDown ∷ time_part at ∷ unit ∷ []
parts (Replace at node token) = verb_part verbs.Replace ∷ time_part at ∷ number_part node ∷ number_part token ∷ []

-- whether two commands have equal parts
unfoldable pub same_command : Command → Command → Bool
same_command a b = pointwise bytes_eq (parts a) (parts b)

-- whether two entries are equal
abbrev pub same_entry : Entry → Entry → Bool
same_entry a b = (a.client == b.client) && (a.number == b.number) && same_command a.command b.command

-- whether two lists of entries are equal
abbrev pub same_entries : List Entry → List Entry → Bool
same_entries xs ys = pointwise same_entry xs ys
