-- The test for equal entries passes exactly where they are equal.
use Rattle.std.proofs.Common.{◌≡◌, ℕ, ◌&&◌, List, [], ◌∷◌, if◌then◌else◌, eqb, get_or, refl, sym, ap, ◌∙◌}
use Rattle.std.proofs.Common.{Option, Some, None, ℤ, pos, negsuc}
use Rattle.std.specs.Bool.{Decides}
use Rattle.std.proofs.lemmas.Bool.{and_parts, and_from, eqb-true, eq-eqb}
use Rattle.std.proofs.lemmas.Slice.Eq.{slice_eq-Decides, bytes_eq-Decides}
use Rattle.desk_types.specs.Numbers.{status_of_number, verb_of_number}
use Rattle.desk_types.specs.SameEntries.{optional_part, time_part, status_part, parts, same_command, same_entry}
use Rattle.desk_types.specs.SameEntries.{same_entries}
use Rattle.desk_types.specs.declared.command.Command.{Command}
use Rattle.desk_types.specs.declared.command.Command.TheVariants.{Open, AddCall, Link, Unlink, Merge, Split, Clear}
use Rattle.desk_types.specs.declared.command.Command.TheVariants.{Reopen, Note, SignOn, SignOff, Assign, SetStatus}
use Rattle.desk_types.specs.declared.command.Command.TheVariants.{Release, StandBy, StandDown, Replace}
use Rattle.desk_types.specs.declared.command.Entry.{Entry}
use Rattle.desk_types.specs.declared.show.Status.{Status}
use Rattle.desk_types.specs.declared.show.Status.TheVariants.{Available}
use Rattle.desk_types.specs.declared.verb.Verb.{Verb}
use Rattle.desk_types.specs.declared.verb.Verb.TheVariants as verbs
use Rattle.desk_types.proofs.Numbered.{status_again}

-- what is read back from the parts of a command

abbrev first_or_zero : List ℕ → ℕ
first_or_zero [] = 0
first_or_zero (x ∷ xs) = x

abbrev time_from : List ℕ → ℤ
time_from [] = pos 0
time_from (k ∷ ns) = if eqb k 0 then pos (first_or_zero ns) else negsuc (first_or_zero ns)

abbrev optional_from : List ℕ → Option (List ℕ)
optional_from [] = None
optional_from (x ∷ xs) = Some xs

abbrev status_from : Option Status → Status
status_from (Some status) = status
status_from None = Available

-- the command of a verb, a time and four fields
abbrev command_of_fields : Option Verb → ℤ → List ℕ → List ℕ → List ℕ → List ℕ → Command
command_of_fields (Some verbs.Open) at a b c d = Open at a b (optional_from c) (optional_from d)
command_of_fields (Some verbs.AddCall) at a b c d = AddCall at a b
command_of_fields (Some verbs.Link) at a b c d = Link at a b
command_of_fields (Some verbs.Unlink) at a b c d = Unlink at a b
command_of_fields (Some verbs.Merge) at a b c d = Merge at a b
command_of_fields (Some verbs.Split) at a b c d = Split at a b c d
command_of_fields (Some verbs.Clear) at a b c d = Clear at a
command_of_fields (Some verbs.Reopen) at a b c d = Reopen at a
command_of_fields (Some verbs.Note) at a b c d = Note at a b
command_of_fields (Some verbs.SignOn) at a b c d = SignOn at a
command_of_fields (Some verbs.SignOff) at a b c d = SignOff at a
command_of_fields (Some verbs.Assign) at a b c d = Assign at a b
command_of_fields (Some verbs.SetStatus) at a b c d = SetStatus at a (status_from (status_of_number (first_or_zero b)))
command_of_fields (Some verbs.Release) at a b c d = Release at a
command_of_fields (Some verbs.StandBy) at a b c d = StandBy at a b
command_of_fields (Some verbs.StandDown) at a b c d = StandDown at a
command_of_fields (Some verbs.Replace) at a b c d = Replace at (first_or_zero a) (first_or_zero b)
command_of_fields None at a b c d = Release at a

abbrev command_from : List (List ℕ) → Command
command_from ps = command_of_fields (verb_of_number (first_or_zero (get_or ps 0 []))) (time_from (get_or ps 1 []))
    (get_or ps 2 []) (get_or ps 3 []) (get_or ps 4 []) (get_or ps 5 [])

time_back : (t : ℤ) → time_from (time_part t) ≡ t
time_back (pos n) = refl
time_back (negsuc n) = refl

optional_back : (o : Option (List ℕ)) → optional_from (optional_part o) ≡ o
optional_back None = refl
optional_back (Some text) = refl

status_back : (s : Status) → status_from (status_of_number (first_or_zero (status_part s))) ≡ s
status_back s = ap status_from (status_again s)

from_parts : (c : Command) → command_from (parts c) ≡ c
unfolding verb_of_number
from_parts (Open at kind site incident call) = rw (time_back at, optional_back incident, optional_back call) refl
from_parts (AddCall at incident call) = rw (time_back at) refl
from_parts (Link at incident other) = rw (time_back at) refl
from_parts (Unlink at incident other) = rw (time_back at) refl
from_parts (Merge at incident into) = rw (time_back at) refl
from_parts (Split at incident call kind site) = rw (time_back at) refl
from_parts (Clear at incident) = rw (time_back at) refl
from_parts (Reopen at incident) = rw (time_back at) refl
from_parts (Note at incident text) = rw (time_back at) refl
from_parts (SignOn at unit) = rw (time_back at) refl
from_parts (SignOff at unit) = rw (time_back at) refl
from_parts (Assign at unit incident) = rw (time_back at) refl
from_parts (SetStatus at unit status) = rw (time_back at, status_back status) refl
from_parts (Release at unit) = rw (time_back at) refl
from_parts (StandBy at unit incident) = rw (time_back at) refl
from_parts (StandDown at unit) = rw (time_back at) refl
from_parts (Replace at node token) = rw (time_back at) refl

pub same_command-Decides : (a b : Command) → Decides (same_command a b) (a ≡ b)
unfolding same_command
same_command-Decides a b =
    let d : Decides (same_command a b) (parts a ≡ parts b) =
    slice_eq-Decides bytes_eq-Decides (parts a) (parts b) (same_command a b) refl in
    (λ t. sym (from_parts a) ∙ (ap command_from (d.0 t) ∙ from_parts b), λ e. d.1 (ap parts e))

entry_parts : (a b : Entry) → a.client ≡ b.client → a.number ≡ b.number → a.command ≡ b.command → a ≡ b
entry_parts a b c n d =
    ap (λ x. record { client = x; number = a.number; command = a.command }) c
    ∙ (ap (λ x. record { client = b.client; number = x; command = a.command }) n
    ∙ ap (λ x. record { client = b.client; number = b.number; command = x }) d)

pub same_entry-Decides : (a b : Entry) → Decides (same_entry a b) (a ≡ b)
same_entry-Decides a b = (
  λ t.
      let p = and_parts (eqb a.client b.client && eqb a.number b.number) (same_command a.command b.command) t in
      let q = and_parts (eqb a.client b.client) (eqb a.number b.number) p.0 in
      entry_parts a b (eqb-true a.client b.client q.0) (eqb-true a.number b.number q.1)
      ((same_command-Decides a.command b.command).0 p.1),
  λ e. and_from _ _ (and_from _ _ (eq-eqb a.client b.client (ap (λ (x : Entry). x.client) e))
      (eq-eqb a.number b.number (ap (λ (x : Entry). x.number) e)))
      ((same_command-Decides a.command b.command).1 (ap (λ (x : Entry). x.command) e)),
)

pub same_entries-Decides : (xs ys : List Entry) → Decides (same_entries xs ys) (xs ≡ ys)
same_entries-Decides xs ys = slice_eq-Decides same_entry-Decides xs ys (same_entries xs ys) refl
