-- That an epoch deals with requests as one log of all epochs would.
use Rattle.std.specs.Prelude.{◌≡◌, ℕ, ◌+◌, Bool, ◌==◌, nat_lt, if◌then◌else◌, List, ◌++◌, length, Option, Some, None}
use Rattle.desk_types.specs.declared.command.Entry.{Entry}
use Rattle.desk_log.specs.declared.admission.Admission.{Admission}
use Rattle.desk_log.specs.declared.admission.Admission.TheVariants.{Append, Retry, Stale, Full}
use Rattle.desk_log.specs.Admission.{admission, admission_of_new}
use Rattle.desk_log.specs.Entries.{latest, number_at}

-- a new request is put last where there is room
abbrev pub new_where : Bool → Admission
new_where room = if room then Append else Full

-- What a log makes of a request beside the client's latest entry there, where a new one is put last or not.
abbrev pub admission_by : Bool → List Entry → ℕ → Option ℕ → Admission
admission_by room log number None = new_where room
admission_by room log number (Some place) =
    if nat_lt number (number_at log place) then Stale (number_at log place)
    else if number == number_at log place then Retry place
    else new_where room

-- the same, of a log that stands after so many entries
abbrev pub placed_after : ℕ → Admission → Admission
placed_after count Append = Append
placed_after count (Retry place) = Retry (count + place)
placed_after count (Stale number) = Stale number
placed_after count Full = Full

-- What an epoch makes of a request: the client's latest entry in the epoch's log decides, and where there is none, that
-- in the logs of past epochs.
abbrev pub epoch_admission : Bool → List Entry → List Entry → ℕ → Option ℕ → Option ℕ → Admission
epoch_admission room past log number (Some place) earlier =
    placed_after (length past) (admission_by room log number (Some place))
epoch_admission room past log number None earlier = admission_by room past number earlier

-- It is what the one log of all epochs makes of it, but that the epoch's own log alone may be full.
abbrev pub EpochsAreOneLog : Type 0
EpochsAreOneLog = (room : Bool) (past log : List Entry) (client number : ℕ) →
    epoch_admission room past log number (latest client log) (latest client past)
    ≡ admission_by room (past ++ log) number (latest client (past ++ log))
