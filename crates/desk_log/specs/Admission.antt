-- What a log makes of a client's request.
use Rattle.std.specs.Prelude.{ℕ, ◌==◌, nat_lt, nat_le, if◌then◌else◌, List, length, Option, Some, None}
use Rattle.desk_types.specs.declared.command.Entry.{Entry}
use Rattle.desk_types.specs.declared.limits.TheConstants.{LOG_ENTRIES}
use Rattle.desk_log.specs.declared.admission.Admission.{Admission}
use Rattle.desk_log.specs.declared.admission.Admission.TheVariants.{Append, Retry, Stale, Full}
use Rattle.desk_log.specs.Entries.{latest, number_at}

-- A new request is put last, unless the log is full.
abbrev pub admission_of_new : List Entry → Admission
admission_of_new log = if nat_le LOG_ENTRIES (length log) then Full else Append

-- Beside the client's latest entry a smaller number is stale, and the same number is a retry, whatever the log has room
-- for. A greater number is new, and so is each number of a client that has no entry.
abbrev pub admission_after : List Entry → ℕ → Option ℕ → Admission
admission_after log number None = admission_of_new log
admission_after log number (Some place) =
    if nat_lt number (number_at log place) then Stale (number_at log place)
    else if number == number_at log place then Retry place
    else admission_of_new log

-- what the log makes of a request of a client with a number
abbrev pub admission : List Entry → ℕ → ℕ → Admission
admission log client number = admission_after log number (latest client log)
