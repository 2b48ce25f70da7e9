-- The version of a packet.
use Rattle.std.specs.Prelude.{◌==◌, ◌||◌, ◌+◌, ℕ, Bool, true, false, List, [], ◌∷◌, length, nat_lt, nat_le}
use Rattle.std.specs.Prelude.{if◌then◌else◌}
use Rattle.std.specs.List.{list_any}
use Rattle.desk_types.specs.declared.command.Command.{Command}
use Rattle.desk_types.specs.declared.command.Command.TheVariants.{StandBy, StandDown, Replace}
use Rattle.desk_types.specs.declared.command.Entry.{Entry}
use Rattle.desk_types.specs.declared.limits.TheConstants.{FIRST_LOG_ENTRIES, LOG_ENTRIES}
use Rattle.desk_types.specs.declared.packet.Message.{Message}
use Rattle.desk_types.specs.declared.packet.Message.TheVariants.{Prepare, PrepareOk, Commit, StartViewChange}
use Rattle.desk_types.specs.declared.packet.Message.TheVariants.{DoViewChange, StartView, GetState, NewState}

-- whether a command is of a verb that came with version 2
abbrev pub is_new_verb : Command → Bool
is_new_verb (StandBy at unit incident) = true
is_new_verb (StandDown at unit) = true
is_new_verb (Replace at node token) = true
is_new_verb _ = false

-- whether an entry has such a command
abbrev pub is_new_entry : Entry → Bool
is_new_entry e = is_new_verb e.command

-- the entries that a message carries
abbrev pub entries_of : Message → List Entry
entries_of (Prepare from view place commit entry) = entry ∷ []
entries_of (DoViewChange from view normal commit log) = log
entries_of (StartView from view commit log) = log
entries_of (NewState from view base commit entries) = entries
entries_of _ = []

-- whether a place is past the logs of version 1
abbrev pub is_new_place : ℕ → Bool
is_new_place place = nat_lt FIRST_LOG_ENTRIES place

-- the most that a packet of this version tells of a place, a commit, a base or a count
abbrev pub most_in : ℕ → ℕ
most_in version = if version == 2 then LOG_ENTRIES else FIRST_LOG_ENTRIES

-- whether a place, a commit, a base or a count is within the range of a packet of this version
abbrev pub is_place_in : ℕ → ℕ → Bool
is_place_in version n = nat_le n (most_in version)

-- the places that a message tells: its place, commit, base and count, and its base and count together
abbrev pub places_of : Message → List ℕ
places_of (Prepare from view place commit entry) = place ∷ commit ∷ []
places_of (PrepareOk from view place) = place ∷ []
places_of (Commit from view commit) = commit ∷ []
places_of (StartViewChange from view) = []
places_of (DoViewChange from view normal commit log) = commit ∷ length log ∷ []
places_of (StartView from view commit log) = commit ∷ length log ∷ []
places_of (GetState from view base) = base ∷ []
places_of (NewState from view base commit entries) = base ∷ commit ∷ length entries ∷ (base + length entries) ∷ []

-- whether a message tells such a place, or carries a command of a new verb
abbrev pub needs_two : Message → Bool
needs_two m = list_any is_new_place (places_of m) || list_any is_new_entry (entries_of m)

-- the version of a packet, by whether it needs version 2
abbrev pub version_by : Bool → ℕ
version_by needed = if needed then 2 else 1

-- the version of a message's spelling
abbrev pub version_of : Message → ℕ
version_of m = version_by (needs_two m)

-- whether a packet can have this version
abbrev pub is_version : ℕ → Bool
is_version version = (version == 1) || (version == 2)
