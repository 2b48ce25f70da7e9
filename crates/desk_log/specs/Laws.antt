-- Laws of all logs.
use Rattle.std.specs.Prelude.{◌≡◌, ◌≢◌, ◌<◌, ◌≤◌, ◌↔◌, ℕ, ◌+◌, List, [], ◌∷◌, ◌++◌, length, take, ◌==◌, if◌then◌else◌}
use Rattle.std.specs.Prelude.{Some, None, All, AllPairs, Contains}
use Rattle.desk_types.specs.declared.command.Entry.{Entry}
use Rattle.desk_log.specs.declared.admission.Admission.TheVariants.{Append, Retry}
use Rattle.desk_log.specs.Admission.{admission}
use Rattle.desk_log.specs.Clients.{clients, client_row_at}
use Rattle.desk_log.specs.Entries.{entry_at, latest, IsRising, IsLogPrefix}

-- A log is a prefix of itself.
abbrev pub PrefixOfItself : Type 0
PrefixOfItself = (log : List Entry) → IsLogPrefix log log

-- A prefix of a prefix is a prefix.
abbrev pub PrefixOfPrefix : Type 0
PrefixOfPrefix = (first second log : List Entry) → IsLogPrefix first second → IsLogPrefix second log →
    IsLogPrefix first log

-- A log is a prefix of what it becomes when entries are put last.
abbrev pub PrefixOfLonger : Type 0
PrefixOfLonger = (log more : List Entry) → IsLogPrefix log (log ++ more)

-- The first k entries are a prefix.
abbrev pub FirstEntriesArePrefix : Type 0
FirstEntriesArePrefix = (k : ℕ) (log : List Entry) → IsLogPrefix (take k log) log

-- A prefix is as many first entries as it is long.
abbrev pub PrefixIsFirstEntries : Type 0
PrefixIsFirstEntries = (prefix log : List Entry) →
    IsLogPrefix prefix log ↔ ((length prefix ≤ length log) × (take (length prefix) log ≡ prefix))

-- Of two prefixes of one log, the one that is not longer is a prefix of the other.
abbrev pub PrefixesAreOrdered : Type 0
PrefixesAreOrdered = (first second log : List Entry) → IsLogPrefix first log → IsLogPrefix second log →
    length first ≤ length second → IsLogPrefix first second

-- An entry of the client stands at the place, and none at a later one.
pub record IsLatest (client : ℕ) (log : List Entry) (place : ℕ) : Type 0 where
  pub entry : Entry
  pub there : entry_at log place ≡ Some entry
  pub client_is : entry.client ≡ client
  pub last : (later : ℕ) (e : Entry) → entry_at log later ≡ Some e → e.client ≡ client → later ≤ place

-- No entry is the client's.
abbrev pub HasNone : ℕ → List Entry → Type 0
HasNone client log = (place : ℕ) (e : Entry) → entry_at log place ≡ Some e → e.client ≢ client

abbrev pub LatestIsLast : Type 0
LatestIsLast = (client : ℕ) (log : List Entry) (place : ℕ) → latest client log ≡ Some place → IsLatest client log place

abbrev pub LatestIsNone : Type 0
LatestIsNone = (client : ℕ) (log : List Entry) → latest client log ≡ None → HasNone client log

-- An entry that is put last is its client's latest, and no other client's.
abbrev pub LatestOfOneMore : Type 0
LatestOfOneMore = (client : ℕ) (log : List Entry) (e : Entry) →
    latest client (log ++ e ∷ []) ≡ (if e.client == client then Some (length log + 1) else latest client log)

-- the number is greater than that of the client's latest entry
abbrev pub IsNewNumber : List Entry → Entry → Type 0
IsNewNumber log e = (place : ℕ) (f : Entry) → latest e.client log ≡ Some place → entry_at log place ≡ Some f →
    f.number < e.number

-- A rising log stays so exactly where the number of the entry that is put last is new.
abbrev pub RisingWithOneMore : Type 0
RisingWithOneMore = (log : List Entry) (e : Entry) → IsRising (log ++ e ∷ []) ↔ (IsRising log × IsNewNumber log e)

-- A prefix of a rising log is rising.
abbrev pub PrefixOfRising : Type 0
PrefixOfRising = (prefix log : List Entry) → IsLogPrefix prefix log → IsRising log → IsRising prefix

-- In a rising log a client's later entry has the greater number.
abbrev pub LaterIsGreater : Type 0
LaterIsGreater = (log : List Entry) (place later : ℕ) (e f : Entry) → IsRising log → place < later →
    entry_at log place ≡ Some e → entry_at log later ≡ Some f → e.client ≡ f.client → e.number < f.number

-- In a rising log one client's number stands at one place.
abbrev pub NumbersStandOnce : Type 0
NumbersStandOnce = (log : List Entry) (j k : ℕ) (e f : Entry) → IsRising log → entry_at log j ≡ Some e →
    entry_at log k ≡ Some f → e.client ≡ f.client → e.number ≡ f.number → j ≡ k

-- A rising log stays so where it admits the entry that is put last.
abbrev pub AppendedIsRising : Type 0
AppendedIsRising = (log : List Entry) (e : Entry) → admission log e.client e.number ≡ Append → IsRising log →
    IsRising (log ++ e ∷ [])

-- At the place stands the client's latest entry, and it has the number.
pub record IsRetried (log : List Entry) (client number place : ℕ) : Type 0 where
  pub latest : IsLatest client log place
  pub number_is : latest.entry.number ≡ number

-- A request that is sent again stands at the place that is given.
abbrev pub RetriedStands : Type 0
RetriedStands = (log : List Entry) (client number place : ℕ) → admission log client number ≡ Retry place →
    IsRetried log client number place

-- No client of a log has two rows.
abbrev pub ClientsDiffer : Type 0
ClientsDiffer = (log : List Entry) → AllPairs (λ r s. r.client ≢ s.client) (clients log)

-- At the place of each row stands the client's latest entry, and it has the row's number.
abbrev pub ClientRowsAreLatest : Type 0
ClientRowsAreLatest = (log : List Entry) → All (λ r. IsRetried log r.client r.number r.place) (clients log)

-- Each client that has an entry has a row.
abbrev pub EachClientHasRow : Type 0
EachClientHasRow = (log : List Entry) (client place : ℕ) → latest client log ≡ Some place →
    Contains (clients log) (client_row_at log client place)
