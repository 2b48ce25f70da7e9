-- Laws of nodes over epochs.
use Rattle.std.specs.Prelude.{◌≡◌, ◌<◌, ◌≤◌, ℕ, zero, suc, true, false, nat_le, List, [], ◌∷◌, ◌++◌, length, take}
use Rattle.std.specs.Prelude.{drop}
use Rattle.desk_types.specs.declared.command.Entry.{Entry}
use Rattle.desk_types.specs.declared.limits.TheConstants.{LAST_VIEW, LOG_ENTRIES}
use Rattle.desk_types.specs.declared.packet.Message.{Message}
use Rattle.desk_types.specs.declared.refusal.Refusal.TheVariants as refusals
use Rattle.desk_log.specs.declared.admission.Admission.TheVariants as admissions
use Rattle.desk_log.specs.Admission.{admission}
use Rattle.desk_log.specs.Change.{leads}
use Rattle.desk_log.specs.Entries.{IsLogPrefix}
use Rattle.desk_log.specs.SavedValue.{IsSaved, committed_entries, in_view, initial_saved}
use Rattle.desk_node.specs.declared.event.Event.TheVariants as events
use Rattle.desk_node.specs.State.{State}
use Rattle.desk_node.specs.Rules.{node_step}
use Rattle.desk_world.specs.World.{first_state}
use Rattle.desk_epochs.specs.OneLog.{placed_after}
use Rattle.desk_epoch_node.specs.declared.deed.Deed.{Deed}
use Rattle.desk_epoch_node.specs.declared.deed.Deed.TheVariants.{Ignore, Own, Answer, Refuse, Keep, Ask, AskAll, Tell}
use Rattle.desk_epoch_node.specs.declared.deed.Deed.TheVariants.{Take, Stop}
use Rattle.desk_epoch_node.specs.declared.event.EpochEvent.{EpochEvent}
use Rattle.desk_epoch_node.specs.declared.step.EpochStep.{EpochStep}
use Rattle.desk_epoch_node.specs.Deeds.{deed, request_deed}
use Rattle.desk_epoch_node.specs.Does.{BeginsAfter, DoesDeed, is_rest, whole_log}
use Rattle.desk_epoch_node.specs.Ends.{cut_of, is_whole, reaches_end}
use Rattle.desk_epoch_node.specs.EpochValue.{EpochValue, acts, committed_cut, has_next}
use Rattle.desk_epoch_node.specs.PastRows.{StandFor, one_log_admission}
use Rattle.desk_epoch_node.specs.Replacements.{ends_epoch, replacements}

-- Where none of the first entries, so many, names a replacement, an epoch ends after them.
abbrev pub EndsByCount : Type 0
EndsByCount = (most : ℕ) (log : List Entry) → replacements (take most log) ≡ [] →
    (reaches_end most log ≡ nat_le most (length log)) × (cut_of most log ≡ take most log)

-- The first entry that names one ends the epoch, where that has not ended before.
abbrev pub EndsByReplacement : Type 0
EndsByReplacement = (most : ℕ) (before rest : List Entry) (e : Entry) → replacements before ≡ [] →
    length before < most → ends_epoch e ≡ true →
    (reaches_end most (before ++ e ∷ rest) ≡ true) × (cut_of most (before ++ e ∷ rest) ≡ before ++ e ∷ [])

-- It asks, takes what it is told, refuses requests, or stops: no node of its epoch hears of it.
abbrev pub IsQuiet : Deed → Type 0
IsQuiet Ignore = Unit {0}
IsQuiet (Own event) = ⊥
IsQuiet (Answer client number place) = ⊥
IsQuiet (Refuse client number refusal) = Unit {0}
IsQuiet (Keep entry) = ⊥
IsQuiet (Ask to) = Unit {0}
IsQuiet AskAll = Unit {0}
IsQuiet (Tell to epoch base) = ⊥
IsQuiet (Take base entries) = Unit {0}
IsQuiet Stop = Unit {0}

-- So does who does not act in the epoch, whatever comes.
abbrev pub OthersAreQuiet : Type 0
OthersAreQuiet = (past : List Entry) (e : EpochValue) (event : EpochEvent) → acts e ≡ false →
    IsQuiet (deed past e event)

-- a first node that suspected its primary so many times
abbrev pub suspected : List ℕ → ℕ → ℕ → ℕ → State
suspected domain i n zero = first_state
suspected domain i n (suc k) = (node_step domain i n (suspected domain i n k) events.Suspect).node

-- It is in the view of that number, and else as it was.
abbrev pub SuspicionsLead : Type 0
SuspicionsLead = (domain : List ℕ) (i n k : ℕ) → k ≤ LAST_VIEW →
    suspected domain i n k ≡ record { saved = in_view k initial_saved; received = [] }

-- The node says of a request what the one log of all epochs makes of it. Of one that its node of the epoch meets, that
-- node's own log makes it, with places counted after past logs.
abbrev pub SaysAsOneLog : List Entry → EpochValue → Entry → Deed → Type 0
SaysAsOneLog past e entry (Own event) =
    one_log_admission past e.node.saved.log entry.client entry.number
    ≡ placed_after (length past) (admission e.node.saved.log entry.client entry.number)
SaysAsOneLog past e entry (Answer client number place) =
    one_log_admission past e.node.saved.log entry.client entry.number ≡ admissions.Retry place
SaysAsOneLog past e entry (Refuse client number (refusals.Stale latest)) =
    one_log_admission past e.node.saved.log entry.client entry.number ≡ admissions.Stale latest
SaysAsOneLog past e entry deed = ⊥

-- So it is where the node leads, and its log has not reached the epoch's end.
abbrev pub RequestsMeetOneLog : Type 0
RequestsMeetOneLog = (past : List Entry) (e : EpochValue) (entry : Entry) →
    leads e.node.id e.node.n e.node.saved ≡ true → length e.node.saved.log ≤ LOG_ENTRIES →
    reaches_end e.most e.node.saved.log ≡ false → SaysAsOneLog past e entry (request_deed past e entry)

-- What a node has committed of all epochs, whose past logs are these entries, stays committed.
abbrev pub KeepsHistory : List Entry → EpochValue → EpochValue → Type 0
KeepsHistory past old new = (later : List Entry) × StandFor later new.past
    × IsLogPrefix (past ++ committed_cut old) (later ++ committed_cut new)

-- It does whatever is asked of the node,
abbrev pub StepsKeep : Type 0
StepsKeep = (past : List Entry) (asked : Deed) (old new : EpochValue) (step : EpochStep) → StandFor past old.past →
    DoesDeed past asked old new step → KeepsHistory past old new

-- and where the node begins the next epoch.
abbrev pub BeginningsKeep : Type 0
BeginningsKeep = (past : List Entry) (old new : EpochValue) (packets : List (ℕ × Message)) →
    BeginsAfter past (committed_cut old) old new packets → KeepsHistory past old new

-- Where what a node has committed is the beginning of its epoch's log, that log's entries after it make the log whole.
abbrev pub TellingServes : Type 0
TellingServes = (e : EpochValue) (log : List Entry) → IsSaved e.node.saved → has_next e ≡ true →
    is_whole e.most log ≡ true → IsLogPrefix (committed_entries e.node.saved) log →
    (is_rest e (length (committed_cut e)) (drop (length (committed_cut e)) log) ≡ true)
    × (whole_log e (length (committed_cut e)) (drop (length (committed_cut e)) log) ≡ log)
