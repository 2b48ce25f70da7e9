-- A group of keepers of nodes over epochs, and what happens in it.
use Rattle.std.specs.Prelude.{◌≡◌, ◌≢◌, ◌<◌, ℕ, ◌+◌, ◌==◌, false, true, if◌then◌else◌, List, [], ◌∷◌, ◌++◌}
use Rattle.std.specs.Prelude.{take}
use Rattle.std.specs.Prelude.{Contains, MatchBool, None, Some, slice_get}
use Rattle.std.specs.List.{AllByRecursion}
use mathlib.Core.List.{IsPrefix}
use Rattle.desk_types.specs.declared.command.Entry.{Entry}
use Rattle.desk_types.specs.declared.epoch_packet.EpochPacket.{EpochPacket}
use Rattle.desk_types.specs.declared.epoch_packet.Purpose.TheVariants as purposes
use Rattle.desk_log.specs.SavedValue.{SavedValue}
use Rattle.desk_log.specs.declared.state_store.StateStore.{Ghosts}
use Rattle.desk_mailbox.specs.declared.item.Item.{Item}
use Rattle.desk_mailbox.specs.declared.item.Item.TheVariants as items
use Rattle.desk_node.specs.NodeValue.{node_from}
use Rattle.desk_replica.specs.Owners.{owner_of_node}
use Rattle.desk_replica.specs.Saving as saving
use Rattle.desk_replica.specs.declared.answer.Answer.{Answer}
use Rattle.desk_replica.specs.declared.replica.Replica.{Ghosts as ReplicaGhosts}
use Rattle.desk_epochs.specs.Epochs.{joined_logs}
use Rattle.desk_epoch_node.specs.Does.{is_due, node_in_view}
use Rattle.desk_epoch_node.specs.EpochValue.{EpochValue, committed_cut}
use Rattle.desk_epoch_node.specs.PastRows.{PastValue, StandFor}
use Rattle.desk_epoch_replica.specs.declared.deferring_replica.DeferringReplica.{DeferringReplica}
use Rattle.desk_epoch_replica.specs.Deferring.{DeferringDoes, DeferringFollows, DeferringRefuses}
use Rattle.desk_epoch_replica.specs.DeferringSaves.{deferring_saving, reported_of}
use Rattle.desk_epoch_replica.specs.MemberValue.{new_member}
use Rattle.desk_epoch_replica.specs.Saves.{IsSavedReplica}
use Rattle.desk_epoch_group.specs.Group.{first_value, past_packet, started_again}
use Rattle.desk_threads.specs.EndingItems.{OnlyLastEnds}
use Rattle.desk_threads.specs.Replicas.{MeetsItems}
use Rattle.desk_threads.specs.SavedItems.{SavesAndForgets}

-- the replica of each node's keeper, the logs of its past, and all packets that were ever handed out, each with its
-- receiver
pub record EpochKeepers (T S : Type 0) : Type 0 where
  pub replicas : ℕ → DeferringReplica T S
  pub logs : ℕ → List (List Entry)
  pub handed : List (ℕ × EpochPacket)

-- What happens: a node's keeper takes a turn of items, which share a save; its process ends in a turn that was saved,
-- when at most so many of the turn's packets were handed out, and is started again; or it ends in a turn in which a log
-- was reported to it, when that was saved, and the first state of the next epoch was not; between two turns it may
-- begin the next epoch; its process ends then, when at most so many of those packets were handed out; or it ends at any
-- other moment. Whenever it ends it is started again.
pub data KeeperAct : Type 0 where
  Takes : ℕ → List Item → KeeperAct
  Breaks : ℕ → List Item → ℕ → KeeperAct
  BreaksBetween : ℕ → List Item → KeeperAct
  Advances : ℕ → KeeperAct
  BreaksAdvanced : ℕ → ℕ → KeeperAct
  Restarts : ℕ → KeeperAct

-- the node of a replica
abbrev pub replica_node : {T S : Type 0} → DeferringReplica T S → EpochValue
replica_node r = r.replica.member.node

-- what items make of a replica whose stores may be found with such states
abbrev pub replica_ghosts : {T S : Type 0} → (T → ℕ → SavedValue → Type 0) → ReplicaGhosts (DeferringReplica T S)
replica_ghosts may_hold = record {
  does = DeferringDoes may_hold;
  refuses = DeferringRefuses;
  follows = DeferringFollows may_hold;
}

-- An item that is a packet was handed out before, for node i.
abbrev pub WasHandedToNode : List (ℕ × EpochPacket) → ℕ → Item → Type 0
WasHandedToNode handed i (items.Request session entry) = Unit {0}
WasHandedToNode handed i (items.Packet p) = Contains handed (i, p)
WasHandedToNode handed i items.Tick = Unit {0}
WasHandedToNode handed i items.Stop = Unit {0}

-- Node i tells by this packet the log that is its epoch's of these, after some place.
abbrev pub TellsLog : ℕ → List (List Entry) → EpochPacket → Type 0
TellsLog i logs p = (base : ℕ) × (past_packet i base (slice_get logs p.epoch) ≡ Some p.packet)

-- The store of each past epoch that node i read for these packets was found with the log that was saved in it: what
-- they tell of an epoch is its log of these.
abbrev pub TellsLogs : ℕ → List (List Entry) → List (ℕ × EpochPacket) → Type 0
TellsLogs i logs packets = (to : ℕ) (p : EpochPacket) → Contains packets (to, p) → p.purpose ≡ purposes.Tell →
    TellsLog i logs p

-- A turn of node i makes this of its replica, before that is saved, and gives these packets. Each packet of the turn
-- was handed out before, and the stores of past epochs that were read were found with their logs.
pub record OneEpochTurn {T S : Type 0} (may_hold : T → ℕ → SavedValue → Type 0) (i : ℕ) (old : EpochKeepers T S)
    (turn : List Item) (packets : List (ℕ × EpochPacket)) (made : DeferringReplica T S) : Type 0 where
  pub handed : AllByRecursion (WasHandedToNode old.handed i) turn
  pub tells : TellsLogs i (old.logs i) packets
  pub early : OnlyLastEnds turn
  pub answers : List Answer
  pub does : MeetsItems (replica_ghosts may_hold) (old.replicas i) turn packets answers made

-- the past logs of a node after a turn: one that was reported in it, and is yet to be saved, is put last
abbrev pub logs_after_turn : {T S : Type 0} → List (List Entry) → DeferringReplica T S → List (List Entry)
logs_after_turn logs made = if made.replica.unsaved then logs ++ reported_of made.replica ∷ [] else logs

-- The replica of a node that starts: the node is this one, but that it keeps of its past logs, which are these, what it
-- read anew. It is saved. No log is reported to it, and it holds no requests.
pub record IsStarted {T S : Type 0} (g : Ghosts S) (node : EpochValue) (logs : List (List Entry))
    (new : DeferringReplica T S) : Type 0 where
  pub past : PastValue
  pub stands : StandFor (joined_logs logs) past
  pub member :
      new.replica.member
      ≡ new_member (record {
        epoch = node.epoch;
        past = past;
        most = node.most;
        token = node.token;
        node = node.node;
      })
  pub reported : new.replica.reported ≡ None
  pub saved : IsSavedReplica g new.replica
  pub deferred : new.deferred.items ≡ []

-- the node that goes on in its epoch from the state that it saved last, and has heard nothing since
abbrev pub from_saved : EpochValue → EpochValue
from_saved e = record {
  epoch = e.epoch;
  past = e.past;
  most = e.most;
  token = e.token;
  node = node_from (owner_of_node e.node) e.node.saved;
}

-- the node in the first view of the epoch after its own
abbrev pub in_next_epoch : EpochValue → EpochValue
in_next_epoch e = record {
  epoch = e.epoch + 1;
  past = e.past;
  most = e.most;
  token = e.token;
  node = node_in_view e.node.domain e.node.id e.node.n 0;
}

-- A start finds what a node saved last: the node goes on from that in its epoch; or, where that is over, in the first
-- view of the next.
abbrev pub StartsAfter : {T S : Type 0} → Ghosts S → EpochValue → List (List Entry) → DeferringReplica T S →
    List (List Entry) → Type 0
StartsAfter g e logs new new_logs = MatchBool (is_due e)
    ((new_logs ≡ logs ++ committed_cut e ∷ []) × IsStarted g (in_next_epoch e) new_logs new)
    ((new_logs ≡ logs) × IsStarted g (from_saved e) new_logs new)

-- the past logs of a node that may have begun the next epoch: where it did, what it had committed of its own is put
-- last
abbrev pub logs_after_begin : {T S : Type 0} → List (List Entry) → DeferringReplica T S → DeferringReplica T S →
    List (List Entry)
logs_after_begin logs old new =
    if (replica_node new).epoch == (replica_node old).epoch then logs else logs ++ committed_cut (replica_node old) ∷ []

-- Node i's keeper has this replica now, with these past logs, and handed out these packets. No other has changed.
pub record EpochKeeperBecomes {T S : Type 0} (n i : ℕ) (old : EpochKeepers T S) (replica : DeferringReplica T S)
    (logs : List (List Entry)) (packets : List (ℕ × EpochPacket)) (new : EpochKeepers T S) : Type 0 where
  pub is_node : i < n
  pub here : new.replicas i ≡ replica
  pub logs_are : new.logs i ≡ logs
  pub there : (j : ℕ) → j ≢ i → new.replicas j ≡ old.replicas j
  pub other_logs : (j : ℕ) → j ≢ i → new.logs j ≡ old.logs j
  pub handed_are : new.handed ≡ old.handed ++ packets

-- What happens leads from a group to another.
abbrev pub KeeperActLeads : {T S : Type 0} → (T → ℕ → SavedValue → Type 0) → Ghosts S → ℕ → EpochKeepers T S →
    KeeperAct →
    EpochKeepers T S → Type 0
KeeperActLeads {T} {S} may_hold g n old (Takes i turn) new =
    (packets : List (ℕ × EpochPacket)) × (made : DeferringReplica T S) × (replica : DeferringReplica T S)
    × OneEpochTurn may_hold i old turn packets made × SavesAndForgets (deferring_saving may_hold g) made replica
    × EpochKeeperBecomes n i old replica (logs_after_turn (old.logs i) made) packets new
KeeperActLeads {T} {S} may_hold g n old (Breaks i turn count) new =
    (packets : List (ℕ × EpochPacket)) × (made : DeferringReplica T S) × (replica : DeferringReplica T S)
    × (logs : List (List Entry)) × OneEpochTurn may_hold i old turn packets made
    × StartsAfter g (replica_node made) (logs_after_turn (old.logs i) made) replica logs
    × EpochKeeperBecomes n i old replica logs (take count packets) new
KeeperActLeads {T} {S} may_hold g n old (BreaksBetween i turn) new =
    (packets : List (ℕ × EpochPacket)) × (made : DeferringReplica T S) × (replica : DeferringReplica T S)
    × OneEpochTurn may_hold i old turn packets made × (made.replica.unsaved ≡ true)
    × IsStarted g (started_again (replica_node made)) (logs_after_turn (old.logs i) made) replica
    × EpochKeeperBecomes n i old replica (logs_after_turn (old.logs i) made) [] new
KeeperActLeads {T} {S} may_hold g n old (Advances i) new =
    (packets : List (ℕ × EpochPacket)) × (replica : DeferringReplica T S)
    × saving.Advances (deferring_saving may_hold g) (old.replicas i) packets replica
    × EpochKeeperBecomes n i old replica (logs_after_begin (old.logs i) (old.replicas i) replica) packets new
KeeperActLeads {T} {S} may_hold g n old (BreaksAdvanced i count) new =
    (packets : List (ℕ × EpochPacket)) × (begun : DeferringReplica T S) × (replica : DeferringReplica T S)
    × (logs : List (List Entry)) × saving.Advances (deferring_saving may_hold g) (old.replicas i) packets begun
    × StartsAfter g (replica_node begun) (logs_after_begin (old.logs i) (old.replicas i) begun) replica logs
    × EpochKeeperBecomes n i old replica logs (take count packets) new
KeeperActLeads {T} {S} may_hold g n old (Restarts i) new =
    (replica : DeferringReplica T S) × (logs : List (List Entry))
    × StartsAfter g (replica_node (old.replicas i)) (old.logs i) replica logs × EpochKeeperBecomes n i old replica logs
    [] new

-- So do acts, one after the other.
abbrev pub KeepersRun : {T S : Type 0} → (T → ℕ → SavedValue → Type 0) → Ghosts S → ℕ → EpochKeepers T S →
    List KeeperAct → EpochKeepers T S → Type 0
KeepersRun may_hold g n old [] new = old ≡ new
KeepersRun {T} {S} may_hold g n old (act ∷ more) new =
    (mid : EpochKeepers T S) × KeeperActLeads may_hold g n old act mid × KeepersRun may_hold g n mid more new

-- The replica is that of node i of n as it starts the first time, where epochs end after so many entries.
pub record IsFirstReplica {T S : Type 0} (domain : List ℕ) (n most i : ℕ) (r : DeferringReplica T S) : Type 0 where
  pub member : r.replica.member ≡ new_member (first_value domain n most i)
  pub unsaved : r.replica.unsaved ≡ false
  pub deferred : r.deferred.items ≡ []

-- The keepers are started the first time, and nothing was handed out.
pub record AreFirstKeepers {T S : Type 0} (domain : List ℕ) (n most : ℕ) (k : EpochKeepers T S) : Type 0 where
  pub replicas : (i : ℕ) → IsFirstReplica domain n most i (k.replicas i)
  pub logs : (i : ℕ) → k.logs i ≡ []
  pub handed : k.handed ≡ []

-- what node i has committed of all epochs
abbrev pub keeper_history : {T S : Type 0} → EpochKeepers T S → ℕ → List Entry
keeper_history k i = joined_logs (k.logs i) ++ committed_cut (replica_node (k.replicas i))

-- Node i may have published these entries: they are the first of those that it has committed, as `run_turns` promises.
abbrev pub MayPublishHistory : {T S : Type 0} → EpochKeepers T S → ℕ → List Entry → Type 0
MayPublishHistory k i list = IsPrefix list (keeper_history k i)
