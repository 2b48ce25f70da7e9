-- What items make of a replica that does requests again in the next epoch.
use Rattle.std.specs.Prelude.{◌≡◌, ◌⊎◌, ℕ, nat_lt, if◌then◌else◌, List, [], ◌∷◌, ◌++◌, length, map, drop}
use Rattle.std.specs.Prelude.{Option, Some, None, option_to_list, MatchOption}
use Rattle.desk_types.specs.declared.command.Entry.{Entry}
use Rattle.desk_types.specs.declared.epoch_packet.EpochPacket.{EpochPacket}
use Rattle.desk_types.specs.declared.epoch_packet.Purpose.TheVariants as purposes
use Rattle.desk_types.specs.declared.outcome.Outcome.{Outcome}
use Rattle.desk_types.specs.declared.packet.Message.{Message}
use Rattle.desk_log.specs.SavedValue.{SavedValue}
use Rattle.desk_mailbox.specs.declared.item.Item.{Item}
use Rattle.desk_mailbox.specs.declared.item.Item.TheVariants as come
use Rattle.desk_replica.specs.Answers.{answers_with_own}
use Rattle.desk_replica.specs.EpochPackets.{packets_under}
use Rattle.desk_replica.specs.declared.answer.Answer.{Answer}
use Rattle.desk_node.specs.declared.step.Step.{Step}
use Rattle.desk_epoch_node.specs.EpochValue.{EpochValue}
use Rattle.desk_epoch_stores.specs.Starting.{MayHoldNoMore}
use Rattle.desk_epoch_replica.specs.declared.deferring_replica.DeferringReplica.{DeferringReplica}
use Rattle.desk_epoch_replica.specs.declared.item.EpochItem.{EpochItem}
use Rattle.desk_epoch_replica.specs.declared.item.EpochItem.TheVariants as items
use Rattle.desk_epoch_replica.specs.declared.limits.TheConstants.{DEFERRED_REQUESTS}
use Rattle.desk_epoch_replica.specs.declared.replica_step.EpochAnswer.TheVariants as answers
use Rattle.desk_epoch_replica.specs.declared.replica_step.ReplicaStep.{ReplicaStep}
use Rattle.desk_epoch_replica.specs.declared.replica_step.ReplicaStep.TheVariants as out
use Rattle.desk_epoch_replica.specs.Follows.{ReplicaDoes, ReplicaFollows, ReplicaRefuses}
use Rattle.desk_epoch_replica.specs.Outgoing.{is_deferred, own_answer, own_outcomes, own_packets}
use Rattle.desk_epoch_replica.specs.Outgoing.{step_answers, step_packets}
use Rattle.desk_epoch_replica.specs.PastPackets.{IsPastPacket}
use Rattle.desk_epoch_replica.specs.ReplicaValue.{ReplicaValue, with_stores}
use Rattle.desk_epoch_replica.specs.Saves.{StandsAfter}

-- A request more is held until the next epoch, where there is room for it.
abbrev pub with_deferred : List Entry → Entry → List Entry
with_deferred deferred entry = if nat_lt (length deferred) DEFERRED_REQUESTS then deferred ++ entry ∷ [] else deferred

-- the requests that are held after a step
abbrev pub deferred_after : List Entry → ReplicaStep → List Entry
deferred_after deferred (out.Answer (answers.Deferred entry)) = with_deferred deferred entry
deferred_after deferred step = deferred

-- The whole log of a past epoch is told after a place; or nothing is told, where its store cannot be opened or memory
-- is refused.
abbrev pub TellsPast : (SavedValue → Type 0) → EpochValue → ℕ → ℕ → ℕ → List (ℕ × EpochPacket) → Type 0
TellsPast may_hold e to epoch base packets =
    (packet : Option Message) × MatchOption packet (Unit {0}) (IsPastPacket may_hold e base)
    × (packets ≡ packets_under epoch purposes.Tell (map (λ message. (to, message)) (option_to_list packet)))

-- The packets of a step go out. Of the replica only its stores of other epochs may change, where one is opened.
abbrev pub Sends : {T S : Type 0} → (T → ℕ → SavedValue → Type 0) → ReplicaValue T S → ReplicaStep →
    List (ℕ × EpochPacket) → ReplicaValue T S → Type 0
Sends may_hold old (out.Tell to epoch base) packets new =
    (new ≡ with_stores new.stores old) × MayHoldNoMore may_hold old.stores new.stores
    × TellsPast (may_hold old.stores epoch) old.member.node to epoch base packets
Sends may_hold old step packets new = (packets ≡ step_packets step) × (new ≡ old)

-- The replica did an item, whatever its past logs are.
abbrev pub DoesReplicaItem : {T S : Type 0} → ReplicaValue T S → EpochItem → ReplicaStep → ReplicaValue T S → Type 0
DoesReplicaItem old item step new = (past : List Entry) → StandsAfter old past → ReplicaDoes past old item step new

-- Its packets go out, and its answers are given. A request that is deferred is held.
abbrev pub ActsOn : {T S : Type 0} → (T → ℕ → SavedValue → Type 0) → DeferringReplica T S → EpochItem →
    List (ℕ × EpochPacket) → List Answer → DeferringReplica T S → Type 0
ActsOn {T} {S} may_hold old item packets given new =
    (step : ReplicaStep) × (mid : ReplicaValue T S) × DoesReplicaItem old.replica item step mid
    × Sends may_hold mid step packets new.replica × (given ≡ step_answers step)
    × (new.deferred.items ≡ deferred_after old.deferred.items step)

-- the request that is to be done again: the first that is held
abbrev pub first_held : List Entry → Option Entry
first_held [] = None
first_held (entry ∷ more) = Some entry

-- the requests that are held after the first was done again: it is held on where it is deferred once more
abbrev pub held_after : List Entry → ReplicaStep → List Entry
held_after deferred step = if is_deferred step then deferred else drop 1 deferred

-- What came of the first request that is held goes out. Or memory was refused for that: it is held on, no answer is
-- given, and its packets may go out.
abbrev pub IsPut : ReplicaStep → List Entry → List (ℕ × Message) → List Outcome → Option Answer → List Entry → Type 0
IsPut step deferred packets outcomes own held =
    ((held ≡ held_after deferred step) × (packets ≡ own_packets step) × (outcomes ≡ own_outcomes step)
    × (own ≡ own_answer step))
    ⊎ ((held ≡ deferred) × (outcomes ≡ []) × (own ≡ None) × ((packets ≡ []) ⊎ (packets ≡ own_packets step)))

-- These packets and answers of a node stand after those that stood there.
abbrev pub HasAdded : Step → List (ℕ × Message) → List Outcome → Step → Type 0
HasAdded old packets outcomes new =
    (new.packets.items ≡ old.packets.items ++ packets) × (new.answers.items ≡ old.answers.items ++ outcomes)

-- Nothing came of a tick but its own step.
abbrev pub PutsNothing : List Entry → List (ℕ × Message) → List Outcome → Option Answer → List Entry → Type 0
PutsNothing deferred packets outcomes own held = (held ≡ deferred) × (packets ≡ []) × (outcomes ≡ []) × (own ≡ None)

-- At a tick the first request that is held is done again, or counted as refused.
abbrev pub Retries : {T S : Type 0} → ReplicaValue T S → List Entry → List (ℕ × Message) → List Outcome →
    Option Answer → ReplicaValue T S → List Entry → Type 0
Retries old deferred packets outcomes own new held =
    MatchOption (first_held deferred) ((new ≡ old) × PutsNothing deferred packets outcomes own held)
    (λ entry. ((step : ReplicaStep) × DoesReplicaItem old (items.Request entry) step new
    × IsPut step deferred packets outcomes own held)
    ⊎ (ReplicaRefuses old new × PutsNothing deferred packets outcomes own held))

-- What goes out after the step of a tick. Where the node of the epoch did it, a request may be done again: its packets
-- and answers go out with the others.
abbrev pub AfterTick : {T S : Type 0} → (T → ℕ → SavedValue → Type 0) → ReplicaValue T S → List Entry → ReplicaStep →
    List (ℕ × EpochPacket) → List Answer → ReplicaValue T S → List Entry → Type 0
AfterTick may_hold old deferred (out.Own epoch base step) packets given new held =
    (more : List (ℕ × Message)) × (outcomes : List Outcome) × (own : Option Answer)
    × Retries old deferred more outcomes own new held
    × (packets ≡ packets_under epoch purposes.Step (step.packets.items ++ more))
    × (given ≡ answers_with_own base (step.answers.items ++ outcomes) own)
AfterTick may_hold old deferred step packets given new held =
    Sends may_hold old step packets new × (given ≡ step_answers step)
    × (held ≡ deferred_after deferred step)

-- what a tick makes of the replica
abbrev pub Ticks : {T S : Type 0} → (T → ℕ → SavedValue → Type 0) → DeferringReplica T S → List (ℕ × EpochPacket) →
    List Answer → DeferringReplica T S → Type 0
Ticks {T} {S} may_hold old packets given new =
    (step : ReplicaStep) × (mid : ReplicaValue T S) × DoesReplicaItem old.replica items.Tick step mid
    × AfterTick may_hold mid old.deferred.items step packets given new.replica new.deferred.items

-- what an item makes of the replica; a stop makes nothing
abbrev pub DeferringDoes : {T S : Type 0} → (T → ℕ → SavedValue → Type 0) → DeferringReplica T S → Item →
    List (ℕ × EpochPacket) → List Answer → DeferringReplica T S → Type 0
DeferringDoes may_hold old (come.Request session entry) packets given new =
    ActsOn may_hold old (items.Request entry) packets given new
DeferringDoes may_hold old (come.Packet packet) packets given new =
    ActsOn may_hold old (items.Packet packet) packets given new
DeferringDoes may_hold old come.Tick packets given new = Ticks may_hold old packets given new
DeferringDoes may_hold old come.Stop packets given new =
    (packets ≡ []) × (given ≡ []) × (new.replica ≡ old.replica) × (new.deferred.items ≡ old.deferred.items)

-- An item was counted as refused, and the same requests are held.
abbrev pub DeferringRefuses : {T S : Type 0} → DeferringReplica T S → DeferringReplica T S → Type 0
DeferringRefuses old new =
    ReplicaRefuses old.replica new.replica × (new.deferred.items ≡ old.deferred.items)

-- The replica follows what it was, but for its stores of other epochs, which may hold no more than before.
abbrev pub RunsOn : {T S : Type 0} → (T → ℕ → SavedValue → Type 0) → ReplicaValue T S → ReplicaValue T S → Type 0
RunsOn may_hold old new =
    MayHoldNoMore may_hold old.stores new.stores × ReplicaFollows (with_stores new.stores old) new

abbrev pub DeferringFollows : {T S : Type 0} → (T → ℕ → SavedValue → Type 0) → DeferringReplica T S →
    DeferringReplica T S → Type 0
DeferringFollows may_hold old new = RunsOn may_hold old.replica new.replica
