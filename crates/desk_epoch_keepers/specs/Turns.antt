-- Turns of keepers over epochs, as what happens in their group, and what each keeper publishes.
use Rattle.std.specs.Prelude.{◌≡◌, ◌≢◌, ℕ, true, List, [], ◌∷◌, None}
use Rattle.std.specs.List.{AllByRecursion}
use Rattle.desk_types.specs.declared.command.Entry.{Entry}
use Rattle.desk_log.specs.SavedValue.{SavedValue}
use Rattle.desk_log.specs.declared.state_store.StateStore.{Ghosts}
use Rattle.desk_mailbox.specs.declared.item.Item.{Item}
use Rattle.desk_epoch_replica.specs.declared.deferring_replica.DeferringReplica.{DeferringReplica}
use Rattle.desk_epoch_replica.specs.DeferringSaves.{deferring_saving}
use Rattle.desk_threads.specs.declared.handing.Out.{Ghosts as OutGhosts}
use Rattle.desk_threads.specs.Runs.{AdvancesBetween, Stand, TakesTurn}
use Rattle.desk_epoch_keepers.specs.Group.{EpochKeepers, EpochKeeperBecomes, KeeperAct, Takes, Breaks, BreaksBetween}
use Rattle.desk_epoch_keepers.specs.Group.{Advances, BreaksAdvanced, Restarts, AreFirstKeepers, TellsLogs}
use Rattle.desk_epoch_keepers.specs.Group.{KeeperActLeads, KeepersRun, MayPublishHistory, WasHandedToNode}
use Rattle.desk_epoch_keepers.specs.Group.{keeper_history, logs_after_begin, logs_after_turn, replica_ghosts}

-- keepers, and what each of them has published
pub record PublishingKeepers (T S : Type 0) : Type 0 where
  pub keepers : EpochKeepers T S
  pub published : ℕ → List Entry

-- Node i's keeper has published these entries now. What others have published is as it was.
pub record Publishes {T S : Type 0} (i : ℕ) (list : List Entry) (old new : PublishingKeepers T S) : Type 0 where
  pub here : new.published i ≡ list
  pub there : (j : ℕ) → j ≢ i → new.published j ≡ old.published j

-- Node i's keeper stands so between two turns: this is its replica, and this it has published.
pub record HasStand {O T S : Type 0} (i : ℕ) (k : PublishingKeepers T S) (stand : Stand O (DeferringReplica T S)) :
    Type 0
  where
    pub replica_is : stand.replica ≡ k.keepers.replicas i
    pub published_is : stand.published ≡ k.published i

-- Node i's keeper takes a turn of at most so many items, as `run_turns` promises it. Each packet of it was handed out
-- before, and the stores of past epochs that were read were found with their logs.
pub record TurnLeads {O T S : Type 0} (may_hold : T → ℕ → SavedValue → Type 0) (g : Ghosts S) (out : OutGhosts O)
    (n items i : ℕ) (old : PublishingKeepers T S) (turn : List Item) (new : PublishingKeepers T S) : Type 0 where
  pub before : Stand O (DeferringReplica T S)
  pub after : Stand O (DeferringReplica T S)
  pub stands : HasStand i old before
  pub took : TakesTurn out (replica_ghosts may_hold) (deferring_saving may_hold g) items turn before after
  pub handed : AllByRecursion (WasHandedToNode old.keepers.handed i) turn
  pub tells : TellsLogs i (old.keepers.logs i) took.packets
  pub becomes : EpochKeeperBecomes n i old.keepers after.replica (logs_after_turn (old.keepers.logs i) took.made)
      took.packets new.keepers
  pub publishes : Publishes i after.published old new

-- Between two turns node i's keeper advances its replica, as `run_turns` promises it.
pub record AdvanceLeads {O T S : Type 0} (may_hold : T → ℕ → SavedValue → Type 0) (g : Ghosts S) (out : OutGhosts O)
    (n i : ℕ) (old new : PublishingKeepers T S) : Type 0 where
  pub before : Stand O (DeferringReplica T S)
  pub after : Stand O (DeferringReplica T S)
  pub stands : HasStand i old before
  pub advances : AdvancesBetween out (deferring_saving may_hold g) before after
  pub becomes : EpochKeeperBecomes n i old.keepers after.replica
      (logs_after_begin (old.keepers.logs i) (old.keepers.replicas i) after.replica) advances.packets new.keepers
  pub publishes : Publishes i after.published old new

-- The process of node i ends in this, and is started again. Then all that the node has committed is published.
pub record StartLeads {T S : Type 0} (may_hold : T → ℕ → SavedValue → Type 0) (g : Ghosts S) (n i : ℕ)
    (old : PublishingKeepers T S) (act : KeeperAct) (new : PublishingKeepers T S) : Type 0 where
  pub leads : KeeperActLeads may_hold g n old.keepers act new.keepers
  pub publishes : Publishes i (keeper_history new.keepers i) old new

-- What happens leads from keepers and what they have published to others.
abbrev pub PublishingLeads : {O T S : Type 0} → (T → ℕ → SavedValue → Type 0) → Ghosts S → OutGhosts O → ℕ → ℕ →
    PublishingKeepers T S → KeeperAct → PublishingKeepers T S → Type 0
PublishingLeads may_hold g out n items old (Takes i turn) new = TurnLeads may_hold g out n items i old turn new
PublishingLeads may_hold g out n items old (Breaks i turn count) new =
    StartLeads may_hold g n i old (Breaks i turn count) new
PublishingLeads may_hold g out n items old (BreaksBetween i turn) new =
    StartLeads may_hold g n i old (BreaksBetween i turn) new
PublishingLeads may_hold g out n items old (Advances i) new = AdvanceLeads may_hold g out n i old new
PublishingLeads may_hold g out n items old (BreaksAdvanced i count) new =
    StartLeads may_hold g n i old (BreaksAdvanced i count) new
PublishingLeads may_hold g out n items old (Restarts i) new = StartLeads may_hold g n i old (Restarts i) new

-- So do acts, one after the other.
abbrev pub PublishingRun : {O T S : Type 0} → (T → ℕ → SavedValue → Type 0) → Ghosts S → OutGhosts O → ℕ → ℕ →
    PublishingKeepers T S → List KeeperAct → PublishingKeepers T S → Type 0
PublishingRun may_hold g out n items old [] new = old ≡ new
PublishingRun {O} {T} {S} may_hold g out n items old (act ∷ more) new =
    (mid : PublishingKeepers T S) × PublishingLeads may_hold g out n items old act mid
    × PublishingRun may_hold g out n items mid more new

-- The keepers are started the first time, no log is reported to any, and none has published anything.
pub record AreFirstPublishing {T S : Type 0} (domain : List ℕ) (n most : ℕ) (k : PublishingKeepers T S) : Type 0 where
  pub keepers : AreFirstKeepers domain n most k.keepers
  pub none : (i : ℕ) → (k.keepers.replicas i).replica.reported ≡ None
  pub nothing : (i : ℕ) → k.published i ≡ []

-- Turns of keepers, and what they do between them, are what happens in a group of which `group` speaks.
abbrev pub TurnsAreActs : {O T S : Type 0} → (T → ℕ → SavedValue → Type 0) → Ghosts S → OutGhosts O → Type 0
TurnsAreActs {O} {T} {S} may_hold g out = (n items : ℕ) (acts : List KeeperAct) (old new : PublishingKeepers T S) →
    PublishingRun may_hold g out n items old acts new → KeepersRun may_hold g n old.keepers acts new.keepers

-- And what a keeper has published then is what `group` says that it may have: the first of what its node has committed
-- of all epochs.
abbrev pub TurnsPublishHistory : {O T S : Type 0} → (T → ℕ → SavedValue → Type 0) → Ghosts S → OutGhosts O → Type 0
TurnsPublishHistory {O} {T} {S} may_hold g out = (domain : List ℕ) (n most items : ℕ) (acts : List KeeperAct)
    (start k : PublishingKeepers T S) (i : ℕ) → AreFirstPublishing domain n most start →
    PublishingRun may_hold g out n items start acts k → MayPublishHistory k.keepers i (k.published i)

-- Where the keeper says after a turn that all is published, that is all that its node has committed of all epochs.
abbrev pub TurnsShowAll : {O T S : Type 0} → (T → ℕ → SavedValue → Type 0) → Ghosts S → OutGhosts O → Type 0
TurnsShowAll {O} {T} {S} may_hold g out = (domain : List ℕ) (n most items : ℕ) (acts : List KeeperAct)
    (start old new : PublishingKeepers T S) (i : ℕ) (turn : List Item) → AreFirstPublishing domain n most start →
    PublishingRun may_hold g out n items start acts old →
    (t : TurnLeads may_hold g out n items i old turn new) → t.after.all_published ≡ true →
    new.published i ≡ keeper_history new.keepers i
