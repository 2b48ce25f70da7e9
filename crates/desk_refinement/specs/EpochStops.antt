-- What a start finds in the stores of a node over epochs whose process ended, and which act of its group it is then.
use Rattle.std.specs.Prelude.{◌≡◌, ◌≢◌, ◌⊎◌, ◌<◌, ◌≤◌, ℕ, ◌+◌, true, false, List, [], length, take, slice_get}
use Rattle.std.specs.Prelude.{Contains, None, Ok, Some}
use Rattle.sqlite_trees.specs.declared.store.Store.{Ghosts as FileGhosts}
use Rattle.sqlite.specs.Effect.{Database}
use Rattle.desk_types.specs.declared.command.Entry.{Entry}
use Rattle.desk_types.specs.declared.epoch_packet.EpochPacket.{EpochPacket}
use Rattle.desk_types.specs.declared.owner.Owner.{Owner}
use Rattle.desk_log.specs.SavedValue.{SavedValue, initial_saved}
use Rattle.desk_log.specs.declared.state_store.StateStore.{Ghosts}
use Rattle.desk_mailbox.specs.declared.item.Item.{Item}
use Rattle.desk_replica.specs.Owners.{owner_of_node}
use Rattle.desk_replica.specs.Saving as saving
use Rattle.desk_saved.specs.File.{IsFileOf}
use Rattle.desk_saved.specs.Saving.{HasSaved}
use Rattle.desk_saved.specs.Store.{StoreValue}
use Rattle.desk_epoch_stores.specs.EpochEnds.{reported_saved}
use Rattle.desk_epoch_stores.specs.Starting.{saved_cut}
use Rattle.desk_epoch_replica.specs.declared.deferring_replica.DeferringReplica.{DeferringReplica}
use Rattle.desk_epoch_replica.specs.DeferringSaves.{deferring_saving, reported_of}
use Rattle.desk_epoch_replica.specs.Saves.{IsSavedReplica}
use Rattle.desk_epoch_opening.specs.Opened.{IsOpened}
use Rattle.desk_threads.specs.declared.handing.Out.{Ghosts as OutGhosts}
use Rattle.desk_threads.specs.SavedItems.{SavesAndForgets}
use Rattle.desk_network.specs.Putting.{QueueEnds, PutsIntoQueues}
use Rattle.desk_epoch_keepers.specs.Group.{AreFirstKeepers, EpochKeeperBecomes, EpochKeepers, KeeperAct, KeepersRun}
use Rattle.desk_epoch_keepers.specs.Group.{Breaks, BreaksAdvanced, BreaksBetween, OneEpochTurn, Restarts}
use Rattle.desk_epoch_keepers.specs.Group.{logs_after_begin, logs_after_turn, replica_node}
use Rattle.desk_epoch_keepers.specs.Members.{AreFirstTokenKeepers, TokenKeepers, TokenKeepersRun}
use Rattle.desk_epoch_keepers.specs.TokenTurns.{AreFirstPublishingByTokens}
use Rattle.desk_epoch_keepers.specs.Turns.{AreFirstPublishing, PublishingKeepers, Publishes, StartLeads}
use Rattle.desk_refinement.specs.EpochMembers.{TokenNodeActLeads, TokenNodesRun, TokenRunningNodes}
use Rattle.desk_refinement.specs.EpochMembers.{queued_token_keepers, running_with}
use Rattle.desk_refinement.specs.EpochNodes.{NodeRestarts, NodesRun, OneNodeChanges, RunningNodes, queued_keepers}
use Rattle.desk_refinement.specs.Stops.{FindsAfterSave}

-- In the stores of past epochs a start finds states that have these logs, and in that of the epoch after the node's own
-- one of a node that has done nothing.
pub record FindsLogs (holds : ℕ → SavedValue → Type 0) (most : ℕ) (logs : List (List Entry)) : Type 0 where
  pub past :
      (epoch : ℕ) (s : SavedValue) → epoch < length logs → holds epoch s →
      slice_get logs epoch ≡ Some (saved_cut most s)
  pub next : (s : SavedValue) → holds (length logs + 1) s → s ≡ initial_saved

-- So it does, and in the store of the node's own epoch it finds this state.
pub record FindsAlone (holds : ℕ → SavedValue → Type 0) (most : ℕ) (logs : List (List Entry)) (state : SavedValue) :
    Type 0 where
  pub logs_found : FindsLogs holds most logs
  pub own : (s : SavedValue) → holds (length logs) s → s ≡ state

-- So it does, and in the store of the node's own epoch it finds the one state or the other.
pub record FindsOneOf (holds : ℕ → SavedValue → Type 0) (most : ℕ) (logs : List (List Entry)) (one other : SavedValue) :
    Type 0 where
  pub logs_found : FindsLogs holds most logs
  pub own : (s : SavedValue) → holds (length logs) s → (s ≡ one) ⊎ (s ≡ other)

-- Keepers came to be these by what happened in a group since they were started the first time: these are its replicas
-- and past logs, and what was handed out here was handed out there.
pub record CameToBe {T S : Type 0} (may_hold : T → ℕ → SavedValue → Type 0) (g : Ghosts S) (n most : ℕ)
    (k : EpochKeepers T S) : Type 0 where
  pub domain : List ℕ
  pub acts : List KeeperAct
  pub first : EpochKeepers T S
  pub group : EpochKeepers T S
  pub are_first : AreFirstKeepers domain n most first
  pub run : KeepersRun may_hold g n first acts group
  pub replicas : (i : ℕ) → k.replicas i ≡ group.replicas i
  pub logs : (i : ℕ) → k.logs i ≡ group.logs i
  pub handed : (sent : ℕ × EpochPacket) → Contains k.handed sent → Contains group.handed sent

-- Keepers came to be those with a token, by what happened in a group of nodes with any tokens since they were started
-- the first time: these are its replicas and past logs, and what was handed out here was handed out there.
pub record CameToBeByTokens {T S : Type 0} (may_hold : T → ℕ → SavedValue → Type 0) (g : Ghosts S)
    (n most token : ℕ) (k : EpochKeepers T S) : Type 0 where
  pub domain : List ℕ
  pub acts : List (ℕ × KeeperAct)
  pub first : TokenKeepers T S
  pub group : TokenKeepers T S
  pub are_first : AreFirstTokenKeepers domain n most first
  pub run : TokenKeepersRun may_hold g n first acts group
  pub replicas : (i : ℕ) → k.replicas i ≡ group.replicas i token
  pub logs : (i : ℕ) → k.logs i ≡ group.logs i token
  pub handed : (x : ℕ × EpochPacket) → Contains k.handed x → Contains group.handed x

-- Keepers came to be these in a group, in which all have token 0, or as those with a token where nodes have any.
abbrev pub CameInGroup : {T S : Type 0} → (T → ℕ → SavedValue → Type 0) → Ghosts S → ℕ → ℕ → EpochKeepers T S →
    Type 0
CameInGroup may_hold g n most k =
    CameToBe may_hold g n most k ⊎ ((token : ℕ) × CameToBeByTokens may_hold g n most token k)

-- The process of node i ended, and its keeper is opened again over stores that may hold such states, for the same owner
-- and with the same token, as `open_epochs` promises it.
pub record OpensAgain {T S : Type 0} (may_hold : T → ℕ → SavedValue → Type 0) (g : Ghosts S) (n i : ℕ)
    (old : PublishingKeepers T S) (holds : ℕ → SavedValue → Type 0) (new : DeferringReplica T S) (shown : List Entry) :
    Type 0 where
  pub is_node : i < n
  pub most : ℕ
  pub least : 1 ≤ most
  pub came : CameInGroup may_hold g n most old.keepers
  pub opened : IsOpened g holds (owner_of_node (replica_node (old.keepers.replicas i)).node)
      (replica_node (old.keepers.replicas i)).token most new.replica shown
  pub reported : new.replica.reported ≡ None
  pub deferred : new.deferred.items ≡ []

-- The start of node i's keeper is this act, before which these packets had been handed out: so it is for some past logs
-- of every group in which the keeper is the new one, and has published what is shown.
pub record IsStartBy {T S : Type 0} (may_hold : T → ℕ → SavedValue → Type 0) (g : Ghosts S) (n i : ℕ)
    (old : PublishingKeepers T S) (act : KeeperAct) (packets : List (ℕ × EpochPacket)) (new : DeferringReplica T S)
    (shown : List Entry) : Type 0 where
  pub logs : List (List Entry)
  pub leads :
      (group : PublishingKeepers T S) → EpochKeeperBecomes n i old.keepers new logs packets group.keepers →
      Publishes i shown old group → StartLeads may_hold g n i old act group

-- the state that node i saved last
abbrev pub saved_last : {T S : Type 0} → PublishingKeepers T S → ℕ → SavedValue
saved_last k i = (replica_node (k.keepers.replicas i)).node.saved

-- It holds where the keeper of a node is opened again in a group, whatever happened there.
abbrev pub AtEachStart : {T S : Type 0} → (T → ℕ → SavedValue → Type 0) → Ghosts S →
    ((n i most : ℕ) → PublishingKeepers T S → (ℕ → SavedValue → Type 0) → DeferringReplica T S → List Entry → Type 0) →
    Type 0
AtEachStart {T} {S} may_hold g P = (n i : ℕ) (old : PublishingKeepers T S) (stores : T) (new : DeferringReplica T S)
    (shown : List Entry) (opens : OpensAgain may_hold g n i old (may_hold stores) new shown) →
    P n i opens.most old (may_hold stores) new shown

-- A turn of node i's keeper made this of its replica, with these packets. It holds wherever its process ended in that.
abbrev pub AtEachTurn : {T S : Type 0} → (T → ℕ → SavedValue → Type 0) → Ghosts S →
    ((n i most : ℕ) → PublishingKeepers T S → (ℕ → SavedValue → Type 0) → DeferringReplica T S → List Entry →
    List Item → List (ℕ × EpochPacket) → DeferringReplica T S → Type 0) → Type 0
AtEachTurn {T} {S} may_hold g P = AtEachStart may_hold g (λ n i most old holds new shown.
    (turn : List Item) (packets : List (ℕ × EpochPacket)) (made : DeferringReplica T S) →
    OneEpochTurn may_hold i old.keepers turn packets made → P n i most old holds new shown turn packets made)

-- Where what was saved last is found, the start is a restart.
abbrev pub SavedRestarts : {T S : Type 0} → (T → ℕ → SavedValue → Type 0) → Ghosts S → Type 0
SavedRestarts may_hold g = AtEachStart may_hold g (λ n i most old holds new shown.
    FindsAlone holds most (old.keepers.logs i) (saved_last old i) →
    IsStartBy may_hold g n i old (Restarts i) [] new shown)

-- Where the process ended in the save of a turn in which no log was reported, the state before or the one after is
-- found: the start is a restart, or a stop in the turn of which no packet went out.
abbrev pub StopsInSave : {T S : Type 0} → (T → ℕ → SavedValue → Type 0) → Ghosts S → Type 0
StopsInSave may_hold g = AtEachTurn may_hold g (λ n i most old holds new shown turn packets made.
    made.replica.unsaved ≡ false →
    FindsOneOf holds most (old.keepers.logs i) (saved_last old i) (replica_node made).node.saved →
    IsStartBy may_hold g n i old (Restarts i) [] new shown
    ⊎ IsStartBy may_hold g n i old (Breaks i turn 0) [] new shown)

-- Where it ended after the save of a turn, also of one in which a log was reported, the state after the turn is found:
-- the start is a stop in the turn, of which some first packets went out.
abbrev pub StopsAfterSave : {T S : Type 0} → (T → ℕ → SavedValue → Type 0) → Ghosts S → Type 0
StopsAfterSave may_hold g = AtEachTurn may_hold g (λ n i most old holds new shown turn packets made. (count : ℕ) →
    FindsAlone holds most (logs_after_turn (old.keepers.logs i) made) (replica_node made).node.saved →
    IsStartBy may_hold g n i old (Breaks i turn count) (take count packets) new shown)

-- Where it ended in the save of a log that was reported, the state before or that log is found: the start is a restart,
-- or a stop between the epochs.
abbrev pub StopsInReport : {T S : Type 0} → (T → ℕ → SavedValue → Type 0) → Ghosts S → Type 0
StopsInReport may_hold g = AtEachTurn may_hold g (λ n i most old holds new shown turn packets made.
    made.replica.unsaved ≡ true →
    FindsOneOf holds most (old.keepers.logs i) (saved_last old i) (reported_saved (reported_of made.replica)) →
    IsStartBy may_hold g n i old (Restarts i) [] new shown
    ⊎ IsStartBy may_hold g n i old (BreaksBetween i turn) [] new shown)

-- Where it ended after the save of that log and before the first of the next epoch, in which nothing is found, the
-- start is a stop between the epochs.
abbrev pub StopsBetweenEpochs : {T S : Type 0} → (T → ℕ → SavedValue → Type 0) → Ghosts S → Type 0
StopsBetweenEpochs may_hold g = AtEachTurn may_hold g (λ n i most old holds new shown turn packets made.
    made.replica.unsaved ≡ true →
    FindsAlone holds most (logs_after_turn (old.keepers.logs i) made) initial_saved →
    IsStartBy may_hold g n i old (BreaksBetween i turn) [] new shown)

-- Where it ended in that first save, nothing or the first state is found there: the start is a stop between the epochs,
-- or one in the turn, of which no packet went out.
abbrev pub StopsInFirstSave : {T S : Type 0} → (T → ℕ → SavedValue → Type 0) → Ghosts S → Type 0
StopsInFirstSave may_hold g = AtEachTurn may_hold g (λ n i most old holds new shown turn packets made.
    made.replica.unsaved ≡ true → FindsOneOf holds most (logs_after_turn (old.keepers.logs i) made) initial_saved
    (replica_node made).node.saved → IsStartBy may_hold g n i old (BreaksBetween i turn) [] new shown
    ⊎ IsStartBy may_hold g n i old (Breaks i turn 0) [] new shown)

-- Between two turns node i's keeper made this of its replica, with these packets. It holds wherever its process ended
-- in that.
abbrev pub AtEachAdvance : {T S : Type 0} → (T → ℕ → SavedValue → Type 0) → Ghosts S →
    ((n i most : ℕ) → PublishingKeepers T S → (ℕ → SavedValue → Type 0) → DeferringReplica T S → List Entry →
    List (ℕ × EpochPacket) → DeferringReplica T S → Type 0) → Type 0
AtEachAdvance {T} {S} may_hold g P = AtEachStart may_hold g (λ n i most old holds new shown.
    (packets : List (ℕ × EpochPacket)) (begun : DeferringReplica T S) →
    saving.Advances (deferring_saving may_hold g) (old.keepers.replicas i) packets begun →
    P n i most old holds new shown packets begun)

-- Where the keeper began the next epoch, and its process ended before or in the first save there, nothing or the first
-- state is found: the start is a restart, or a stop in the beginning, of which no packet went out.
abbrev pub StopsInBeginning : {T S : Type 0} → (T → ℕ → SavedValue → Type 0) → Ghosts S → Type 0
StopsInBeginning may_hold g = AtEachAdvance may_hold g (λ n i most old holds new shown packets begun.
    (replica_node begun).epoch ≡ (replica_node (old.keepers.replicas i)).epoch + 1 →
    FindsOneOf holds most (logs_after_begin (old.keepers.logs i) (old.keepers.replicas i) begun) initial_saved
    (replica_node begun).node.saved → IsStartBy may_hold g n i old (Restarts i) [] new shown
    ⊎ IsStartBy may_hold g n i old (BreaksAdvanced i 0) [] new shown)

-- Where it ended after that save, the first state is found: the start is a stop in the beginning, of which some first
-- packets went out.
abbrev pub StopsAfterBeginning : {T S : Type 0} → (T → ℕ → SavedValue → Type 0) → Ghosts S → Type 0
StopsAfterBeginning may_hold g = AtEachAdvance may_hold g (λ n i most old holds new shown packets begun. (count : ℕ) →
    FindsAlone holds most (logs_after_begin (old.keepers.logs i) (old.keepers.replicas i) begun)
    (replica_node begun).node.saved →
    IsStartBy may_hold g n i old (BreaksAdvanced i count) (take count packets) new shown)

-- So the nodes that run came to be what they are in such a group, wherever they stopped and were started again.
abbrev pub NodesCameToBe : {O T S : Type 0} → (T → ℕ → SavedValue → Type 0) → Ghosts S → OutGhosts O → Type 0
NodesCameToBe {O} {T} {S} may_hold g out = (ends : O → QueueEnds) → PutsIntoQueues out ends →
    (domain : List ℕ) (n most items : ℕ) (acts : List KeeperAct) (first nodes : RunningNodes O T S) →
    AreFirstPublishing domain n most (queued_keepers first) → NodesRun may_hold g out ends n items first acts nodes →
    CameToBe may_hold g n most (queued_keepers nodes).keepers

-- And a node whose start is an act of its group restarts as it does among nodes that run.
abbrev pub StartsRestartNodes : {O T S : Type 0} → (T → ℕ → SavedValue → Type 0) → Ghosts S → OutGhosts O → Type 0
StartsRestartNodes {O} {T} {S} may_hold g out = (ends : O → QueueEnds) (n i : ℕ) (old new : RunningNodes O T S)
    (act : KeeperAct) (packets : List (ℕ × EpochPacket)) (ended : O)
    (start : IsStartBy may_hold g n i (queued_keepers old) act packets (new.stands i).replica
    (new.stands i).published) → new.logs i ≡ start.logs → out.takes (old.stands i).out packets ended →
    OneNodeChanges ends n i old ended new → NodeRestarts may_hold g out ends n i old act new

-- So did those with each token where nodes have any.
abbrev pub MembersCameToBe : {O T S : Type 0} → (T → ℕ → SavedValue → Type 0) → Ghosts S → OutGhosts O → Type 0
MembersCameToBe {O} {T} {S} may_hold g out = (ends : O → QueueEnds) → PutsIntoQueues out ends → (domain : List ℕ)
    (n most items token : ℕ) (acts : List (ℕ × KeeperAct)) (first nodes : TokenRunningNodes O T S) →
    AreFirstPublishingByTokens domain n most (queued_token_keepers first) →
    TokenNodesRun may_hold g out ends n items first acts nodes →
    CameToBeByTokens may_hold g n most token (queued_keepers (running_with nodes token)).keepers

-- The act ends the process of node i.
abbrev pub EndsNode : ℕ → KeeperAct → Type 0
EndsNode i (Breaks j turn count) = j ≡ i
EndsNode i (BreaksBetween j turn) = j ≡ i
EndsNode i (BreaksAdvanced j count) = j ≡ i
EndsNode i (Restarts j) = j ≡ i
EndsNode i _ = ⊥

-- And where the start of a node with a token is such an act of their group, and nodes with other tokens have not
-- changed, that happens among nodes of any tokens.
abbrev pub StartsRestartMembers : {O T S : Type 0} → (T → ℕ → SavedValue → Type 0) → Ghosts S → OutGhosts O → Type 0
StartsRestartMembers {O} {T} {S} may_hold g out = (ends : O → QueueEnds) (n items token i : ℕ)
    (old new : TokenRunningNodes O T S) (act : KeeperAct) (packets : List (ℕ × EpochPacket)) (ended : O) →
    EndsNode i act → (start : IsStartBy may_hold g n i (queued_keepers (running_with old token)) act packets
    (new.stands i token).replica (new.stands i token).published) → new.logs i token ≡ start.logs →
    out.takes (old.stands i token).out packets ended →
    OneNodeChanges ends n i (running_with old token) ended (running_with new token) →
    ((j t : ℕ) → t ≢ token → new.stands j t ≡ old.stands j t) →
    ((j t : ℕ) → t ≢ token → new.logs j t ≡ old.logs j t) →
    TokenNodeActLeads may_hold g out ends n items token old act new

-- Where a log was reported in a turn that was saved, the store of the epoch that is over holds a state that has the log
-- which is put last.
abbrev pub ReportedAreHeld : {T S : Type 0} → (T → ℕ → SavedValue → Type 0) → Ghosts S → Type 0
ReportedAreHeld {T} {S} may_hold g = (n i most : ℕ) (old : EpochKeepers T S) (turn : List Item)
    (packets : List (ℕ × EpochPacket)) (made new : DeferringReplica T S) → i < n → CameInGroup may_hold g n most old →
    OneEpochTurn may_hold i old turn packets made → made.replica.unsaved ≡ true →
    SavesAndForgets (deferring_saving may_hold g) made new →
    (before : S) × g.keeps made.replica.current before
    × (slice_get (logs_after_turn (old.logs i) made) (replica_node (old.replicas i)).epoch
    ≡ Some (saved_cut most (g.last before)))

-- Where the keeper of a node that was saved began the next epoch, so does the store of the one that is over.
abbrev pub EndedAreHeld : {T S : Type 0} → (T → ℕ → SavedValue → Type 0) → Ghosts S → Type 0
EndedAreHeld {T} {S} may_hold g = (n i most : ℕ) (old : EpochKeepers T S) (begun : DeferringReplica T S) →
    CameInGroup may_hold g n most old → IsSavedReplica g (old.replicas i).replica →
    (replica_node begun).epoch ≡ (replica_node (old.replicas i)).epoch + 1 →
    slice_get (logs_after_begin (old.logs i) (old.replicas i) begun) (replica_node (old.replicas i)).epoch
    ≡ Some (saved_cut most (g.last (old.replicas i).replica.current))

-- Each state with which an epoch's file may be found was found after the save of this one, which answered Ok.
abbrev pub IsFoundAfterSave : {S : Type 0} → FileGhosts S → (ℕ → SavedValue → Type 0) → ℕ → SavedValue → Type 0
IsFoundAfterSave {S} g holds epoch given = (s : SavedValue) → holds epoch s → (file : StoreValue S)
    × (f : FindsAfterSave g file given s) × HasSaved {T = Unit {0}} g file f.left given (Ok tt)

-- Each was found after a save of the other one, which was stopped or failed where the file held the one.
abbrev pub IsFoundAtSave : {S : Type 0} → FileGhosts S → (ℕ → SavedValue → Type 0) → ℕ → SavedValue → SavedValue →
    Type 0
IsFoundAtSave {S} g holds epoch one other = (s : SavedValue) → holds epoch s → (file : StoreValue S)
    × (file.last ≡ one) × FindsAfterSave g file other s

-- Each was found in a database that has the rows of this one.
abbrev pub IsFoundAsShown : (ℕ → SavedValue → Type 0) → ℕ → SavedValue → Type 0
IsFoundAsShown holds epoch shows = (s : SavedValue) → holds epoch s → (owner : Owner) × (shown : Database)
    × IsFileOf owner shown shows × IsFileOf owner shown s

-- It is the state that an epoch's file holds while nothing is saved there.
abbrev pub IsFoundIn : {S : Type 0} → FileGhosts S → (ℕ → SavedValue → Type 0) → ℕ → SavedValue → Type 0
IsFoundIn g holds epoch state = IsFoundAfterSave g holds epoch state ⊎ IsFoundAsShown holds epoch state

-- The files of past epochs hold states that have these logs, and that of the epoch after the node's own the first
-- state of a node.
pub record FilesHoldLogs {S : Type 0} (g : FileGhosts S) (holds : ℕ → SavedValue → Type 0) (most : ℕ)
    (logs : List (List Entry)) : Type 0 where
  pub past :
      (epoch : ℕ) → epoch < length logs →
      (state : SavedValue) × (slice_get logs epoch ≡ Some (saved_cut most state)) × IsFoundIn g holds epoch state
  pub next : IsFoundIn g holds (length logs + 1) initial_saved

-- Where the file of the node's own epoch holds a state, that is found.
abbrev pub FilesFindHeld : {T S : Type 0} → (T → ℕ → SavedValue → Type 0) → FileGhosts S → Type 0
FilesFindHeld {T} may_hold g = (files : T) (most : ℕ) (logs : List (List Entry)) (state : SavedValue) →
    FilesHoldLogs g (may_hold files) most logs → IsFoundIn g (may_hold files) (length logs) state →
    FindsAlone (may_hold files) most logs state

-- Where a save to it was stopped or failed, the state before or the other one is found.
abbrev pub FilesFindOneOf : {T S : Type 0} → (T → ℕ → SavedValue → Type 0) → FileGhosts S → Type 0
FilesFindOneOf {T} may_hold g = (files : T) (most : ℕ) (logs : List (List Entry)) (one other : SavedValue) →
    FilesHoldLogs g (may_hold files) most logs → IsFoundAtSave g (may_hold files) (length logs) one other →
    FindsOneOf (may_hold files) most logs one other
