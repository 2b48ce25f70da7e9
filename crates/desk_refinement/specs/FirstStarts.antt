-- First starts of nodes over epochs, each a number with a token, and what a start finds in files that are new.
use Rattle.std.specs.Prelude.{◌≡◌, ◌≢◌, ◌⊎◌, ◌≤◌, ℕ, List, [], Option, None, Some}
use Rattle.std.specs.List.{AllByRecursion}
use Rattle.sqlite_trees.specs.declared.store.Store.{Ghosts as FileGhosts}
use Rattle.sqlite.specs.Held.{Held, state}
use Rattle.desk_types.specs.declared.command.Entry.{Entry}
use Rattle.desk_types.specs.declared.owner.Owner.{Owner}
use Rattle.desk_log.specs.SavedValue.{SavedValue, initial_saved}
use Rattle.desk_log.specs.declared.state_store.StateStore.{Ghosts}
use Rattle.desk_saved.specs.File.{HasNoTable}
use Rattle.desk_saved.specs.Opening.{HasOpened}
use Rattle.desk_saved.specs.Store.{StoreValue}
use Rattle.desk_epoch_replica.specs.declared.deferring_replica.DeferringReplica.{DeferringReplica}
use Rattle.desk_epoch_opening.specs.Opened.{IsOpened}
use Rattle.desk_threads.specs.declared.handing.Out.{Ghosts as OutGhosts}
use Rattle.desk_threads.specs.Runs.{Stand}
use Rattle.desk_network.specs.Putting.{QueueEnds}
use Rattle.desk_epoch_keepers.specs.Group.{Advances, Breaks, BreaksAdvanced, BreaksBetween, KeeperAct, Restarts, Takes}
use Rattle.desk_epoch_keepers.specs.Members.{IsFirstTokenReplica}
use Rattle.desk_epoch_keepers.specs.TokenTurns.{AreFirstPublishingByTokens}
use Rattle.desk_epoch_keepers.specs.Turns.{AreFirstPublishing}
use Rattle.desk_refinement.specs.EpochMembers.{TokenNodesRun, TokenRunningNodes, queued_token_keepers, running_with}
use Rattle.desk_refinement.specs.EpochNodes.{queued_keepers}
use Rattle.desk_refinement.specs.EpochStops.{IsFoundIn}

-- The store of an epoch may be found with this state, and was: that of the first epoch with the state of a node that
-- has done nothing.
abbrev pub IsFoundUnused : (ℕ → SavedValue → Type 0) → ℕ → SavedValue → Type 0
IsFoundUnused holds epoch s = holds epoch s × (epoch ≡ 0 → s ≡ initial_saved)

-- The keeper of a node is opened the first time, as `open_epochs` promises it over stores that may hold such states.
-- The node has a number of n and a token, in a desk of the domain, whose epochs end after so many entries. The store of
-- the first epoch was found unused.
pub record OpensFirst {T S : Type 0} (g : Ghosts S) (holds : ℕ → SavedValue → Type 0) (domain : List ℕ)
    (n most i t : ℕ) (r : DeferringReplica T S) (shown : List Entry) : Type 0 where
  pub least : 1 ≤ most
  pub opened : IsOpened g (IsFoundUnused holds) (record { id = i; n = n; domain = domain }) t most r.replica shown
  pub reported : r.replica.reported ≡ None
  pub deferred : r.deferred.items ≡ []

-- The keeper is the one that the law has at first of the node of this number and token: no log is reported to it, and
-- it has published nothing.
pub record IsFirstKeeper {T S : Type 0} (domain : List ℕ) (n most i t : ℕ) (r : DeferringReplica T S)
    (shown : List Entry) : Type 0 where
  pub replica : IsFirstTokenReplica domain n most i t r
  pub none : r.replica.reported ≡ None
  pub nothing : shown ≡ []

-- Each keeper that is opened the first time is such.
abbrev pub OpenedAreFirst : {T S : Type 0} → (T → ℕ → SavedValue → Type 0) → Ghosts S → Type 0
OpenedAreFirst {T} {S} may_hold g = (domain : List ℕ) (n most i t : ℕ) (stores : T) (r : DeferringReplica T S)
    (shown : List Entry) → OpensFirst g (may_hold stores) domain n most i t r shown →
    IsFirstKeeper domain n most i t r shown

-- Of each number and token one node starts at most: this is where its keeper stands after its first start, if there is
-- one. One starts at least.
pub record StartOnce {O T S : Type 0} (may_hold : T → ℕ → SavedValue → Type 0) (g : Ghosts S) (domain : List ℕ)
    (n most : ℕ) (started : ℕ → ℕ → Option (Stand O (DeferringReplica T S))) : Type 0 where
  pub opens :
      (i t : ℕ) (stand : Stand O (DeferringReplica T S)) → started i t ≡ Some stand →
      (stores : T) × OpensFirst g (may_hold stores) domain n most i t stand.replica stand.published
  pub number : ℕ
  pub token : ℕ
  pub one : Stand O (DeferringReplica T S)
  pub starts : started number token ≡ Some one

-- the number of the node to whose keeper this happens
abbrev pub number_of_act : KeeperAct → ℕ
number_of_act (Takes i turn) = i
number_of_act (Breaks i turn count) = i
number_of_act (BreaksBetween i turn) = i
number_of_act (Advances i) = i
number_of_act (BreaksAdvanced i count) = i
number_of_act (Restarts i) = i

-- This happens to another node than that of the number and token.
abbrev pub IsOfOther : ℕ → ℕ → ℕ × KeeperAct → Type 0
IsOfOther i t act = act.0 ≡ t → i ≢ number_of_act act.1

-- There are nodes with which the law begins, and those of them with token 0 are such as begin one by themselves. Of a
-- node that starts, whatever happened to others before, the keeper stands there as after its first start, and has no
-- past logs.
pub record BeginWithStarts {O T S : Type 0} (may_hold : T → ℕ → SavedValue → Type 0) (g : Ghosts S)
    (out : OutGhosts O) (ends : O → QueueEnds) (domain : List ℕ) (n most items : ℕ)
    (started : ℕ → ℕ → Option (Stand O (DeferringReplica T S))) : Type 0 where
  pub first : TokenRunningNodes O T S
  pub are_first : AreFirstPublishingByTokens domain n most (queued_token_keepers first)
  pub with_token_0 : AreFirstPublishing domain n most (queued_keepers (running_with first 0))
  pub start :
      (i t : ℕ) (stand : Stand O (DeferringReplica T S)) (acts : List (ℕ × KeeperAct))
      (nodes : TokenRunningNodes O T S) → started i t ≡ Some stand →
      TokenNodesRun may_hold g out ends n items first acts nodes → AllByRecursion (IsOfOther i t) acts →
      (nodes.stands i t ≡ stand) × (nodes.logs i t ≡ [])

-- So it is of all nodes that start once.
abbrev pub StartsBegin : {O T S : Type 0} → (T → ℕ → SavedValue → Type 0) → Ghosts S → OutGhosts O → Type 0
StartsBegin {O} {T} {S} may_hold g out = (ends : O → QueueEnds) (domain : List ℕ) (n most items : ℕ)
    (started : ℕ → ℕ → Option (Stand O (DeferringReplica T S))) → StartOnce may_hold g domain n most started →
    BeginWithStarts may_hold g out ends domain n most items started

-- The first epoch's store may hold no state but that of a node that has done nothing.
abbrev pub FindsNothing : (ℕ → SavedValue → Type 0) → Type 0
FindsNothing holds = (s : SavedValue) → holds 0 s → s ≡ initial_saved

-- So each keeper that is opened over such stores found that one unused.
abbrev pub UnusedAreFound : {T S : Type 0} → (T → ℕ → SavedValue → Type 0) → Ghosts S → Type 0
UnusedAreFound {T} {S} may_hold g = (owner : Owner) (token most : ℕ) (stores : T) (r : DeferringReplica T S)
    (shown : List Entry) → FindsNothing (may_hold stores) →
    IsOpened g (may_hold stores) owner token most r.replica shown →
    IsOpened g (IsFoundUnused (may_hold stores)) owner token most r.replica shown

-- Each state with which the first epoch's file may be found is that of a node which was opened in a database without
-- any of a node's tables.
abbrev pub IsFoundWithoutTables : {S : Type 0} → FileGhosts S → (ℕ → SavedValue → Type 0) → Type 0
IsFoundWithoutTables {S} g holds = (s : SavedValue) → holds 0 s → (before : Held S) × (owner : Owner)
    × (file : StoreValue S) × HasNoTable (state g before).now.schema × HasOpened g before owner file × (file.last ≡ s)

-- Where that file has none of them, or holds the state of a node that has done nothing, no other state is found.
abbrev pub NewFilesFindNothing : {T S : Type 0} → (T → ℕ → SavedValue → Type 0) → FileGhosts S → Type 0
NewFilesFindNothing {T} may_hold g = (files : T) →
    IsFoundWithoutTables g (may_hold files) ⊎ IsFoundIn g (may_hold files) 0 initial_saved →
    FindsNothing (may_hold files)
