-- A node with its store, as what a keeper does its items to and saves.
use Rattle.std.specs.Prelude.{◌≡◌, ◌++◌, ℕ, Bool, false, List, [], length}
use Rattle.std.proofs.Common.{refl, ap, ◌∙◌, sym, subst, append-nil}
use Rattle.std.proofs.Props.{props}
use mathlib.Core.List.{IsPrefix}
use Rattle.desk_types.specs.declared.command.Entry.{Entry}
use Rattle.desk_types.specs.declared.epoch_packet.EpochPacket.{EpochPacket}
use Rattle.desk_log.specs.SavedValue.{SavedValue, committed_entries}
use Rattle.desk_log.specs.declared.state_store.StateStore.{Ghosts}
use Rattle.desk_mailbox.specs.declared.item.Item.{Item}
use Rattle.desk_replica.specs.declared.answer.Answer.{Answer}
use Rattle.desk_replica.specs.declared.replica.Replica.{Ghosts as ReplicaGhosts}
use Rattle.desk_threads.specs.declared.saved_node.SavedNode.{SavedNode}
use Rattle.desk_threads.specs.Filed.{IsFiled}
use Rattle.desk_threads.specs.NodeInOrder.{node_still, node_further}
use Rattle.desk_threads.specs.NodeReplica.{NodeDoes, NodeFollows, NodeRefuses}
use Rattle.desk_threads.specs.OwnedValue.{OwnedValue}
use Rattle.desk_threads.specs.Prefixes.{begins}
use Rattle.desk_replica.specs.Owners.{owner_of_node}
use Rattle.desk_replica.specs.Saving.{Saving, LogsGoOn, ForgetsReported, BeginsEpoch, HasSameLogs, StaysSaved}
use Rattle.desk_node.specs.NodeValue.{NodeValue, IsSameNode}

-- The node did an item in memory, and its store is as it was.
abbrev pub SavedNodeDoes : {S : Type 0} → SavedNode S → Item → List (ℕ × EpochPacket) → List Answer → SavedNode S →
    Type 0
SavedNodeDoes old item packets answers new =
    NodeDoes old.owned item packets answers new.owned × (new.store ≡ old.store)

-- An item of the node was counted as refused, and its store is as it was.
abbrev pub SavedNodeRefuses : {S : Type 0} → SavedNode S → SavedNode S → Type 0
SavedNodeRefuses old new = NodeRefuses old.owned new.owned × (new.store ≡ old.store)

-- The node follows what it was, and its store is as it was.
abbrev pub SavedNodeFollows : {S : Type 0} → SavedNode S → SavedNode S → Type 0
SavedNodeFollows old new = NodeFollows old.owned new.owned × (new.store ≡ old.store)

-- The node's state is the one that its store saved last, and the store has not failed.
abbrev pub IsSavedNode : {S : Type 0} → Ghosts S → SavedNode S → Type 0
IsSavedNode g r = (g.last r.store ≡ r.owned.node.saved) × (g.stopped r.store ≡ false)

-- The node's state was saved, and the node is as it was.
abbrev pub SavesNode : {S : Type 0} → Ghosts S → SavedNode S → SavedNode S → Type 0
SavesNode g old new = (new.owned ≡ old.owned) × IsFiled g old.store new.store new.owned.node.saved

-- The save of the node's state failed, and the node is as it was.
abbrev pub FailsToSaveNode : {S : Type 0} → Ghosts S → SavedNode S → SavedNode S → Type 0
FailsToSaveNode g old new = (new.owned ≡ old.owned) × g.leaves old.store old.owned.node.saved new.store

pub no_past_prop : (past : List Entry) → IsProp (past ≡ [])
no_past_prop past = Prim.hlevel props

pub IsSavedNode-prop : {S : Type 0} (g : Ghosts S) (r : SavedNode S) → IsProp (IsSavedNode g r)
IsSavedNode-prop g r = Prim.hlevel props

-- A node's state, its one log, and what its store makes of them.
abbrev pub node_saving : {S : Type 0} → Ghosts S → Saving (SavedNode S)
node_saving g = record {
  owner = λ r. owner_of_node r.owned.node;
  stands = λ r past. past ≡ [];
  base = λ r. 0;
  reported = λ r. [];
  cut = λ r. committed_entries r.owned.node.saved;
  is_saved = IsSavedNode g;
  saves = SavesNode g;
  fails = FailsToSaveNode g;
  keeps = λ old new. g.keeps old.store new.store;
  forgets = λ old new. new ≡ old;
  may_begin = λ r. false;
  begins = λ old packets new. ⊥;
  is_ready = λ r. Unit {0};
  prepares = λ old new. new ≡ old;
  stops = λ fault old new. ⊥;
  stands_prop = λ r past. no_past_prop past;
  saved_prop = λ r. IsSavedNode-prop g r;
}

-- what a node with its store is for items
abbrev pub saved_node_replica : {S : Type 0} → ReplicaGhosts (SavedNode S)
saved_node_replica = record { does = SavedNodeDoes; refuses = SavedNodeRefuses; follows = SavedNodeFollows }

pub saved_node_still : {S : Type 0} (r : SavedNode S) → SavedNodeFollows r r
saved_node_still r = (node_still r.owned, refl)

pub saved_node_further : {S : Type 0} (old mid new : SavedNode S) → SavedNodeFollows old mid →
    SavedNodeFollows mid new → SavedNodeFollows old new
saved_node_further old mid new a b = (node_further old.owned mid.owned new.owned a.0 b.0, b.1 ∙ a.1)

pub no_past_counts : (past : List Entry) → past ≡ [] → length past ≡ 0
no_past_counts past none = ap length none

pub node_saved_last : {S : Type 0} (g : Ghosts S) (old new : SavedNode S) → SavesNode g old new → IsSavedNode g new
node_saved_last g old new saves = (saves.1.last, saves.1.running)

pub node_saved_same : {S : Type 0} (g : Ghosts S) (old new : SavedNode S) → SavesNode g old new →
    (◌≡◌ {A = ℕ} 0 0) × (◌≡◌ {A = List Entry} [] [])
    × (committed_entries new.owned.node.saved ≡ committed_entries old.owned.node.saved)
node_saved_same g old new saves =
    (refl, refl, ap (λ (k : OwnedValue). committed_entries k.node.saved) saves.0)

same_owner : (old new : NodeValue) → IsSameNode old new → owner_of_node new ≡ owner_of_node old
same_owner old new same =
    ap (λ (i : ℕ). record { id = i; n = new.n; domain = new.domain }) same.id_is
    ∙ ap (λ (n : ℕ). record { id = old.id; n = n; domain = new.domain }) same.n_is
    ∙ ap (λ (d : List ℕ). record { id = old.id; n = old.n; domain = d }) same.domain_is

pub node_refused_saved : {S : Type 0} (last : S → SavedValue) (stopped : S → Bool) (old new : SavedNode S) →
    SavedNodeRefuses old new → (last old.store ≡ old.owned.node.saved) × (stopped old.store ≡ false) →
    (last new.store ≡ new.owned.node.saved) × (stopped new.store ≡ false)
node_refused_saved last stopped old new refused is = (
  ap last refused.1 ∙ is.0 ∙ ap (λ (k : OwnedValue). k.node.saved) (sym refused.0),
  ap stopped refused.1 ∙ is.1,
)

pub node_followed_on : {S : Type 0} (g : Ghosts S) (old new : SavedNode S) → SavedNodeFollows old new →
    LogsGoOn (node_saving g) old new
node_followed_on g old new follows = record {
  owner = same_owner old.owned.node new.owned.node follows.0.0;
  base = refl;
  after = begins (committed_entries old.owned.node.saved) (committed_entries new.owned.node.saved) follows.0.1;
  next = begins (committed_entries old.owned.node.saved) (committed_entries new.owned.node.saved) follows.0.1;
  stands = λ past none. none;
}

same_cut : (old new : OwnedValue) → new ≡ old →
    IsPrefix (committed_entries old.node.saved) (committed_entries new.node.saved)
same_cut old new same =
    subst (λ (k : OwnedValue). IsPrefix (committed_entries old.node.saved) (committed_entries k.node.saved))
    (sym same) ([], append-nil (committed_entries old.node.saved))

same_on : {S : Type 0} (g : Ghosts S) (old new : SavedNode S) → new.owned ≡ old.owned → LogsGoOn (node_saving g) old new
same_on g old new same = record {
  owner = ap (λ (k : OwnedValue). owner_of_node k.node) same;
  base = refl;
  after = same_cut old.owned new.owned same;
  next = same_cut old.owned new.owned same;
  stands = λ past none. none;
}

pub node_saved_on : {S : Type 0} (g : Ghosts S) (old new : SavedNode S) → SavesNode g old new →
    LogsGoOn (node_saving g) old new
node_saved_on g old new saves = same_on g old new saves.0

pub node_failed_on : {S : Type 0} (g : Ghosts S) (old new : SavedNode S) → FailsToSaveNode g old new →
    LogsGoOn (node_saving g) old new
node_failed_on g old new fails = same_on g old new fails.0

pub node_followed_keeps : {S : Type 0} (keeps : S → S → Type 0) → ((a : S) → keeps a a) → (old new : SavedNode S) →
    SavedNodeFollows old new → keeps old.store new.store
node_followed_keeps keeps still old new follows = subst (keeps old.store) (sym follows.1) (still old.store)

pub node_saved_keeps : {S : Type 0} (g : Ghosts S) (old new : SavedNode S) → SavesNode g old new →
    g.keeps old.store new.store
node_saved_keeps g old new saves = saves.1.keeps

-- Nothing is reported to a node, so it has nothing to forget.
pub node_forgets : {S : Type 0} (g : Ghosts S) → ((a : S) → g.keeps a a) → (old new : SavedNode S) → new ≡ old →
    ForgetsReported (node_saving g) old new
node_forgets {S} g still old new same = record {
  owner = ap (λ (r : SavedNode S). owner_of_node r.owned.node) same;
  base = refl;
  reported = refl;
  cut = ap (λ (r : SavedNode S). committed_entries r.owned.node.saved) same;
  stands = λ past none. ap (λ (list : List Entry). list ++ []) none;
  saved = λ is. subst (λ (r : SavedNode S). IsSavedNode g r) (sym same) is;
  keeps = subst (λ (r : SavedNode S). g.keeps old.store r.store) (sym same) (still old.store);
}

-- It has no next epoch,
pub node_begins : {S : Type 0} (g : Ghosts S) (old new : SavedNode S) → ⊥ →
    BeginsEpoch (node_saving g) old new × StaysSaved (node_saving g) old new
node_begins g old new begins = absurd begins

-- and nothing to prepare.
pub node_prepares : {S : Type 0} (g : Ghosts S) → ((a : S) → g.keeps a a) → (old new : SavedNode S) → new ≡ old →
    HasSameLogs (node_saving g) old new × (IsSavedNode g old → IsSavedNode g new) × g.keeps old.store new.store
node_prepares {S} g still old new same = (
  record {
    owner = ap (λ (r : SavedNode S). owner_of_node r.owned.node) same;
    base = refl;
    reported = refl;
    cut = ap (λ (r : SavedNode S). committed_entries r.owned.node.saved) same;
    stands = λ past none. none;
  },
  λ is. subst (λ (r : SavedNode S). IsSavedNode g r) (sym same) is,
  subst (λ (r : SavedNode S). g.keeps old.store r.store) (sym same) (still old.store),
)
