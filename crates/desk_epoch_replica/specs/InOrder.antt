-- A replica follows what it was where nothing is done, and over two parts of a time. What it has committed over all
-- epochs stays committed. And what its saves leave.
use Rattle.std.proofs.Common.{◌≡◌, ℕ, ◌+◌, List, [], ◌∷◌, ◌++◌, length, refl, sym, ap, subst, ◌∙◌, inl, inr}
use Rattle.std.specs.Option.{is_some}
use Rattle.std.proofs.lemmas.Option.{none-some}
use Rattle.desk_types.specs.declared.command.Entry.{Entry}
use Rattle.desk_log.specs.Entries.{IsLogPrefix}
use Rattle.desk_log.specs.SavedValue.{committed_entries}
use Rattle.desk_log.specs.declared.state_store.StateStore.{Ghosts}
use Rattle.desk_log.proofs.Prefixes.{prefix_append, prefix_refl, prefix_trans}
use Rattle.desk_node.specs.NodeValue.{NodeValue, IsSameNode}
use Rattle.desk_epochs.proofs.Histories.{cut_prefix}
use Rattle.desk_epochs.proofs.RisingHistories.{cut_is_prefix}
use Rattle.desk_epoch_node.specs.Ends.{cut_of}
use Rattle.desk_epoch_node.specs.EpochValue.{EpochValue, committed_cut}
use Rattle.desk_epoch_node.specs.Laws.{KeepsHistory}
use Rattle.desk_epoch_node.specs.PastRows.{PastValue, StandFor}
use Rattle.desk_epoch_node.specs.Replacements.{ends_epoch}
use Rattle.desk_epoch_stores.specs.EpochEnds.{reported_saved}
use Rattle.desk_epoch_replica.specs.Follows.{BeginsReported, ReplicaFollows, StaysInEpoch}
use Rattle.desk_epoch_replica.specs.MemberValue.{MemberValue}
use Rattle.desk_epoch_replica.specs.ReplicaValue.{HasSameStores, ReplicaValue}
use Rattle.desk_epoch_replica.specs.Saves.{IsSavedReplica, SavesReplica, StandsAfter, replica_base, replica_cut}

same_node_further : (a b c : NodeValue) → IsSameNode a b → IsSameNode b c → IsSameNode a c
same_node_further a b c h k = record {
  domain_is = k.domain_is ∙ h.domain_is;
  id_is = k.id_is ∙ h.id_is;
  n_is = k.n_is ∙ h.n_is;
}

same_stores_further : {T S : Type 0} (old mid new : ReplicaValue T S) → HasSameStores old mid →
    HasSameStores mid new → HasSameStores old new
same_stores_further old mid new h k = record {
  stores_are = k.stores_are ∙ h.stores_are;
  current_is = k.current_is ∙ h.current_is;
  next_is = k.next_is ∙ h.next_is;
}

epoch_still : (e : EpochValue) → StaysInEpoch e e
epoch_still e = record {
  same = record { domain_is = refl; id_is = refl; n_is = refl };
  epoch_is = refl;
  past_is = refl;
  most_is = refl;
  token_is = refl;
  committed = prefix_refl (committed_entries e.node.saved);
}

epoch_further : (old mid new : EpochValue) → StaysInEpoch old mid → StaysInEpoch mid new → StaysInEpoch old new
epoch_further old mid new h k = record {
  same = same_node_further old.node mid.node new.node h.same k.same;
  epoch_is = k.epoch_is ∙ h.epoch_is;
  past_is = k.past_is ∙ h.past_is;
  most_is = k.most_is ∙ h.most_is;
  token_is = k.token_is ∙ h.token_is;
  committed = prefix_trans (committed_entries old.node.saved) (committed_entries mid.node.saved)
      (committed_entries new.node.saved) h.committed k.committed;
}

-- A log is told after the node stayed in its epoch for a while,
stays_then_begins : (log : List Entry) (old mid new : EpochValue) → StaysInEpoch old mid →
    BeginsReported log mid new → BeginsReported log old new
stays_then_begins log old mid new h k = record {
  same = same_node_further old.node mid.node new.node h.same k.same;
  epoch_is = k.epoch_is ∙ ap (λ n. n + 1) h.epoch_is;
  past_is = λ past s. k.past_is past (subst (λ (p : PastValue). StandFor past p) (sym h.past_is) s);
  length_is = k.length_is ∙ ap (λ (p : PastValue). p.length + length log) h.past_is;
  most_is = k.most_is ∙ h.most_is;
  token_is = k.token_is ∙ h.token_is;
  committed = prefix_trans (committed_entries old.node.saved) (committed_entries mid.node.saved) log h.committed
      k.committed;
}

-- or before it does.
begins_then_stays : (log : List Entry) (old mid new : EpochValue) → BeginsReported log old mid →
    StaysInEpoch mid new → BeginsReported log old new
begins_then_stays log old mid new h k = record {
  same = same_node_further old.node mid.node new.node h.same k.same;
  epoch_is = k.epoch_is ∙ h.epoch_is;
  past_is = λ past s. subst (λ (p : PastValue). StandFor (past ++ log) p) (sym k.past_is) (h.past_is past s);
  length_is = ap (λ (p : PastValue). p.length) k.past_is ∙ h.length_is;
  most_is = k.most_is ∙ h.most_is;
  token_is = k.token_is ∙ h.token_is;
  committed = h.committed;
}

pub replica_still : {T S : Type 0} (r : ReplicaValue T S) → ReplicaFollows r r
replica_still r = (
  record { stores_are = refl; current_is = refl; next_is = refl },
  inl (record { node = epoch_still r.member.node; reported_is = refl; unsaved_is = refl }),
)

pub replica_further : {T S : Type 0} (old mid new : ReplicaValue T S) → ReplicaFollows old mid →
    ReplicaFollows mid new → ReplicaFollows old new
replica_further old mid new (s, inl h) (t, inl k) = (
  same_stores_further old mid new s t,
  inl (record {
    node = epoch_further old.member.node mid.member.node new.member.node h.node k.node;
    reported_is = k.reported_is ∙ h.reported_is;
    unsaved_is = k.unsaved_is ∙ h.unsaved_is;
  }),
)
replica_further old mid new (s, inl h) (t, inr k) = (
  same_stores_further old mid new s t,
  inr (record {
    log = k.log;
    node = stays_then_begins k.log old.member.node mid.member.node new.member.node h.node k.node;
    none = sym h.reported_is ∙ k.none;
    ready = ap is_some (sym s.next_is) ∙ k.ready;
    reported_is = k.reported_is;
    unsaved_is = k.unsaved_is;
  }),
)
replica_further old mid new (s, inr h) (t, inl k) = (
  same_stores_further old mid new s t,
  inr (record {
    log = h.log;
    node = begins_then_stays h.log old.member.node mid.member.node new.member.node h.node k.node;
    none = h.none;
    ready = h.ready;
    reported_is = k.reported_is ∙ h.reported_is;
    unsaved_is = k.unsaved_is ∙ h.unsaved_is;
  }),
)
replica_further old mid new (s, inr h) (t, inr k) =
    absurd (none-some (reported_saved h.log) (sym k.none ∙ h.reported_is))

pub after_past : (past xs ys : List Entry) → IsLogPrefix xs ys → IsLogPrefix (past ++ xs) (past ++ ys)
after_past [] xs ys f = f
after_past (e ∷ es) xs ys f = (refl, after_past es xs ys f)

stays_keeps : (past : List Entry) (old new : EpochValue) → StandFor past old.past → StaysInEpoch old new →
    KeepsHistory past old new
stays_keeps past old new s h = (
  past,
  subst (λ (p : PastValue). StandFor past p) (sym h.past_is) s,
  subst (λ (most : ℕ). IsLogPrefix (past ++ committed_cut old) (past ++ cut_of most (committed_entries new.node.saved)))
      (sym h.most_is)
      (after_past past (committed_cut old) (cut_of old.most (committed_entries new.node.saved))
      (cut_prefix ends_epoch old.most (committed_entries old.node.saved) (committed_entries new.node.saved)
      h.committed)),
)

begins_keeps : (past log : List Entry) (old new : EpochValue) → StandFor past old.past → BeginsReported log old new →
    KeepsHistory past old new
begins_keeps past log old new s h = (
  past ++ log,
  h.past_is past s,
  prefix_trans (past ++ committed_cut old) (past ++ log) ((past ++ log) ++ committed_cut new)
      (after_past past (committed_cut old) log
      (prefix_trans (committed_cut old) (committed_entries old.node.saved) log
      (cut_is_prefix ends_epoch old.most (committed_entries old.node.saved)) h.committed))
      (prefix_append (past ++ log) (committed_cut new)),
)

-- What the replica has committed over all epochs stays committed.
pub replica_history_goes_on : {T S : Type 0} (old new : ReplicaValue T S) (past : List Entry) → ReplicaFollows old new →
    StandsAfter old past → KeepsHistory past old.member.node new.member.node
replica_history_goes_on old new past (s, inl h) stands =
    stays_keeps past old.member.node new.member.node stands h.node
replica_history_goes_on old new past (s, inr h) stands =
    begins_keeps past h.log old.member.node new.member.node stands h.node

pub past_counts : {T S : Type 0} (r : ReplicaValue T S) (past : List Entry) → StandsAfter r past →
    length past ≡ replica_base r
past_counts r past stands = sym stands.length_is

pub replica_saved_last : {T S : Type 0} (g : Ghosts S) (old new : ReplicaValue T S) → SavesReplica g old new →
    IsSavedReplica g new
replica_saved_last g old new saves = saves.saved

pub replica_saved_same : {T S : Type 0} (g : Ghosts S) (old new : ReplicaValue T S) → SavesReplica g old new →
    (replica_base new ≡ replica_base old) × (replica_cut new ≡ replica_cut old)
replica_saved_same g old new saves = (
  ap (λ (m : MemberValue). m.node.past.length) saves.member_is,
  ap (λ (m : MemberValue). committed_cut m.node) saves.member_is,
)
