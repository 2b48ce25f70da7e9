-- A replica over epochs as what a keeper does its items to and saves.
use Rattle.std.specs.Prelude.{◌≡◌, ◌⊎◌, ◌≤◌, ◌+◌, ◌-◌, ◌++◌, ℕ, Bool, true, false, if◌then◌else◌, List, [], ◌∷◌, length}
use Rattle.std.specs.Prelude.{Option, Some, None}
use Rattle.std.proofs.Common.{refl, ap, ◌∙◌, sym, subst, append-nil, length-append, arith, inl, inr}
use Rattle.std.proofs.Props.{props}
use mathlib.Core.List.{IsPrefix}
use Rattle.desk_types.specs.declared.command.Entry.{Entry}
use Rattle.desk_types.specs.declared.epoch_packet.EpochPacket.{EpochPacket}
use Rattle.desk_types.specs.declared.refusal.Refusal.{Refusal}
use Rattle.desk_types.specs.declared.refusal.Refusal.TheVariants as refusals
use Rattle.desk_log.specs.Entries.{IsLogPrefix}
use Rattle.desk_log.specs.SavedValue.{SavedValue, committed_entries}
use Rattle.desk_log.specs.declared.state_store.StateStore.{Ghosts}
use Rattle.desk_log.proofs.Prefixes.{prefix_append, prefix_trans}
use Rattle.desk_node.specs.NodeValue.{NodeValue, IsSameNode}
use Rattle.desk_replica.specs.Owners.{owner_of_node}
use Rattle.desk_replica.specs.Saving.{Saving, LogsGoOn, ForgetsReported, entries_or}
use Rattle.desk_epochs.proofs.Histories.{cut_prefix}
use Rattle.desk_epochs.proofs.RisingHistories.{cut_is_prefix}
use Rattle.desk_epoch_node.specs.Ends.{cut_of}
use Rattle.desk_epoch_node.specs.EpochValue.{EpochValue, committed_cut}
use Rattle.desk_epoch_node.specs.PastRows.{PastValue, StandFor}
use Rattle.desk_epoch_node.specs.Replacements.{ends_epoch}
use Rattle.desk_epoch_replica.specs.declared.deferring_replica.DeferringReplica.{DeferringReplica}
use Rattle.desk_epoch_replica.specs.Deferring.{DeferringFollows, DeferringRefuses, RunsOn}
use Rattle.desk_epoch_replica.specs.Follows.{ReplicaFollows, StaysInEpoch}
use Rattle.desk_epoch_replica.specs.InOrder.{after_past, replica_still, replica_further}
use Rattle.desk_epoch_replica.specs.MemberValue.{MemberValue}
use Rattle.desk_epoch_replica.specs.declared.replica_step.ReplicaStep.{ReplicaStep}
use Rattle.desk_epoch_replica.specs.Outgoing.{step_packets}
use Rattle.desk_epoch_replica.specs.ReplicaValue.{ReplicaValue, preparation_fault, with_stores}
use Rattle.desk_epoch_replica.specs.Saves.{FailsToBegin, FailsToPrepare, FailsToSaveReplica, IsPrepared}
use Rattle.desk_epoch_replica.specs.Saves.{IsSavedReplica, PreparesReplica, ReplicaBegins, SavesReplica, StoreFollows}
use Rattle.desk_epoch_replica.specs.Saves.{may_begin, replica_cut}

-- the log that another node reported, as long as not all of it is published; else no entries
abbrev pub log_of_state : Option SavedValue → List Entry
log_of_state None = []
log_of_state (Some s) = s.log

abbrev pub reported_of : {T S : Type 0} → ReplicaValue T S → List Entry
reported_of r = log_of_state r.reported

-- The log that was reported is one of its past.
abbrev pub IsInPast : {T S : Type 0} → ReplicaValue T S → Type 0
IsInPast r = length (reported_of r) ≤ r.member.node.past.length

-- how many entries the logs before that one have
abbrev pub base_of : {T S : Type 0} → ReplicaValue T S → ℕ
base_of r = r.member.node.past.length - length (reported_of r)

-- how many epochs have a state that was saved
abbrev pub saved_epochs : {T S : Type 0} → ReplicaValue T S → ℕ
saved_epochs r = if r.unsaved then r.member.node.epoch else r.member.node.epoch + 1

-- The replica's state is the one that was saved last, and what was reported is one of its past logs.
abbrev pub IsSavedDeferring : {T S : Type 0} → Ghosts S → DeferringReplica T S → Type 0
IsSavedDeferring g r = IsSavedReplica g r.replica × IsInPast r.replica

-- The replica was saved, and the same requests are held.
abbrev pub SavesDeferring : {T S : Type 0} → Ghosts S → DeferringReplica T S → DeferringReplica T S → Type 0
SavesDeferring g old new =
    SavesReplica g old.replica new.replica × IsInPast new.replica × (new.deferred ≡ old.deferred)

-- The save of the replica failed, and the same requests are held.
abbrev pub FailsToSaveDeferring : {T S : Type 0} → Ghosts S → DeferringReplica T S → DeferringReplica T S → Type 0
FailsToSaveDeferring g old new =
    FailsToSaveReplica g old.replica new.replica × (new.deferred ≡ old.deferred)

-- What its epoch's store is to keep stood, as long as it is in that epoch.
abbrev pub KeepsStore : {T S : Type 0} → (S → S → Type 0) → ReplicaValue T S → ReplicaValue T S → Type 0
KeepsStore keeps old new =
    (saved_epochs old ≤ saved_epochs new) × (saved_epochs new ≡ saved_epochs old → keeps old.current new.current)

-- the replica, to which no log is reported
abbrev pub forgotten : {T S : Type 0} → ReplicaValue T S → ReplicaValue T S
forgotten r = record {
  member = r.member;
  stores = r.stores;
  current = r.current;
  next = r.next;
  reported = None;
  unsaved = false;
}

-- It forgot the log that was reported, which is saved and one of its past.
pub record ForgetsLog {T S : Type 0} (old new : DeferringReplica T S) : Type 0 where
  pub replica : new.replica ≡ forgotten old.replica
  pub saved : old.replica.unsaved ≡ false
  pub past : IsInPast old.replica
  pub deferred : new.deferred ≡ old.deferred

-- The replica began the next epoch, for which these packets go out, and the same requests are held.
pub record BeginsDeferring {T S : Type 0} (g : Ghosts S) (old : DeferringReplica T S)
    (packets : List (ℕ × EpochPacket)) (new : DeferringReplica T S) : Type 0
  where
    pub step : ReplicaStep
    pub begins : ReplicaBegins g old.replica step new.replica
    pub packets_are : packets ≡ step_packets step
    pub deferred_are : new.deferred ≡ old.deferred

-- The replica may have opened the next store, and the same requests are held.
abbrev pub PreparesDeferring : {T S : Type 0} → (T → ℕ → SavedValue → Type 0) → DeferringReplica T S →
    DeferringReplica T S → Type 0
PreparesDeferring may_hold old new =
    PreparesReplica may_hold old.replica new.replica × (new.deferred ≡ old.deferred)

-- The replica could not begin the next epoch, where its save failed, or not prepare a beginning, and the same requests
-- are held.
abbrev pub StopsDeferring : {T S : Type 0} → (T → ℕ → SavedValue → Type 0) → Refusal → DeferringReplica T S →
    DeferringReplica T S → Type 0
StopsDeferring may_hold fault old new =
    (((fault ≡ refusals.StoreFault) × FailsToBegin old.replica new.replica)
    ⊎ ((fault ≡ preparation_fault old.replica) × FailsToPrepare may_hold old.replica new.replica))
    × (new.deferred ≡ old.deferred)

pub stands_before_prop : {T S : Type 0} (r : DeferringReplica T S) (past : List Entry) →
    IsProp (StandFor (past ++ reported_of r.replica) r.replica.member.node.past)
stands_before_prop r past = Prim.hlevel props

pub IsSavedDeferring-prop : {T S : Type 0} (g : Ghosts S) (r : DeferringReplica T S) → IsProp (IsSavedDeferring g r)
IsSavedDeferring-prop g r = Prim.hlevel props

-- A replica's state, its logs, and what its stores make of them.
abbrev pub deferring_saving : {T S : Type 0} → (T → ℕ → SavedValue → Type 0) → Ghosts S →
    Saving (DeferringReplica T S)
deferring_saving may_hold g = record {
  owner = λ r. owner_of_node r.replica.member.node.node;
  stands = λ r past. StandFor (past ++ reported_of r.replica) r.replica.member.node.past;
  base = λ r. base_of r.replica;
  reported = λ r. reported_of r.replica;
  cut = λ r. replica_cut r.replica;
  is_saved = IsSavedDeferring g;
  saves = SavesDeferring g;
  fails = FailsToSaveDeferring g;
  keeps = λ old new. KeepsStore g.keeps old.replica new.replica;
  forgets = ForgetsLog;
  may_begin = λ r. may_begin r.replica;
  begins = BeginsDeferring g;
  prepares = PreparesDeferring may_hold;
  is_ready = λ r. IsPrepared r.replica;
  stops = StopsDeferring may_hold;
  stands_prop = stands_before_prop;
  saved_prop = IsSavedDeferring-prop g;
}

prefix_of : (xs ys : List Entry) → IsLogPrefix xs ys → IsPrefix xs ys
prefix_of [] ys h = (ys, refl)
prefix_of (x ∷ xs) [] h = absurd h
prefix_of (x ∷ xs) (y ∷ ys) h =
    let r = prefix_of xs ys h.1 in
    (r.0, cc (h.0, r.1))

prefix_same : (xs : List Entry) → IsPrefix xs xs
prefix_same xs = ([], append-nil xs)

moved : {T S : Type 0} (stores : T) (old new : ReplicaValue T S) → ReplicaFollows old new →
    ReplicaFollows (with_stores stores old) (with_stores stores new)
moved stores old new (same, inl h) = (
  record { stores_are = refl; current_is = same.current_is; next_is = same.next_is },
  inl (record { node = h.node; reported_is = h.reported_is; unsaved_is = h.unsaved_is }),
)
moved stores old new (same, inr h) = (
  record { stores_are = refl; current_is = same.current_is; next_is = same.next_is },
  inr (record {
    log = h.log;
    node = h.node;
    none = h.none;
    ready = h.ready;
    reported_is = h.reported_is;
    unsaved_is = h.unsaved_is;
  }),
)

pub deferring_still : {T S : Type 0} (may_hold : T → ℕ → SavedValue → Type 0) (r : DeferringReplica T S) →
    DeferringFollows may_hold r r
deferring_still may_hold r = (λ e s h. h, replica_still r.replica)

pub runs_further : {T S : Type 0} (may_hold : T → ℕ → SavedValue → Type 0) (old mid new : ReplicaValue T S) →
    RunsOn may_hold old mid → RunsOn may_hold mid new → RunsOn may_hold old new
runs_further may_hold old mid new (a, f) (b, g) = (
  λ e s h. a e s (b e s h),
  replica_further (with_stores new.stores old) (with_stores new.stores mid) new
      (moved new.stores (with_stores mid.stores old) mid f) g,
)

pub deferring_further : {T S : Type 0} (may_hold : T → ℕ → SavedValue → Type 0) (old mid new : DeferringReplica T S) →
    DeferringFollows may_hold old mid → DeferringFollows may_hold mid new → DeferringFollows may_hold old new
deferring_further may_hold old mid new f g = runs_further may_hold old.replica mid.replica new.replica f g

pub deferring_past_counts : {T S : Type 0} (r : DeferringReplica T S) (past : List Entry) →
    StandFor (past ++ reported_of r.replica) r.replica.member.node.past → length past ≡ base_of r.replica
deferring_past_counts r past stands =
    omega (arith, stands.length_is, length-append past (reported_of r.replica))

pub deferring_saved_last : {T S : Type 0} (g : Ghosts S) (old new : DeferringReplica T S) → SavesDeferring g old new →
    IsSavedDeferring g new
deferring_saved_last g old new saves = (saves.0.saved, saves.1)

pub same_base : {T S : Type 0} (old new : ReplicaValue T S) → new.member ≡ old.member → new.reported ≡ old.reported →
    base_of new ≡ base_of old
same_base old new m r =
    ap (λ (k : MemberValue). k.node.past.length - length (reported_of new)) m
    ∙ ap (λ (o : Option SavedValue). old.member.node.past.length - length (log_of_state o)) r

pub deferring_saved_same : {T S : Type 0} (g : Ghosts S) (old new : DeferringReplica T S) → SavesDeferring g old new →
    (base_of new.replica ≡ base_of old.replica) × (reported_of new.replica ≡ reported_of old.replica)
    × (replica_cut new.replica ≡ replica_cut old.replica)
deferring_saved_same g old new saves = (
  same_base old.replica new.replica saves.0.member_is saves.0.reported_is,
  ap log_of_state saves.0.reported_is,
  ap (λ (k : MemberValue). committed_cut k.node) saves.0.member_is,
)

pub same_in_past : {T S : Type 0} (old new : ReplicaValue T S) → new.member.node.past ≡ old.member.node.past →
    new.reported ≡ old.reported → IsInPast old → IsInPast new
same_in_past old new p r is =
    subst (λ (k : PastValue). length (reported_of new) ≤ k.length) (sym p)
    (subst (λ (o : Option SavedValue). length (log_of_state o) ≤ old.member.node.past.length) (sym r) is)

pub deferring_refused_saved : {T S : Type 0} (g : Ghosts S) (old new : DeferringReplica T S) →
    DeferringRefuses old new → IsSavedDeferring g old → IsSavedDeferring g new
deferring_refused_saved g old new refused is =
    let r = refused.0 in (
      record {
        last = ap g.last r.stores.current_is ∙ is.0.last
            ∙ ap (λ (k : MemberValue). k.node.node.saved) (sym r.member_is);
        running = ap g.stopped r.stores.current_is ∙ is.0.running;
        saved = r.unsaved_is ∙ is.0.saved;
      },
      same_in_past old.replica new.replica (ap (λ (k : MemberValue). k.node.past) r.member_is) r.reported_is is.1,
    )

same_owner : (old new : NodeValue) → IsSameNode old new → owner_of_node new ≡ owner_of_node old
same_owner old new same =
    ap (λ (i : ℕ). record { id = i; n = new.n; domain = new.domain }) same.id_is
    ∙ ap (λ (n : ℕ). record { id = old.id; n = n; domain = new.domain }) same.n_is
    ∙ ap (λ (d : List ℕ). record { id = old.id; n = old.n; domain = d }) same.domain_is

owner_on : {T S : Type 0} (old new : ReplicaValue T S) → ReplicaFollows old new →
    owner_of_node new.member.node.node ≡ owner_of_node old.member.node.node
owner_on old new (same, inl h) = same_owner old.member.node.node new.member.node.node h.node.same
owner_on old new (same, inr h) = same_owner old.member.node.node new.member.node.node h.node.same

base_on : {T S : Type 0} (old new : ReplicaValue T S) → ReplicaFollows old new → base_of new ≡ base_of old
base_on old new (same, inl h) =
    ap (λ (p : PastValue). p.length - length (reported_of new)) h.node.past_is
    ∙ ap (λ (o : Option SavedValue). old.member.node.past.length - length (log_of_state o)) h.reported_is
base_on old new (same, inr h) =
    let now : length (reported_of new) ≡ length h.log =
    ap (λ (o : Option SavedValue). length (log_of_state o)) h.reported_is in
    let before : length (reported_of old) ≡ 0 = ap (λ (o : Option SavedValue). length (log_of_state o)) h.none in
    omega (arith, h.node.length_is, now, before)

stays_cut : (old new : EpochValue) → StaysInEpoch old new → IsLogPrefix (committed_cut old) (committed_cut new)
stays_cut old new h =
    subst (λ (most : ℕ). IsLogPrefix (committed_cut old) (cut_of most (committed_entries new.node.saved)))
    (sym h.most_is)
    (cut_prefix ends_epoch old.most (committed_entries old.node.saved) (committed_entries new.node.saved) h.committed)

cut_begins : (e : EpochValue) (log : List Entry) → IsLogPrefix (committed_entries e.node.saved) log →
    IsLogPrefix (committed_cut e) log
cut_begins e log f =
    prefix_trans (committed_cut e) (committed_entries e.node.saved) log
    (cut_is_prefix ends_epoch e.most (committed_entries e.node.saved)) f

after_on : {T S : Type 0} (old new : ReplicaValue T S) → ReplicaFollows old new →
    IsPrefix (reported_of old ++ replica_cut old) (reported_of new ++ replica_cut new)
after_on old new (same, inl h) =
    subst (λ (o : Option SavedValue). IsPrefix (reported_of old ++ replica_cut old) (log_of_state o ++ replica_cut new))
    (sym h.reported_is)
    (prefix_of (reported_of old ++ replica_cut old) (reported_of old ++ replica_cut new)
    (after_past (reported_of old) (replica_cut old) (replica_cut new)
    (stays_cut old.member.node new.member.node h.node)))
after_on old new (same, inr h) =
    subst (λ (o : Option SavedValue). IsPrefix (log_of_state o ++ replica_cut old) (reported_of new ++ replica_cut new))
    (sym h.none)
    (subst (λ (o : Option SavedValue). IsPrefix (replica_cut old) (log_of_state o ++ replica_cut new))
    (sym h.reported_is)
    (prefix_of (replica_cut old) (h.log ++ replica_cut new)
    (prefix_trans (replica_cut old) h.log (h.log ++ replica_cut new)
    (cut_begins old.member.node h.log h.node.committed) (prefix_append h.log (replica_cut new)))))

or_prefix : (front xs ys : List Entry) → IsPrefix xs ys → IsPrefix (entries_or front xs) (entries_or front ys)
or_prefix [] xs ys h = h
or_prefix (e ∷ es) xs ys h = prefix_same (e ∷ es)

or_begins : (xs log ys : List Entry) → IsLogPrefix xs log → IsPrefix xs (entries_or log ys)
or_begins [] [] ys h = (ys, refl)
or_begins (x ∷ xs) [] ys h = absurd h
or_begins xs (e ∷ es) ys h = prefix_of xs (e ∷ es) h

next_on : {T S : Type 0} (old new : ReplicaValue T S) → ReplicaFollows old new →
    IsPrefix (entries_or (reported_of old) (replica_cut old)) (entries_or (reported_of new) (replica_cut new))
next_on old new (same, inl h) =
    subst (λ (o : Option SavedValue). IsPrefix (entries_or (reported_of old) (replica_cut old))
    (entries_or (log_of_state o) (replica_cut new))) (sym h.reported_is)
    (or_prefix (reported_of old) (replica_cut old) (replica_cut new)
    (prefix_of (replica_cut old) (replica_cut new) (stays_cut old.member.node new.member.node h.node)))
next_on old new (same, inr h) =
    subst (λ (o : Option SavedValue). IsPrefix (entries_or (log_of_state o) (replica_cut old))
    (entries_or (reported_of new) (replica_cut new))) (sym h.none)
    (subst (λ (o : Option SavedValue). IsPrefix (replica_cut old) (entries_or (log_of_state o) (replica_cut new)))
    (sym h.reported_is)
    (or_begins (replica_cut old) h.log (replica_cut new) (cut_begins old.member.node h.log h.node.committed)))

stands_on : {T S : Type 0} (past : List Entry) (old new : ReplicaValue T S) → ReplicaFollows old new →
    StandFor (past ++ reported_of old) old.member.node.past → StandFor (past ++ reported_of new) new.member.node.past
stands_on past old new (same, inl h) stands =
    subst (λ (o : Option SavedValue). StandFor (past ++ log_of_state o) new.member.node.past) (sym h.reported_is)
    (subst (λ (p : PastValue). StandFor (past ++ reported_of old) p) (sym h.node.past_is) stands)
stands_on past old new (same, inr h) stands =
    let before : StandFor past old.member.node.past =
    subst (λ (xs : List Entry). StandFor xs old.member.node.past) (append-nil past)
    (subst (λ (o : Option SavedValue). StandFor (past ++ log_of_state o) old.member.node.past) h.none stands) in
    subst (λ (o : Option SavedValue). StandFor (past ++ log_of_state o) new.member.node.past) (sym h.reported_is)
    (h.node.past_is past before)

pub deferring_followed_on : {T S : Type 0} (may_hold : T → ℕ → SavedValue → Type 0) (g : Ghosts S)
    (old new : DeferringReplica T S) → DeferringFollows may_hold old new →
    LogsGoOn (deferring_saving may_hold g) old new
deferring_followed_on {T} {S} may_hold g old new follows =
    let before : ReplicaValue T S = with_stores new.replica.stores old.replica in
    let f : ReplicaFollows before new.replica = follows.1 in
    record {
      owner = owner_on before new.replica f;
      base = base_on before new.replica f;
      after = after_on before new.replica f;
      next = next_on before new.replica f;
      stands = λ past stands. stands_on past before new.replica f stands;
    }

same_on : {T S : Type 0} (may_hold : T → ℕ → SavedValue → Type 0) (g : Ghosts S) (old new : DeferringReplica T S) →
    new.replica.member ≡ old.replica.member → new.replica.reported ≡ old.replica.reported →
    LogsGoOn (deferring_saving may_hold g) old new
same_on may_hold g old new m r =
    let cut : replica_cut new.replica ≡ replica_cut old.replica =
    ap (λ (k : MemberValue). committed_cut k.node) m in
    let log : reported_of new.replica ≡ reported_of old.replica = ap log_of_state r in
    record {
      owner = ap (λ (k : MemberValue). owner_of_node k.node.node) m;
      base = same_base old.replica new.replica m r;
      after = subst (λ (xs : List Entry). IsPrefix (reported_of old.replica ++ replica_cut old.replica)
          (xs ++ replica_cut new.replica)) (sym log)
          (subst (λ (xs : List Entry). IsPrefix (reported_of old.replica ++ replica_cut old.replica)
          (reported_of old.replica ++ xs)) (sym cut)
          (prefix_same (reported_of old.replica ++ replica_cut old.replica)));
      next = subst (λ (xs : List Entry). IsPrefix (entries_or (reported_of old.replica) (replica_cut old.replica))
          (entries_or xs (replica_cut new.replica))) (sym log)
          (subst (λ (xs : List Entry). IsPrefix (entries_or (reported_of old.replica) (replica_cut old.replica))
          (entries_or (reported_of old.replica) xs)) (sym cut)
          (prefix_same (entries_or (reported_of old.replica) (replica_cut old.replica))));
      stands = λ past stands. subst
          (λ (o : Option SavedValue). StandFor (past ++ log_of_state o) new.replica.member.node.past)
          (sym r)
          (subst (λ (k : MemberValue). StandFor (past ++ reported_of old.replica) k.node.past) (sym m) stands);
    }

pub deferring_saved_on : {T S : Type 0} (may_hold : T → ℕ → SavedValue → Type 0) (g : Ghosts S)
    (old new : DeferringReplica T S) → SavesDeferring g old new → LogsGoOn (deferring_saving may_hold g) old new
deferring_saved_on may_hold g old new saves = same_on may_hold g old new saves.0.member_is saves.0.reported_is

pub deferring_failed_on : {T S : Type 0} (may_hold : T → ℕ → SavedValue → Type 0) (g : Ghosts S)
    (old new : DeferringReplica T S) → FailsToSaveDeferring g old new → LogsGoOn (deferring_saving may_hold g) old new
deferring_failed_on may_hold g old new fails = same_on may_hold g old new fails.0.member_is fails.0.reported_is

pub deferring_forgotten_on : {T S : Type 0} (may_hold : T → ℕ → SavedValue → Type 0) (g : Ghosts S) →
    ((a : S) → g.keeps a a) → (old new : DeferringReplica T S) → ForgetsLog old new →
    ForgetsReported (deferring_saving may_hold g) old new
deferring_forgotten_on {T} {S} may_hold g still old new f =
    let log : List Entry = reported_of old.replica in
    let epoch : ℕ = old.replica.member.node.epoch in
    record {
      owner = ap (λ (r : ReplicaValue T S). owner_of_node r.member.node.node) f.replica;
      base = ap (λ (r : ReplicaValue T S). base_of r) f.replica ∙ omega (arith, f.past);
      reported = ap (λ (r : ReplicaValue T S). reported_of r) f.replica;
      cut = ap (λ (r : ReplicaValue T S). replica_cut r) f.replica;
      stands = λ past stands. subst
          (λ (r : ReplicaValue T S). StandFor ((past ++ log) ++ reported_of r) r.member.node.past)
          (sym f.replica)
          (subst (λ (xs : List Entry). StandFor xs old.replica.member.node.past)
          (sym (append-nil (past ++ log))) stands);
      saved = λ is. subst (λ (r : ReplicaValue T S). IsSavedReplica g r × IsInPast r) (sym f.replica)
          (record { last = is.0.last; running = is.0.running; saved = refl }, omega arith);
      keeps = subst (λ (r : ReplicaValue T S). KeepsStore g.keeps old.replica r) (sym f.replica) (
        subst (λ (u : Bool). (if u then epoch else epoch + 1) ≤ epoch + 1) (sym f.saved) (omega arith),
        λ same. still old.replica.current,
      );
    }

pub epochs_within : (unsaved : Bool) (epoch : ℕ) → (if unsaved then epoch else epoch + 1) ≤ epoch + 1
epochs_within true epoch = omega arith
epochs_within false epoch = omega arith

epochs_on : {T S : Type 0} (old new : ReplicaValue T S) → ReplicaFollows old new → saved_epochs old ≤ saved_epochs new
epochs_on old new (same, inl h) =
    let e : saved_epochs new ≡ saved_epochs old =
    ap (λ (u : Bool). if u then new.member.node.epoch else new.member.node.epoch + 1) h.unsaved_is
    ∙ ap (λ (n : ℕ). if old.unsaved then n else n + 1) h.node.epoch_is in
    subst (λ (n : ℕ). saved_epochs old ≤ n) (sym e) (omega arith)
epochs_on old new (same, inr h) =
    let e : saved_epochs new ≡ old.member.node.epoch + 1 =
    ap (λ (u : Bool). if u then new.member.node.epoch else new.member.node.epoch + 1) h.unsaved_is
    ∙ h.node.epoch_is in
    subst (λ (n : ℕ). saved_epochs old ≤ n) (sym e) (epochs_within old.unsaved old.member.node.epoch)

pub deferring_followed_keeps : {T S : Type 0} (keeps : S → S → Type 0) → ((a : S) → keeps a a) →
    (may_hold : T → ℕ → SavedValue → Type 0) (old new : DeferringReplica T S) → DeferringFollows may_hold old new →
    KeepsStore keeps old.replica new.replica
deferring_followed_keeps keeps still may_hold old new follows = (
  epochs_on (with_stores new.replica.stores old.replica) new.replica follows.1,
  λ same. subst (keeps old.replica.current) (sym follows.1.0.current_is) (still old.replica.current),
)

keeps_by : {S : Type 0} (g : Ghosts S) (unsaved : Bool) (reported : Option SavedValue) (epoch saved : ℕ) (old new : S) →
    StoreFollows g (if unsaved then reported else None) old new → saved ≡ epoch + 1 →
    ((if unsaved then epoch else epoch + 1) ≤ saved)
    × (saved ≡ (if unsaved then epoch else epoch + 1) → g.keeps old new)
keeps_by g false reported epoch saved old new store is = (omega (arith, is), λ same. store)
keeps_by g true reported epoch saved old new store is =
    (omega (arith, is), λ same. absurd (let none : ⊥ = omega (arith, is, same) in none))

pub deferring_saved_keeps : {T S : Type 0} (g : Ghosts S) (old new : DeferringReplica T S) → SavesDeferring g old new →
    KeepsStore g.keeps old.replica new.replica
deferring_saved_keeps g old new saves =
    keeps_by g old.replica.unsaved old.replica.reported old.replica.member.node.epoch (saved_epochs new.replica)
    old.replica.current new.replica.current saves.0.store
    (ap (λ (u : Bool). if u then new.replica.member.node.epoch else new.replica.member.node.epoch + 1)
    saves.0.saved.saved
    ∙ ap (λ (k : MemberValue). k.node.epoch + 1) saves.0.member_is)

pub deferring_keeps_further : {T S : Type 0} (keeps : S → S → Type 0) →
    ((a b c : S) → keeps a b → keeps b c → keeps a c) → (old mid new : DeferringReplica T S) →
    KeepsStore keeps old.replica mid.replica → KeepsStore keeps mid.replica new.replica →
    KeepsStore keeps old.replica new.replica
deferring_keeps_further keeps further old mid new a b = (
  omega (arith, a.0, b.0),
  λ same. further old.replica.current mid.replica.current new.replica.current (a.1 (omega (arith, a.0, b.0, same)))
      (b.1 (omega (arith, a.0, b.0, same))),
)

in_past_on : {T S : Type 0} (old new : ReplicaValue T S) → ReplicaFollows old new → IsInPast old → IsInPast new
in_past_on old new (same, inl h) is = same_in_past old new h.node.past_is h.reported_is is
in_past_on old new (same, inr h) is =
    subst (λ (o : Option SavedValue). length (log_of_state o) ≤ new.member.node.past.length) (sym h.reported_is)
    (omega (arith, h.node.length_is))

-- What was saved may be saved again after what followed it, with other stores of other epochs.
pub saved_before : {T S : Type 0} (may_hold : T → ℕ → SavedValue → Type 0) (g : Ghosts S) (stores : T)
    (r : ReplicaValue T S) → IsSavedReplica g r → IsSavedReplica g (with_stores stores r)
saved_before may_hold g stores r is = record { last = is.last; running = is.running; saved = is.saved }

-- and what is reported then is one of its past logs
pub saves_in_past : {T S : Type 0} (may_hold : T → ℕ → SavedValue → Type 0) (g : Ghosts S)
    (before old new : ReplicaValue T S) → IsInPast before → RunsOn may_hold before old → SavesReplica g old new →
    IsInPast new
saves_in_past may_hold g before old new is runs saves =
    same_in_past old new (ap (λ (k : MemberValue). k.node.past) saves.member_is) saves.reported_is
    (in_past_on (with_stores old.stores before) old runs.1 is)
