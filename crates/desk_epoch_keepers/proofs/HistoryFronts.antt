-- What a keeper has published, as the first entries of what its node has committed of all epochs.
use Rattle.std.proofs.Common.{◌≡◌, ◌+◌, ◌≤◌, ◌∙◌, ℕ, Bool, true, false, cond, eqb, List, [], ◌∷◌, ◌++◌, Option}
use Rattle.std.proofs.Common.{Some, None, MatchBool, append_assoc, append-nil, ap, arith, inl, inr, length}
use Rattle.std.proofs.Common.{length-append, refl, subst, sym, take}
use mathlib.Core.List.{IsPrefix}
use Rattle.desk_types.specs.declared.command.Entry.{Entry}
use Rattle.desk_types.specs.declared.epoch_packet.EpochPacket.{EpochPacket}
use Rattle.desk_log.specs.SavedValue.{SavedValue}
use Rattle.desk_log.specs.declared.state_store.StateStore.{Ghosts}
use Rattle.desk_mailbox.specs.declared.item.Item.{Item}
use Rattle.desk_replica.specs.Saving as saving
use Rattle.desk_epochs.specs.Epochs.{joined_logs}
use Rattle.desk_epochs.proofs.Epochs.{joined_push}
use Rattle.desk_epoch_node.specs.EpochValue.{EpochValue, committed_cut}
use Rattle.desk_epoch_replica.specs.declared.deferring_replica.DeferringReplica.{DeferringReplica}
use Rattle.desk_epoch_replica.specs.declared.replica_step.ReplicaStep.{ReplicaStep}
use Rattle.desk_epoch_replica.specs.declared.replica_step.ReplicaStep.TheVariants as out
use Rattle.desk_epoch_replica.specs.Deferring.{DeferringFollows}
use Rattle.desk_epoch_replica.specs.DeferringBeginnings.{deferring_begun_on}
use Rattle.desk_epoch_replica.specs.DeferringSaves.{BeginsDeferring, ForgetsLog, PreparesDeferring, base_of}
use Rattle.desk_epoch_replica.specs.DeferringSaves.{deferring_followed_on, deferring_saved_on, deferring_saving}
use Rattle.desk_epoch_replica.specs.DeferringSaves.{log_of_state, reported_of, same_base}
use Rattle.desk_epoch_replica.specs.Follows.{ReplicaFollows}
use Rattle.desk_epoch_replica.specs.MemberValue.{MemberValue}
use Rattle.desk_epoch_replica.specs.ReplicaValue.{ReplicaValue, with_stores}
use Rattle.desk_epoch_replica.specs.Saves.{IsBeginning, replica_cut}
use Rattle.desk_threads.specs.declared.handing.Out.{Ghosts as OutGhosts}
use Rattle.desk_threads.specs.Runs.{AdvancesBetween, Stand, TakesTurn}
use Rattle.desk_threads.proofs.PublishedPrefixes.{where_true}
use Rattle.desk_epoch_keepers.specs.Group.{IsStarted, from_saved, in_next_epoch}
use Rattle.desk_epoch_keepers.specs.Group.{logs_after_begin, logs_after_turn, replica_ghosts, replica_node}
use Rattle.desk_epoch_keepers.proofs.GroupNodes.{begin_logs, same_logs}
use Rattle.desk_epoch_keepers.proofs.TurnMoves.{logs_of_turn}

-- These entries are the first of what the node has committed of all epochs. A log that is reported to it is the last of
-- its past.
pub record IsHistoryFront {T S : Type 0} (r : DeferringReplica T S) (logs : List (List Entry)) (list : List Entry) :
    Type 0
  where
    pub front : List Entry
    pub logs_are : joined_logs logs ≡ front ++ reported_of r.replica
    pub base_is : length front ≡ base_of r.replica
    pub saved : r.replica.unsaved ≡ false
    pub shown : IsPrefix list (joined_logs logs ++ committed_cut (replica_node r))

-- a list that begins as another, and is as long, has all of it first
first_of : (front rest list : List Entry) → length front ≤ length list → IsPrefix list (front ++ rest) →
    take (length front) list ≡ front
first_of [] rest list few p = refl
first_of (x ∷ front) rest [] few p = absurd (omega (arith, few))
first_of (x ∷ front) rest (y ∷ list) few p =
    let r = first_of front rest list (omega (arith, few)) (p.0, cc p.1) in
    cc (p.1, r)

-- The logs of its past after the items of a turn: one that was reported in it is the last of them.
made_logs : {T S : Type 0} (may_hold : T → ℕ → SavedValue → Type 0) (old made : DeferringReplica T S)
    (logs : List (List Entry)) (front : List Entry) → DeferringFollows may_hold old made →
    old.replica.unsaved ≡ false → joined_logs logs ≡ front ++ reported_of old.replica →
    joined_logs (logs_after_turn logs made) ≡ front ++ reported_of made.replica
made_logs {T} {S} may_hold old made logs front follows saved are =
    by_case (with_stores made.replica.stores old.replica) refl refl follows.1
  where
    by_case : (before : ReplicaValue T S) → before.reported ≡ old.replica.reported →
        before.unsaved ≡ old.replica.unsaved → ReplicaFollows before made.replica →
        joined_logs (logs_after_turn logs made) ≡ front ++ reported_of made.replica
    by_case before r u (same, inl h) =
        let reported : made.replica.reported ≡ old.replica.reported = h.reported_is ∙ r in
        ap joined_logs
        (sym (logs_of_turn logs None old.replica made saved reported (h.unsaved_is ∙ u)))
        ∙ (are ∙ ap (λ (o : Option SavedValue). front ++ log_of_state o) (sym reported))
    by_case before r u (same, inr h) =
        let none : reported_of old.replica ≡ [] = ap log_of_state (sym r ∙ h.none) in
        let log : reported_of made.replica ≡ h.log = ap log_of_state h.reported_is in
        ap joined_logs (sym (logs_of_turn logs (Some h.log) old.replica made saved h.reported_is h.unsaved_is))
        ∙ (joined_push logs h.log
        ∙ (ap (λ (es : List Entry). es ++ h.log)
        (are ∙ (ap (λ (es : List Entry). front ++ es) none ∙ append-nil front))
        ∙ ap (λ (es : List Entry). front ++ es) (sym log)))

-- It forgot the log that was reported, all of which is published.
forget_front : {T S : Type 0} (old new : DeferringReplica T S) (logs : List (List Entry)) (list : List Entry) →
    IsHistoryFront old logs list → ForgetsLog old new → IsHistoryFront new logs list
forget_front {T} {S} old new logs list f forgets =
    let none : reported_of new.replica ≡ [] = ap (λ (r : ReplicaValue T S). reported_of r) forgets.replica in
    let sum : base_of new.replica ≡ base_of old.replica + length (reported_of old.replica) =
    ap (λ (r : ReplicaValue T S). base_of r) forgets.replica ∙ omega (arith, forgets.past) in
    record {
      front = joined_logs logs;
      logs_are = sym (append-nil (joined_logs logs))
          ∙ ap (λ (es : List Entry). joined_logs logs ++ es) (sym none);
      base_is = omega (
        arith,
        sum,
        ap length f.logs_are,
        length-append f.front (reported_of old.replica),
        f.base_is,
      );
      saved = ap (λ (r : ReplicaValue T S). r.unsaved) forgets.replica;
      shown = subst (λ (e : EpochValue). IsPrefix list (joined_logs logs ++ committed_cut e))
          (sym (ap (λ (r : ReplicaValue T S). r.member.node) forgets.replica)) f.shown;
    }

may_forget_front : {T S : Type 0} (may_hold : T → ℕ → SavedValue → Type 0) (g : Ghosts S)
    (old new : DeferringReplica T S) (logs : List (List Entry)) (list : List Entry) → IsHistoryFront old logs list →
    saving.MayForget (deferring_saving may_hold g) old new → IsHistoryFront new logs list
may_forget_front {T} {S} may_hold g old new logs list f (inl same) =
    subst (λ (r : DeferringReplica T S). IsHistoryFront r logs list) (sym same) f
may_forget_front may_hold g old new logs list f (inr forgets) = forget_front old new logs list f forgets

-- a turn, whatever it hands out
abbrev pub Turn : {O T S : Type 0} → (T → ℕ → SavedValue → Type 0) → Ghosts S → OutGhosts O → ℕ → List Item →
    Stand O (DeferringReplica T S) → Stand O (DeferringReplica T S) → Type 0
Turn may_hold g o items turn old new =
    TakesTurn o (replica_ghosts may_hold) (deferring_saving may_hold g) items turn old new

-- The logs of its past where a turn was saved,
turn_logs : {O T S : Type 0} (may_hold : T → ℕ → SavedValue → Type 0) (g : Ghosts S) (o : OutGhosts O) (items : ℕ)
    (turn : List Item) (old new : Stand O (DeferringReplica T S)) (logs : List (List Entry))
    (f : IsHistoryFront old.replica logs old.published) (t : Turn may_hold g o items turn old new) →
    joined_logs (logs_after_turn logs t.made) ≡ f.front ++ reported_of t.stored.replica
turn_logs may_hold g o items turn old new logs f t =
    made_logs may_hold old.replica t.made logs f.front t.follows f.saved f.logs_are
    ∙ ap (λ (s : Option SavedValue). f.front ++ log_of_state s) (sym t.saved.0.reported_is)

turn_base : {O T S : Type 0} (may_hold : T → ℕ → SavedValue → Type 0) (g : Ghosts S) (o : OutGhosts O) (items : ℕ)
    (turn : List Item) (old new : Stand O (DeferringReplica T S)) → (t : Turn may_hold g o items turn old new) →
    base_of t.stored.replica ≡ base_of old.replica.replica
turn_base may_hold g o items turn old new t =
    (deferring_saved_on may_hold g t.made t.stored t.saved).base
    ∙ (deferring_followed_on may_hold g old.replica t.made t.follows).base

-- and what it had committed of all epochs then.
turn_history : {O T S : Type 0} (may_hold : T → ℕ → SavedValue → Type 0) (g : Ghosts S) (o : OutGhosts O) (items : ℕ)
    (turn : List Item) (old new : Stand O (DeferringReplica T S)) (logs : List (List Entry)) →
    IsHistoryFront old.replica logs old.published → (t : Turn may_hold g o items turn old new) →
    take (base_of t.stored.replica) old.published
    ++ (reported_of t.stored.replica ++ replica_cut t.stored.replica)
    ≡ joined_logs (logs_after_turn logs t.made) ++ replica_cut t.stored.replica
turn_history may_hold g o items turn old new logs f t =
    let log : List Entry = reported_of t.stored.replica in
    let cut : List Entry = replica_cut t.stored.replica in
    let base : base_of t.stored.replica ≡ base_of old.replica.replica =
    turn_base may_hold g o items turn old new t in
    let own : List Entry = committed_cut (replica_node old.replica) in
    let was : IsPrefix old.published (f.front ++ (reported_of old.replica.replica ++ own)) =
    subst (λ (es : List Entry). IsPrefix old.published es)
    (ap (λ (es : List Entry). es ++ own) f.logs_are ∙ append_assoc f.front (reported_of old.replica.replica) own)
    f.shown in
    let reached : base_of t.stored.replica ≤ length old.published = t.publishes.reached in
    let past : take (base_of t.stored.replica) old.published ≡ f.front =
    ap (λ k. take k old.published) (base ∙ sym f.base_is)
    ∙ first_of f.front _ old.published (omega (arith, f.base_is, base, reached)) was in
    ap (λ (es : List Entry). es ++ (log ++ cut)) past
    ∙ (sym (append_assoc f.front log cut)
    ∙ ap (λ (es : List Entry). es ++ cut) (sym (turn_logs may_hold g o items turn old new logs f t)))

-- After a turn.
pub turn_front : {O T S : Type 0} (may_hold : T → ℕ → SavedValue → Type 0) (g : Ghosts S) (o : OutGhosts O)
    (items : ℕ) (turn : List Item) (old new : Stand O (DeferringReplica T S)) (logs : List (List Entry)) →
    IsHistoryFront old.replica logs old.published → (t : Turn may_hold g o items turn old new) →
    IsHistoryFront new.replica (logs_after_turn logs t.made) new.published
turn_front may_hold g o items turn old new logs f t =
    let stored : IsHistoryFront t.stored (logs_after_turn logs t.made) new.published =
    record {
      front = f.front;
      logs_are = turn_logs may_hold g o items turn old new logs f t;
      base_is = f.base_is ∙ sym (turn_base may_hold g o items turn old new t);
      saved = t.saved.0.saved.saved;
      shown = subst (λ (es : List Entry). IsPrefix new.published es)
          (turn_history may_hold g o items turn old new logs f t) t.publishes.shown;
    } in
    may_forget_front may_hold g t.stored new.replica (logs_after_turn logs t.made) new.published stored t.forgets

forgets_node : {T S : Type 0} (may_hold : T → ℕ → SavedValue → Type 0) (g : Ghosts S)
    (old new : DeferringReplica T S) → saving.MayForget (deferring_saving may_hold g) old new →
    replica_node old ≡ replica_node new
forgets_node {T} {S} may_hold g old new (inl same) = sym (ap (λ (r : DeferringReplica T S). replica_node r) same)
forgets_node {T} {S} may_hold g old new (inr forgets) =
    sym (ap (λ (r : ReplicaValue T S). r.member.node) forgets.replica)

-- And where it says then that all is published, that is all that the node has committed of all epochs.
pub turn_whole : {O T S : Type 0} (may_hold : T → ℕ → SavedValue → Type 0) (g : Ghosts S) (o : OutGhosts O)
    (items : ℕ) (turn : List Item) (old new : Stand O (DeferringReplica T S)) (logs : List (List Entry)) →
    IsHistoryFront old.replica logs old.published → (t : Turn may_hold g o items turn old new) →
    new.all_published ≡ true →
    new.published ≡ joined_logs (logs_after_turn logs t.made) ++ committed_cut (replica_node new.replica)
turn_whole may_hold g o items turn old new logs f t all =
    where_true new.all_published _ _ t.whole all
    ∙ (turn_history may_hold g o items turn old new logs f t
    ∙ ap (λ (e : EpochValue). joined_logs (logs_after_turn logs t.made) ++ committed_cut e)
    (forgets_node may_hold g t.stored new.replica t.forgets))

next_epoch : (past : List Entry) (old new : EpochValue) (step : ReplicaStep) → IsBeginning past old new step →
    new.epoch ≡ old.epoch + 1
next_epoch past old new (out.Began epoch packets) begins = begins.1.epoch_is
next_epoch past old new out.Nothing begins = absurd begins
next_epoch past old new out.Replaced begins = absurd begins
next_epoch past old new (out.Own epoch base step) begins = absurd begins
next_epoch past old new (out.Answer answer) begins = absurd begins
next_epoch past old new (out.Ask epoch to packet) begins = absurd begins
next_epoch past old new (out.AskAll epoch packets) begins = absurd begins
next_epoch past old new (out.Tell to epoch base) begins = absurd begins

-- It began the next epoch: what it had committed is the last log of its past.
begun_front : {T S : Type 0} (may_hold : T → ℕ → SavedValue → Type 0) (g : Ghosts S) (old new : DeferringReplica T S)
    (packets : List (ℕ × EpochPacket)) (logs : List (List Entry)) (list : List Entry) → IsHistoryFront old logs list →
    BeginsDeferring g old packets new → IsHistoryFront new (logs_after_begin logs old new) list
begun_front {T} {S} may_hold g old new packets logs list f b =
    let cut : List Entry = committed_cut (replica_node old) in
    let now : List (List Entry) = logs ++ cut ∷ [] in
    let e : saving.BeginsEpoch (deferring_saving may_hold g) old new =
    (deferring_begun_on may_hold g old new packets b).0 in
    let past = b.begins.past in
    let next : (replica_node new).epoch ≡ (replica_node old).epoch + 1 =
    next_epoch past.0 (replica_node old) (replica_node new) b.step (b.begins.begins past.0 past.1) in
    let all : joined_logs now ≡ joined_logs logs ++ cut = joined_push logs cut in
    let none : reported_of new.replica ≡ [] = e.reported in
    let sum : base_of new.replica ≡ base_of old.replica + length cut = e.base in
    let before : reported_of old.replica ≡ [] = e.none in
    let is : joined_logs logs ++ cut ≡ joined_logs now ++ committed_cut (replica_node new) =
    sym all
    ∙ (sym (append-nil (joined_logs now)) ∙ ap (λ (es : List Entry). joined_logs now ++ es) (sym e.cut)) in
    let begun : IsHistoryFront new now list =
    record {
      front = joined_logs now;
      logs_are = sym (append-nil (joined_logs now))
          ∙ ap (λ (es : List Entry). joined_logs now ++ es) (sym none);
      base_is = omega (
        arith,
        ap length all,
        length-append (joined_logs logs) cut,
        ap length f.logs_are,
        length-append f.front (reported_of old.replica),
        ap length before,
        f.base_is,
        sum,
      );
      saved = b.begins.saved.saved;
      shown = subst (λ (es : List Entry). IsPrefix list es) is f.shown;
    } in
    subst (λ (ls : List (List Entry)). IsHistoryFront new ls list) (begin_logs logs old new next) begun

may_begin_front : {T S : Type 0} (may_hold : T → ℕ → SavedValue → Type 0) (g : Ghosts S)
    (old new : DeferringReplica T S) (packets : List (ℕ × EpochPacket)) (logs : List (List Entry))
    (list : List Entry) → IsHistoryFront old logs list →
    saving.MayBegin (deferring_saving may_hold g) old packets new →
    IsHistoryFront new (logs_after_begin logs old new) list
may_begin_front {T} {S} may_hold g old new packets logs list f (inl (none, same)) =
    subst (λ (ls : List (List Entry)). IsHistoryFront new ls list)
    (same_logs logs old new (ap (λ (r : DeferringReplica T S). replica_node r) same))
    (subst (λ (r : DeferringReplica T S). IsHistoryFront r logs list) (sym same) f)
may_begin_front may_hold g old new packets logs list f (inr begins) =
    begun_front may_hold g old new packets logs list f begins

-- What it prepared leaves its logs as they were.
prepared_front : {T S : Type 0} (may_hold : T → ℕ → SavedValue → Type 0) (old new : DeferringReplica T S)
    (logs : List (List Entry)) (list : List Entry) → IsHistoryFront old logs list →
    PreparesDeferring may_hold old new → IsHistoryFront new logs list
prepared_front may_hold old new logs list f (p, deferred) = record {
  front = f.front;
  logs_are = f.logs_are ∙ ap (λ (s : Option SavedValue). f.front ++ log_of_state s) (sym p.reported_is);
  base_is = f.base_is ∙ sym (same_base old.replica new.replica p.member_is p.reported_is);
  saved = p.unsaved_is ∙ f.saved;
  shown = subst (λ (m : MemberValue). IsPrefix list (joined_logs logs ++ committed_cut m.node)) (sym p.member_is)
      f.shown;
}

-- After what it did between two turns.
pub advance_front : {O T S : Type 0} (may_hold : T → ℕ → SavedValue → Type 0) (g : Ghosts S) (o : OutGhosts O)
    (old new : Stand O (DeferringReplica T S)) (logs : List (List Entry)) →
    IsHistoryFront old.replica logs old.published → AdvancesBetween o (deferring_saving may_hold g) old new →
    IsHistoryFront new.replica (logs_after_begin logs old.replica new.replica) new.published
advance_front {O} {T} {S} may_hold g o old new logs f on =
    let (begun, begins, prepares) = on.advances in
    subst (λ (es : List Entry). IsHistoryFront new.replica (logs_after_begin logs old.replica new.replica) es)
    (sym on.published)
    (prepares_front begun
    (may_begin_front may_hold g old.replica begun on.packets logs old.published f begins) prepares)
  where
    prepares_front : (begun : DeferringReplica T S) →
        IsHistoryFront begun (logs_after_begin logs old.replica begun) old.published →
        saving.MayPrepare (deferring_saving may_hold g) begun new.replica →
        IsHistoryFront new.replica (logs_after_begin logs old.replica new.replica) old.published
    prepares_front begun h (inl same) =
        subst (λ (r : DeferringReplica T S). IsHistoryFront r (logs_after_begin logs old.replica r) old.published)
        (sym same) h
    prepares_front begun h (inr p) =
        subst (λ (ls : List (List Entry)). IsHistoryFront new.replica ls old.published)
        (ap (λ (m : MemberValue). cond (eqb m.node.epoch (replica_node old.replica).epoch) logs
        (logs ++ committed_cut (replica_node old.replica) ∷ [])) (sym p.0.member_is))
        (prepared_front may_hold begun new.replica (logs_after_begin logs old.replica begun) old.published h p)

-- After a start, where all that is committed is published.
started_front : {T S : Type 0} (g : Ghosts S) (node : EpochValue) (logs : List (List Entry))
    (new : DeferringReplica T S) → IsStarted g node logs new →
    IsHistoryFront new logs (joined_logs logs ++ committed_cut (replica_node new))
started_front g node logs new started =
    let none : reported_of new.replica ≡ [] = ap log_of_state started.reported in
    let all : List Entry = joined_logs logs ++ committed_cut (replica_node new) in
    let count : new.replica.member.node.past.length ≡ started.past.length =
    ap (λ (m : MemberValue). m.node.past.length) started.member in
    record {
      front = joined_logs logs;
      logs_are = sym (append-nil (joined_logs logs))
          ∙ ap (λ (es : List Entry). joined_logs logs ++ es) (sym none);
      base_is = omega (
        arith,
        count,
        started.stands.length_is,
        ap length none,
      );
      saved = started.saved.saved;
      shown = ([], append-nil all);
    }

pub starts_front : {T S : Type 0} (g : Ghosts S) (b : Bool) (e : EpochValue) (logs new_logs : List (List Entry))
    (new : DeferringReplica T S) → MatchBool b
    ((new_logs ≡ logs ++ committed_cut e ∷ []) × IsStarted g (in_next_epoch e) new_logs new)
    ((new_logs ≡ logs) × IsStarted g (from_saved e) new_logs new) →
    IsHistoryFront new new_logs (joined_logs new_logs ++ committed_cut (replica_node new))
starts_front g true e logs new_logs new starts = started_front g (in_next_epoch e) new_logs new starts.1
starts_front g false e logs new_logs new starts = started_front g (from_saved e) new_logs new starts.1

pub began_front : {T S : Type 0} (g : Ghosts S) (node : EpochValue) (logs : List (List Entry))
    (new : DeferringReplica T S) → IsStarted g node logs new →
    IsHistoryFront new logs (joined_logs logs ++ committed_cut (replica_node new))
began_front g node logs new started = started_front g node logs new started

-- At first nothing is published.
pub first_front : {T S : Type 0} (r : DeferringReplica T S) (logs : List (List Entry)) (list : List Entry) →
    r.replica.member.node.past.length ≡ 0 → r.replica.unsaved ≡ false → r.replica.reported ≡ None → logs ≡ [] →
    list ≡ [] → IsHistoryFront r logs list
first_front r logs list count saved none no_logs nothing =
    let log : reported_of r.replica ≡ [] = ap log_of_state none in
    record {
      front = [];
      logs_are = ap joined_logs no_logs ∙ sym log;
      base_is = omega (arith, count, ap length log);
      saved = saved;
      shown = (
        joined_logs logs ++ committed_cut (replica_node r),
        ap (λ (es : List Entry). es ++ (joined_logs logs ++ committed_cut (replica_node r))) nothing,
      );
    }
