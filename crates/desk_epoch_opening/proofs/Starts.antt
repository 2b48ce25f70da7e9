-- A replica at the start of its keeper.
use Rattle.std.proofs.Common.{◌≡◌, ◌++◌, ◌∙◌, ℕ, List, [], length, take, refl, sym, ap, subst, arith}
use Rattle.std.proofs.Common.{append-nil, length-append, inl, inr, None, Bool, false, true, Result, Ok, IfOk}
use Rattle.desk_types.specs.declared.command.Entry.{Entry}
use Rattle.desk_types.specs.declared.owner.Owner.{Owner}
use Rattle.desk_types.specs.declared.refusal.Refusal.{Refusal}
use Rattle.desk_types.specs.declared.refusal.Refusal.TheVariants as refusals
use Rattle.desk_types.specs.Refusal.{is_want_of_memory}
use Rattle.desk_log.specs.SavedValue.{SavedValue}
use Rattle.desk_log.specs.declared.state_store.StateStore.{Ghosts}
use Rattle.desk_published.specs.Writer.{EqualsPrefix, followed_by}
use Rattle.desk_published.proofs.PrefixEquations.{is_front}
use Rattle.desk_replica.specs.Saving.{MayPrepare, Saving, entries_or}
use Rattle.desk_threads.specs.Noted.{IsNoted, replica_history}
use Rattle.desk_epoch_node.specs.EpochValue.{committed_cut, standing_of}
use Rattle.desk_epoch_node.specs.PastRows.{PastValue, StandFor}
use Rattle.desk_epoch_stores.specs.Starting.{MayHoldLogs, MayHoldNoMore, is_finished, saved_cut}
use Rattle.desk_epoch_replica.specs.declared.deferring_replica.DeferringReplica.{DeferringReplica}
use Rattle.desk_epoch_replica.specs.DeferringSaves.{IsInPast, deferring_saving, log_of_state}
use Rattle.desk_epoch_replica.specs.MemberValue.{MemberValue}
use Rattle.desk_epoch_replica.specs.ReplicaValue.{ReplicaValue, is_replaced, was_replaced}
use Rattle.desk_epoch_replica.specs.Saves.{IsSavedReplica, PreparesReplica, replica_base, replica_cut}
use Rattle.desk_epoch_opening.specs.Pasts.{past_in}
use Rattle.desk_epoch_opening.specs.Opened.{IsOpened, StartsFrom}

-- what is said of a result that is Ok
pub at_ok : {A E : Type 0} (r : Result A E) (a : A) (P : A → Type 0) → r ≡ Ok a → IfOk r P → P a
at_ok r a P is h = subst (λ x. IfOk x P) is h

pub equals_all : (front list : List Entry) → front ≡ list → EqualsPrefix front list
equals_all front list same =
    subst (λ (l : List Entry). EqualsPrefix front l) same (is_front front front ([], append-nil front))

-- The replica of the epoch that was opened starts from what was saved there,
pub opened_at : {T S : Type 0} (g : Ghosts S) (may_hold : ℕ → SavedValue → Type 0) (owner : Owner)
    (token most given epoch : ℕ) (p : PastValue) (s : SavedValue) (r : ReplicaValue T S) (shown : List Entry) →
    StartsFrom owner token given s r.member → r.member.node.epoch ≡ epoch → r.member.node.past ≡ p →
    g.last r.current ≡ s → IsSavedReplica g r → given ≡ most → may_hold epoch s →
    is_finished most p.length s ≡ false → MayHoldLogs may_hold most epoch (past_in p shown) →
    StandFor (past_in p shown) p → shown ≡ followed_by p.length shown (saved_cut most s) →
    IsOpened g may_hold owner token most r shown
opened_at g may_hold owner token most given epoch p s r shown starts at past_is last saved same held now logs past all =
    let cut : replica_cut r ≡ saved_cut most s =
    ap (λ (m : MemberValue). committed_cut m.node) starts ∙ ap (λ n. saved_cut n s) same in
    record {
      member = subst (λ n. StartsFrom owner token n (g.last r.current) r.member) same
          (subst (λ (u : SavedValue). StartsFrom owner token given u r.member) (sym last) starts);
      saved = saved;
      held = subst (λ (u : SavedValue). may_hold r.member.node.epoch u) (sym last)
          (subst (λ n. may_hold n s) (sym at) held);
      current = subst (λ (u : SavedValue). is_finished most r.member.node.past.length u ≡ false) (sym last)
          (subst (λ (q : PastValue). is_finished most q.length s ≡ false) (sym past_is) now);
      logs = subst (λ (q : PastValue). MayHoldLogs may_hold most r.member.node.epoch (past_in q shown)) (sym past_is)
          (subst (λ n. MayHoldLogs may_hold most n (past_in p shown)) (sym at) logs);
      past = subst (λ (q : PastValue). StandFor (past_in q shown) q) (sym past_is) past;
      all = all ∙ ap (λ (q : PastValue). followed_by q.length shown (saved_cut most s)) (sym past_is)
          ∙ ap (λ (c : List Entry). followed_by (replica_base r) shown c) (sym cut);
    }

-- Where what is noted is a replica's past and its cut, and no log is reported to it, that is all of its history.
history_noted : {R : Type 0} (s : Saving R) (r : R) (past noted : List Entry) → s.base r ≡ length past →
    s.reported r ≡ [] → s.stands r past → noted ≡ past ++ s.cut r →
    IsNoted s r noted × (noted ≡ replica_history s r noted)
history_noted s r past noted base none stands is =
    let front : past ≡ take (s.base r) noted =
    is_front past (past ++ s.cut r) (s.cut r, refl) ∙ ap (λ n. take n (past ++ s.cut r)) (sym base)
    ∙ ap (λ (list : List Entry). take (s.base r) list) (sym is) in
    let own : noted ≡ take (s.base r) noted ++ s.cut r = is ∙ ap (λ (list : List Entry). list ++ s.cut r) front in
    let all : noted ≡ replica_history s r noted =
    own ∙ ap (λ (log : List Entry). take (s.base r) noted ++ (log ++ s.cut r)) (sym none) in (
      record {
        past_noted = omega (arith, base, ap length is, length-append past (s.cut r));
        past_is = subst (s.stands r) front stands;
        next = equals_all noted _
            (own ∙ ap (λ (log : List Entry). take (s.base r) noted ++ entries_or log (s.cut r)) (sym none));
        begins = equals_all noted _ all;
      },
      all,
    )

-- and all of its history is noted where all of it is published.
pub opened_noted : {T S : Type 0} (may_hold : T → ℕ → SavedValue → Type 0) (g : Ghosts S)
    (holds : ℕ → SavedValue → Type 0) (owner : Owner) (token most : ℕ) (r : DeferringReplica T S)
    (noted : List Entry) → r.replica.reported ≡ None → IsOpened g holds owner token most r.replica noted →
    IsNoted (deferring_saving may_hold g) r noted × (noted ≡ replica_history (deferring_saving may_hold g) r noted)
opened_noted may_hold g holds owner token most r noted none is =
    let past : List Entry = past_in r.replica.member.node.past noted in
    let log = ap log_of_state none in
    history_noted (deferring_saving may_hold g) r past noted (omega (arith, ap length log, is.past.length_is)) log
    (subst (λ (list : List Entry). StandFor list r.replica.member.node.past)
    (sym (append-nil past) ∙ ap (λ (l : List Entry). past ++ l) (sym log)) is.past) is.all

pub none_in_past : {T S : Type 0} (r : ReplicaValue T S) → r.reported ≡ None → IsInPast r
none_in_past r none = omega (arith, ap (λ o. length (log_of_state o)) none)

-- Where no more than memory was refused to what was prepared, no other node acts in the replica's place.
pub acts_on : {T S : Type 0} (may_hold : T → ℕ → SavedValue → Type 0) (old new : ReplicaValue T S)
    (refusal : Refusal) → PreparesReplica may_hold old new → is_want_of_memory refusal ≡ true →
    (is_replaced old ≡ true → refusal ≡ refusals.NodeStopped) → is_replaced new ≡ false
acts_on may_hold old new refusal prepares memory replaced = by_standing (is_replaced old) refl
  where
    by_standing : (was : Bool) → is_replaced old ≡ was → is_replaced new ≡ false
    by_standing true was =
        let no : false ≡ true = subst (λ r. is_want_of_memory r ≡ true) (replaced was) memory in
        absurd (let none : ⊥ = cc in none)
    by_standing false acts =
        ap (λ (m : MemberValue). was_replaced (standing_of m.node)) prepares.member_is ∙ acts

-- What is prepared at the start leaves the replica as it was, but for the stores of other epochs. These may hold no
-- more than before.
pub record StaysStarted {T S : Type 0} (may_hold : T → ℕ → SavedValue → Type 0) (old new : DeferringReplica T S) :
    Type 0
  where
    pub member_is : new.replica.member ≡ old.replica.member
    pub current_is : new.replica.current ≡ old.replica.current
    pub reported_is : new.replica.reported ≡ old.replica.reported
    pub unsaved_is : new.replica.unsaved ≡ old.replica.unsaved
    pub deferred_is : new.deferred ≡ old.deferred
    pub stores : MayHoldNoMore may_hold old.replica.stores new.replica.stores

pub stays_started : {T S : Type 0} (may_hold : T → ℕ → SavedValue → Type 0) (g : Ghosts S)
    (old new : DeferringReplica T S) → MayPrepare (deferring_saving may_hold g) old new →
    StaysStarted may_hold old new
stays_started {T} {S} may_hold g old new (inl same) = record {
  member_is = ap (λ (r : DeferringReplica T S). r.replica.member) same;
  current_is = ap (λ (r : DeferringReplica T S). r.replica.current) same;
  reported_is = ap (λ (r : DeferringReplica T S). r.replica.reported) same;
  unsaved_is = ap (λ (r : DeferringReplica T S). r.replica.unsaved) same;
  deferred_is = ap (λ (r : DeferringReplica T S). r.deferred) same;
  stores = subst (λ (r : DeferringReplica T S). MayHoldNoMore may_hold old.replica.stores r.replica.stores) (sym same)
      (λ e s h. h);
}
stays_started may_hold g old new (inr p) = record {
  member_is = p.0.member_is;
  current_is = p.0.current_is;
  reported_is = p.0.reported_is;
  unsaved_is = p.0.unsaved_is;
  deferred_is = p.1;
  stores = p.0.stores;
}

-- So it is opened then.
pub opened_on : {T S : Type 0} (may_hold : T → ℕ → SavedValue → Type 0) (g : Ghosts S)
    (holds : ℕ → SavedValue → Type 0) (owner : Owner) (token most : ℕ) (old new : DeferringReplica T S)
    (shown : List Entry) → StaysStarted may_hold old new → IsOpened g holds owner token most old.replica shown →
    IsOpened g holds owner token most new.replica shown
opened_on may_hold g holds owner token most old new shown stays is =
    let r = old.replica in
    opened_at g holds owner token most most r.member.node.epoch r.member.node.past (g.last r.current) new.replica shown
    (subst (λ (m : MemberValue). StartsFrom owner token most (g.last r.current) m) (sym stays.member_is) is.member)
    (ap (λ (m : MemberValue). m.node.epoch) stays.member_is) (ap (λ (m : MemberValue). m.node.past) stays.member_is)
    (ap g.last stays.current_is)
    (record {
      last = ap g.last stays.current_is ∙ is.saved.last
          ∙ ap (λ (m : MemberValue). m.node.node.saved) (sym stays.member_is);
      running = ap g.stopped stays.current_is ∙ is.saved.running;
      saved = stays.unsaved_is ∙ is.saved.saved;
    })
    refl is.held is.current is.logs is.past
    (is.all ∙ ap (λ (m : MemberValue). followed_by (replica_base r) shown (committed_cut m.node)) is.member)
