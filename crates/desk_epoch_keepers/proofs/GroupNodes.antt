-- What happens in a group of keepers, as acts of nodes over epochs.
use Rattle.std.proofs.Common.{◌≡◌, ◌≢◌, ◌⊎◌, ◌<◌, ◌+◌, ℕ, Bool, true, false, cond, eqb, List, [], ◌∷◌, ◌++◌, take, refl}
use Rattle.std.proofs.Common.{sym, ap, ◌∙◌, inl, inr, ⊎_elim, subst, arith, MatchBool, Option}
use Rattle.std.specs.List.{AllByRecursion, Contains}
use Rattle.std.proofs.lemmas.Bool.{cases_eq, eq-eqb, ne_eqb}
use Rattle.std.proofs.lemmas.List.{length_push, take-append-drop}
use Rattle.std.proofs.lemmas.List.Elements.{Contains-append_left, Contains-append_cases}
use Rattle.desk_types.specs.declared.command.Entry.{Entry}
use Rattle.desk_types.specs.declared.epoch_packet.EpochPacket.{EpochPacket}
use Rattle.desk_log.specs.SavedValue.{SavedValue}
use Rattle.desk_log.specs.declared.state_store.StateStore.{Ghosts}
use Rattle.desk_mailbox.specs.declared.item.Item.{Item}
use Rattle.desk_mailbox.specs.declared.item.Item.TheVariants as mail
use Rattle.desk_replica.specs.Saving as saving
use Rattle.desk_world.proofs.Packets.{Contains-none}
use Rattle.desk_epoch_node.specs.Does.{is_due}
use Rattle.desk_epoch_node.specs.EpochValue.{EpochValue, committed_cut}
use Rattle.desk_epoch_node.specs.PastRows.{StandFor}
use Rattle.desk_epoch_replica.specs.declared.deferring_replica.DeferringReplica.{DeferringReplica}
use Rattle.desk_epoch_replica.specs.DeferringSaves.{BeginsDeferring, deferring_saving, reported_of}
use Rattle.desk_epoch_replica.specs.Follows.{reported_after, unsaved_after}
use Rattle.desk_epoch_replica.specs.MemberValue.{MemberValue}
use Rattle.desk_epoch_replica.specs.ReplicaValue.{ReplicaValue}
use Rattle.desk_epoch_group.specs.Group.{EpochNodes, EpochAct, ActsLead, first_epoch_nodes, started_again}
use Rattle.desk_epoch_keepers.specs.Agreement.{KeepersAreNodes, KeepersMakeNodes}
use Rattle.desk_threads.specs.Replicas.{MeetsItems}
use Rattle.desk_threads.specs.SavedItems.{SavesAndForgets}
use Rattle.desk_epoch_keepers.specs.Group.{EpochKeepers, KeeperAct, Takes, Breaks, BreaksBetween, Advances}
use Rattle.desk_epoch_keepers.specs.Group.{BreaksAdvanced, Restarts, AreFirstKeepers, KeeperActLeads}
use Rattle.desk_epoch_keepers.specs.Group.{IsStarted}
use Rattle.desk_epoch_keepers.specs.Group.{EpochKeeperBecomes, KeepersRun, OneEpochTurn, StartsAfter, WasHandedToNode}
use Rattle.desk_epoch_keepers.specs.Group.{from_saved}
use Rattle.desk_epoch_keepers.specs.Group.{in_next_epoch, logs_after_begin, logs_after_turn, replica_node}
use Rattle.desk_epoch_keepers.specs.Group.{replica_ghosts}
use Rattle.desk_epoch_keepers.proofs.Moves.{HasLogs, Moved, OnlyMeets, Stands, acts_on, moved_as, moved_none}
use Rattle.desk_epoch_keepers.proofs.Moves.{moved_then}
use Rattle.desk_epoch_keepers.proofs.ReplicaMoves.{CameMail, WasSentMail}
use Rattle.desk_epoch_keepers.proofs.Starts.{begins_moves, start_moves, starts_moves}
use Rattle.desk_epoch_keepers.proofs.TurnMoves.{HeldCome, broken_moves, logs_of_turn, turn_held, turn_moves}

-- The keepers are the nodes of a group, saved, each with its logs behind it. What was handed out was sent there. All
-- requests that are held are such.
pub record KeepersStand {T S : Type 0} (Came : Entry → Type 0) (most : ℕ) (k : EpochKeepers T S)
    (g : EpochNodes) : Type 0 where
  pub value_is : (i : ℕ) → g.values i ≡ replica_node (k.replicas i)
  pub logs_are : (i : ℕ) → g.logs i ≡ k.logs i
  pub has : (i : ℕ) → HasLogs most i (replica_node (k.replicas i)) (k.logs i)
  pub saved : (i : ℕ) → (k.replicas i).replica.unsaved ≡ false
  pub held : (i : ℕ) → AllByRecursion Came (k.replicas i).deferred.items
  pub sent : (x : ℕ × EpochPacket) → Contains k.handed x → Contains g.sent x

-- Keepers go on to others, which are the nodes of a later group.
pub record KeepersGoOn {T S : Type 0} (Came : Entry → Type 0) (n most : ℕ) (g : EpochNodes)
    (new : EpochKeepers T S) : Type 0 where
  pub acts : List EpochAct
  pub later : EpochNodes
  pub lead : ActsLead n g acts later
  pub came : OnlyMeets Came acts
  pub stands : KeepersStand Came most new later

pub stand_of : {T S : Type 0} (Came : Entry → Type 0) (n most i : ℕ) (k : EpochKeepers T S) (g : EpochNodes) → i < n →
    KeepersStand Came most k g → Stands n most i g (replica_node (k.replicas i)) (k.logs i)
stand_of Came n most i k g small stands = record {
  small = small;
  value_is = stands.value_is i;
  logs_are = stands.logs_are i;
  has = stands.has i;
}

-- Acts of node i make it the one of this replica.
becomes : {T S : Type 0} (Came : Entry → Type 0) (n most i : ℕ) (old new : EpochKeepers T S) (g : EpochNodes)
    (replica : DeferringReplica T S) (logs : List (List Entry)) (packets handed : List (ℕ × EpochPacket)) →
    KeepersStand Came most old g → EpochKeeperBecomes n i old replica logs handed new →
    replica.replica.unsaved ≡ false → AllByRecursion Came replica.deferred.items →
    ((x : ℕ × EpochPacket) → Contains handed x → Contains packets x) →
    Moved Came n most i g (replica_node replica) logs packets → KeepersGoOn Came n most g new
becomes {T} {S} Came n most i old new g replica logs packets handed stands b saved held some m = record {
  acts = m.acts;
  later = m.later;
  lead = m.lead;
  came = m.came;
  stands = record {
    value_is = λ j. ⊎_elim (λ e. own_value j e) (λ ne. other_value j ne) (cases_eq j i);
    logs_are = λ j. ⊎_elim (λ e. own_logs j e) (λ ne. other_logs j ne) (cases_eq j i);
    has = λ j. ⊎_elim (λ e. own_has j e) (λ ne. other_has j ne) (cases_eq j i);
    saved = λ j. ⊎_elim
        (λ e. ap (λ (r : DeferringReplica T S). r.replica.unsaved) (own j e) ∙ saved)
        (λ ne. ap (λ (r : DeferringReplica T S). r.replica.unsaved) (b.there j ne) ∙ stands.saved j)
        (cases_eq j i);
    held = λ j. ⊎_elim
        (λ e. subst (λ (r : DeferringReplica T S). AllByRecursion Came r.deferred.items) (sym (own j e)) held)
        (λ ne. subst (λ (r : DeferringReplica T S). AllByRecursion Came r.deferred.items) (sym (b.there j ne))
        (stands.held j))
        (cases_eq j i);
    sent = λ x c. m.sent x
        (⊎_elim (λ a. inl (stands.sent x a)) (λ a. inr (some x a))
        (Contains-append_cases old.handed handed x
        (subst (λ (ps : List (ℕ × EpochPacket)). Contains ps x) b.handed_are c)));
  };
}
  where
    own : (j : ℕ) → j ≡ i → new.replicas j ≡ replica
    own j e = ap (λ k. new.replicas k) e ∙ b.here

    own_value : (j : ℕ) → j ≡ i → m.later.values j ≡ replica_node (new.replicas j)
    own_value j e =
        ap (λ k. m.later.values k) e
        ∙ (m.value_is ∙ ap (λ (r : DeferringReplica T S). replica_node r) (sym (own j e)))

    other_value : (j : ℕ) → j ≢ i → m.later.values j ≡ replica_node (new.replicas j)
    other_value j ne =
        m.other_values j ne
        ∙ (stands.value_is j ∙ ap (λ (r : DeferringReplica T S). replica_node r) (sym (b.there j ne)))

    own_logs : (j : ℕ) → j ≡ i → m.later.logs j ≡ new.logs j
    own_logs j e =
        ap (λ k. m.later.logs k) e ∙ (m.logs_are ∙ sym (ap (λ k. new.logs k) e ∙ b.logs_are))

    other_logs : (j : ℕ) → j ≢ i → m.later.logs j ≡ new.logs j
    other_logs j ne = m.other_logs j ne ∙ (stands.logs_are j ∙ sym (b.other_logs j ne))

    own_has : (j : ℕ) → j ≡ i → HasLogs most j (replica_node (new.replicas j)) (new.logs j)
    own_has j e =
        subst (λ k. HasLogs most k (replica_node (new.replicas k)) (new.logs k)) (sym e)
        (subst (λ (r : DeferringReplica T S). HasLogs most i (replica_node r) (new.logs i)) (sym b.here)
        (subst (λ (ls : List (List Entry)). HasLogs most i (replica_node replica) ls) (sym b.logs_are) m.has))

    other_has : (j : ℕ) → j ≢ i → HasLogs most j (replica_node (new.replicas j)) (new.logs j)
    other_has j ne =
        subst (λ (r : DeferringReplica T S). HasLogs most j (replica_node r) (new.logs j)) (sym (b.there j ne))
        (subst (λ (ls : List (List Entry)). HasLogs most j (replica_node (old.replicas j)) ls) (sym (b.other_logs j ne))
        (stands.has j))

-- what was handed out was sent
handed_sent : (handed sent : List (ℕ × EpochPacket)) (i : ℕ) (item : Item) →
    ((x : ℕ × EpochPacket) → Contains handed x → Contains sent x) → WasHandedToNode handed i item →
    WasSentMail sent i item
handed_sent handed sent i (mail.Request session entry) f h = tt
handed_sent handed sent i (mail.Packet p) f h = f (i, p) h
handed_sent handed sent i mail.Tick f h = tt
handed_sent handed sent i mail.Stop f h = tt

all_sent : (handed sent : List (ℕ × EpochPacket)) (i : ℕ) (turn : List Item) →
    ((x : ℕ × EpochPacket) → Contains handed x → Contains sent x) → AllByRecursion (WasHandedToNode handed i) turn →
    AllByRecursion (WasSentMail sent i) turn
all_sent handed sent i [] f h = tt
all_sent handed sent i (item ∷ more) f h = (handed_sent handed sent i item f h.0, all_sent handed sent i more f h.1)

-- what a turn makes of a replica in memory
pub record TurnMade {T S : Type 0} (Came : Entry → Type 0) (n most i : ℕ) (g : EpochNodes) (logs : List (List Entry))
    (old made : DeferringReplica T S) (packets : List (ℕ × EpochPacket)) : Type 0 where
  pub log : Option (List Entry)
  pub reported : made.replica.reported ≡ reported_after old.replica.reported log
  pub unsaved : made.replica.unsaved ≡ unsaved_after old.replica.unsaved log
  pub moved : Moved Came n most i g (replica_node made) (logs_after_turn logs made) packets
  pub held : AllByRecursion Came made.deferred.items

pub turn_made : {T S : Type 0} (may_hold : T → ℕ → SavedValue → Type 0) (Came : Entry → Type 0) (n most i : ℕ)
    (old : EpochKeepers T S) (g : EpochNodes) (turn : List Item) (packets : List (ℕ × EpochPacket))
    (made : DeferringReplica T S) → i < n → HeldCome T S may_hold Came → AllByRecursion (CameMail Came) turn →
    KeepersStand Came most old g → OneEpochTurn may_hold i old turn packets made →
    TurnMade Came n most i g (old.logs i) (old.replicas i) made packets
turn_made {T} {S} may_hold Came n most i old g turn packets made small comes came stands t =
    let (before, last, turn_is, none) = t.early in
    let r : DeferringReplica T S = old.replicas i in
    let logs : List (List Entry) = old.logs i in
    let m =
    turn_moves may_hold Came n most i g r made logs before last packets t.answers comes
    (stand_of Came n most i old g small stands)
    (subst (λ (xs : List Item). AllByRecursion (WasSentMail g.sent i) xs) turn_is
    (all_sent old.handed g.sent i turn stands.sent t.handed))
    (subst (λ (xs : List Item). AllByRecursion (CameMail Came) xs) turn_is came)
    (stands.held i) t.tells none
    (subst (λ (xs : List Item). MeetsItems (replica_ghosts may_hold) r xs packets t.answers made) turn_is t.does) in
    record {
      log = m.log;
      reported = m.reported;
      unsaved = m.unsaved;
      moved = subst (λ (ls : List (List Entry)). Moved Came n most i g (replica_node made) ls packets)
          (logs_of_turn logs m.log r.replica made (stands.saved i) m.reported m.unsaved) m.moved;
      held = turn_held may_hold Came r made turn packets t.answers comes came (stands.held i) t.does;
    }

-- where a node stands after acts
stands_at : (Came : Entry → Type 0) (n most i : ℕ) (g : EpochNodes) (value : EpochValue) (logs : List (List Entry))
    (packets : List (ℕ × EpochPacket)) → i < n → (m : Moved Came n most i g value logs packets) →
    Stands n most i m.later value logs
stands_at Came n most i g value logs packets small m = record {
  small = small;
  value_is = m.value_is;
  logs_are = m.logs_are;
  has = m.has;
}

-- Acts, and then a start.
and_starts : {T S : Type 0} (h : Ghosts S) (Came : Entry → Type 0) (n most i : ℕ) (g : EpochNodes)
    (value : EpochValue) (logs new_logs : List (List Entry)) (packets : List (ℕ × EpochPacket))
    (replica : DeferringReplica T S) → i < n → Moved Came n most i g value logs packets →
    StartsAfter h value logs replica new_logs → Moved Came n most i g (replica_node replica) new_logs packets
and_starts h Came n most i g value logs new_logs packets replica small m starts =
    moved_as Came n most i g (replica_node replica) (replica_node replica) new_logs new_logs (packets ++ []) packets
    refl refl
    (λ x c. Contains-append_left packets [] x c)
    (moved_then Came n most i g value (replica_node replica) logs new_logs packets [] m
    (start_moves h Came n most i m.later value logs new_logs replica
    (stands_at Came n most i g value logs packets small m) starts))

-- a replica that started is saved, and holds nothing
starts_saved : {T S : Type 0} (h : Ghosts S) (b : Bool) (e : EpochValue) (logs new_logs : List (List Entry))
    (new : DeferringReplica T S) → MatchBool b
    ((new_logs ≡ logs ++ committed_cut e ∷ []) × IsStarted h (in_next_epoch e) new_logs new)
    ((new_logs ≡ logs) × IsStarted h (from_saved e) new_logs new) →
    (new.replica.unsaved ≡ false) × (new.deferred.items ≡ [])
starts_saved h true e logs new_logs new starts = (starts.1.saved.saved, starts.1.deferred)
starts_saved h false e logs new_logs new starts = (starts.1.saved.saved, starts.1.deferred)

none_held : (Came : Entry → Type 0) (held : List Entry) → held ≡ [] → AllByRecursion Came held
none_held Came held none = subst (λ (es : List Entry). AllByRecursion Came es) (sym none) tt

-- what a save and a forgotten report leave as it is
record SavedAs {T S : Type 0} (made new : DeferringReplica T S) : Type 0 where
  node_is : replica_node new ≡ replica_node made
  saved : new.replica.unsaved ≡ false
  deferred_is : new.deferred ≡ made.deferred

saved_as : {T S : Type 0} (may_hold : T → ℕ → SavedValue → Type 0) (h : Ghosts S) (made new : DeferringReplica T S) →
    SavesAndForgets (deferring_saving may_hold h) made new → SavedAs made new
saved_as {T} {S} may_hold h made new (stored, saves, inl same) = record {
  node_is = ap (λ (r : DeferringReplica T S). replica_node r) same
      ∙ ap (λ (m : MemberValue). m.node) saves.0.member_is;
  saved = ap (λ (r : DeferringReplica T S). r.replica.unsaved) same ∙ saves.0.saved.saved;
  deferred_is = ap (λ (r : DeferringReplica T S). r.deferred) same ∙ saves.2;
}
saved_as {T} {S} may_hold h made new (stored, saves, inr forgets) = record {
  node_is = ap (λ (r : ReplicaValue T S). r.member.node) forgets.replica
      ∙ ap (λ (m : MemberValue). m.node) saves.0.member_is;
  saved = ap (λ (r : ReplicaValue T S). r.unsaved) forgets.replica;
  deferred_is = forgets.deferred ∙ saves.2;
}

-- what a keeper makes of its replica between two turns
pub record Advanced {T S : Type 0} (Came : Entry → Type 0) (n most i : ℕ) (g : EpochNodes) (logs : List (List Entry))
    (old new : DeferringReplica T S) (packets : List (ℕ × EpochPacket)) : Type 0 where
  pub moved : Moved Came n most i g (replica_node new) (logs_after_begin logs old new) packets
  pub saved : new.replica.unsaved ≡ false
  pub deferred_is : new.deferred ≡ old.deferred

pub begin_logs : {T S : Type 0} (logs : List (List Entry)) (old new : DeferringReplica T S) →
    (replica_node new).epoch ≡ (replica_node old).epoch + 1 →
    logs ++ committed_cut (replica_node old) ∷ [] ≡ logs_after_begin logs old new
begin_logs logs old new next =
    sym (ap (λ b. cond b logs (logs ++ committed_cut (replica_node old) ∷ []))
    (ne_eqb (replica_node new).epoch (replica_node old).epoch (λ same. omega (arith, next, same))))

pub same_logs : {T S : Type 0} (logs : List (List Entry)) (old new : DeferringReplica T S) →
    replica_node new ≡ replica_node old → logs ≡ logs_after_begin logs old new
same_logs logs old new same =
    sym (ap (λ b. cond b logs (logs ++ committed_cut (replica_node old) ∷ []))
    (eq-eqb (replica_node new).epoch (replica_node old).epoch (ap (λ (e : EpochValue). e.epoch) same)))

begun : {T S : Type 0} (h : Ghosts S) (Came : Entry → Type 0) (n most i : ℕ) (g : EpochNodes)
    (logs : List (List Entry)) (old new : DeferringReplica T S) (packets : List (ℕ × EpochPacket)) →
    Stands n most i g (replica_node old) logs → old.replica.unsaved ≡ false →
    ((packets ≡ []) × (new ≡ old)) ⊎ BeginsDeferring h old packets new → Advanced Came n most i g logs old new packets
begun {T} {S} h Came n most i g logs old new packets stands saved (inl (none, same)) =
    let is : replica_node new ≡ replica_node old = ap (λ (r : DeferringReplica T S). replica_node r) same in
    record {
      moved = moved_as Came n most i g (replica_node old) (replica_node new) logs (logs_after_begin logs old new) []
          packets
          (sym is) (same_logs logs old new is)
          (λ x c. subst (λ (ps : List (ℕ × EpochPacket)). Contains ps x) none c)
          (moved_none Came n most i g (replica_node old) logs stands.value_is stands.logs_are stands.has);
      saved = ap (λ (r : DeferringReplica T S). r.replica.unsaved) same ∙ saved;
      deferred_is = ap (λ (r : DeferringReplica T S). r.deferred) same;
    }
begun h Came n most i g logs old new packets stands saved (inr b) =
    let m : Moved Came n most i g (replica_node new) (logs ++ committed_cut (replica_node old) ∷ []) packets =
    begins_moves h Came n most i g old.replica new.replica logs b.step packets stands b.begins b.packets_are in
    let next : (replica_node new).epoch ≡ (replica_node old).epoch + 1 =
    m.has.epoch_is
    ∙ (length_push logs (committed_cut (replica_node old)) ∙ ap (λ k. k + 1) (sym stands.has.epoch_is)) in
    record {
      moved = subst (λ (ls : List (List Entry)). Moved Came n most i g (replica_node new) ls packets)
          (begin_logs logs old new next) m;
      saved = b.begins.saved.saved;
      deferred_is = b.deferred_are;
    }

pub advanced : {T S : Type 0} (may_hold : T → ℕ → SavedValue → Type 0) (h : Ghosts S) (Came : Entry → Type 0)
    (n most i : ℕ) (g : EpochNodes) (logs : List (List Entry)) (old new : DeferringReplica T S)
    (packets : List (ℕ × EpochPacket)) →
    Stands n most i g (replica_node old) logs → old.replica.unsaved ≡ false →
    saving.Advances (deferring_saving may_hold h) old packets new →
    Advanced Came n most i g logs old new packets
advanced {T} {S} may_hold h Came n most i g logs old new packets stands saved (mid, begins, inl same) =
    subst (λ (r : DeferringReplica T S). Advanced Came n most i g logs old r packets) (sym same)
    (begun h Came n most i g logs old mid packets stands saved begins)
advanced {T} {S} may_hold h Came n most i g logs old new packets stands saved (mid, begins, inr prepares) =
    let a : Advanced Came n most i g logs old mid packets =
    begun h Came n most i g logs old mid packets stands saved begins in
    let is : replica_node new ≡ replica_node mid = ap (λ (m : MemberValue). m.node) prepares.0.member_is in
    record {
      moved = moved_as Came n most i g (replica_node mid) (replica_node new) (logs_after_begin logs old mid)
          (logs_after_begin logs old new) packets packets (sym is)
          (ap (λ (e : EpochValue). cond (eqb e.epoch (replica_node old).epoch) logs
          (logs ++ committed_cut (replica_node old) ∷ [])) (sym is))
          (λ x c. c) a.moved;
      saved = prepares.0.unsaved_is ∙ a.saved;
      deferred_is = prepares.1 ∙ a.deferred_is;
    }

-- the first so many packets
first_packets : (count : ℕ) (packets : List (ℕ × EpochPacket)) (x : ℕ × EpochPacket) →
    Contains (take count packets) x → Contains packets x
first_packets count packets x c =
    subst (λ (ps : List (ℕ × EpochPacket)). Contains ps x) (take-append-drop count packets)
    (Contains-append_left (take count packets) _ x c)

-- Requests that are taken are such.
abbrev pub CameAct : (Entry → Type 0) → KeeperAct → Type 0
CameAct Came (Takes i turn) = AllByRecursion (CameMail Came) turn
CameAct Came (Breaks i turn count) = AllByRecursion (CameMail Came) turn
CameAct Came (BreaksBetween i turn) = AllByRecursion (CameMail Came) turn
CameAct Came (Advances i) = Unit {0}
CameAct Came (BreaksAdvanced i count) = Unit {0}
CameAct Came (Restarts i) = Unit {0}

pub act_goes_on : {T S : Type 0} (may_hold : T → ℕ → SavedValue → Type 0) (h : Ghosts S) (Came : Entry → Type 0)
    (n most : ℕ) (old new : EpochKeepers T S) (g : EpochNodes) (act : KeeperAct) → HeldCome T S may_hold Came →
    CameAct Came act → KeepersStand Came most old g → KeeperActLeads may_hold h n old act new →
    KeepersGoOn Came n most g new
act_goes_on {T} {S} may_hold h Came n most old new g (Takes i turn) comes came stands
    (packets, made, replica, t, saves, b) =
    let m = turn_made may_hold Came n most i old g turn packets made b.is_node comes came stands t in
    let s : SavedAs made replica = saved_as may_hold h made replica saves in
    becomes Came n most i old new g replica (logs_after_turn (old.logs i) made) packets packets stands b s.saved
    (subst (λ d. AllByRecursion Came d.items) (sym s.deferred_is) m.held) (λ x c. c)
    (subst (λ (v : EpochValue). Moved Came n most i g v (logs_after_turn (old.logs i) made) packets) (sym s.node_is)
    m.moved)
act_goes_on may_hold h Came n most old new g (Breaks i turn count) comes came stands
    (packets, made, replica, logs, t, starts, b) =
    let m = turn_made may_hold Came n most i old g turn packets made b.is_node comes came stands t in
    let s = starts_saved h (is_due (replica_node made)) (replica_node made) (logs_after_turn (old.logs i) made) logs
    replica
    starts in
    becomes Came n most i old new g replica logs packets (take count packets) stands b s.0
    (none_held Came replica.deferred.items s.1) (first_packets count packets)
    (and_starts h Came n most i g (replica_node made) (logs_after_turn (old.logs i) made) logs packets replica b.is_node
    m.moved starts)
act_goes_on {T} {S} may_hold h Came n most old new g (BreaksBetween i turn) comes came stands
    (packets, made, replica, t, unsaved, started, b) =
    let (before, last, turn_is, none) = t.early in
    let r : DeferringReplica T S = old.replicas i in
    let logs : List (List Entry) = old.logs i in
    let all : List (List Entry) = logs_after_turn logs made in
    let are : logs ++ reported_of made.replica ∷ [] ≡ all =
    sym (ap (λ (b : Bool). cond b (logs ++ reported_of made.replica ∷ []) logs) unsaved) in
    let m : Moved Came n most i g (started_again (replica_node made)) all [] =
    subst (λ (ls : List (List Entry)). Moved Came n most i g (started_again (replica_node made)) ls []) are
    (broken_moves may_hold Came n most i g r made logs before last packets t.answers comes
    (stand_of Came n most i old g b.is_node stands)
    (subst (λ (xs : List Item). AllByRecursion (WasSentMail g.sent i) xs) turn_is
    (all_sent old.handed g.sent i turn stands.sent t.handed))
    (subst (λ (xs : List Item). AllByRecursion (CameMail Came) xs) turn_is came)
    (stands.held i) t.tells none (stands.saved i)
    (subst (λ (xs : List Item). MeetsItems (replica_ghosts may_hold) r xs packets t.answers made) turn_is t.does)
    unsaved) in
    let k =
    starts_moves h Came n most i m.later (started_again (replica_node made)) (started_again (replica_node made)) all
    replica
    (stands_at Came n most i g (started_again (replica_node made)) all [] b.is_node m) refl started in
    becomes Came n most i old new g replica all [] [] stands b started.saved.saved
    (none_held Came replica.deferred.items started.deferred) (λ x c. c)
    (moved_then Came n most i g (started_again (replica_node made)) (replica_node replica) all all [] [] m k)
act_goes_on {T} {S} may_hold h Came n most old new g (Advances i) comes came stands (packets, replica, advances, b) =
    let a =
    advanced may_hold h Came n most i g (old.logs i) (old.replicas i) replica packets
    (stand_of Came n most i old g b.is_node stands) (stands.saved i) advances in
    becomes Came n most i old new g replica (logs_after_begin (old.logs i) (old.replicas i) replica) packets packets
    stands b a.saved (subst (λ d. AllByRecursion Came d.items) (sym a.deferred_is) (stands.held i)) (λ x c. c) a.moved
act_goes_on may_hold h Came n most old new g (BreaksAdvanced i count) comes came stands
    (packets, after, replica, logs, advances, starts, b) =
    let a =
    advanced may_hold h Came n most i g (old.logs i) (old.replicas i) after packets
    (stand_of Came n most i old g b.is_node stands) (stands.saved i) advances in
    let all : List (List Entry) = logs_after_begin (old.logs i) (old.replicas i) after in
    let s = starts_saved h (is_due (replica_node after)) (replica_node after) all logs replica starts in
    becomes Came n most i old new g replica logs packets (take count packets) stands b s.0
    (none_held Came replica.deferred.items s.1) (first_packets count packets)
    (and_starts h Came n most i g (replica_node after) all logs packets replica b.is_node a.moved starts)
act_goes_on may_hold h Came n most old new g (Restarts i) comes came stands (replica, logs, starts, b) =
    let e : EpochValue = replica_node (old.replicas i) in
    let s = starts_saved h (is_due e) e (old.logs i) logs replica starts in
    becomes Came n most i old new g replica logs [] [] stands b s.0 (none_held Came replica.deferred.items s.1)
    (λ x c. c)
    (start_moves h Came n most i g e (old.logs i) logs replica (stand_of Came n most i old g b.is_node stands) starts)

-- all requests that are taken
abbrev pub CameActs : (Entry → Type 0) → List KeeperAct → Type 0
CameActs Came acts = AllByRecursion (CameAct Came) acts

pub run_goes_on : {T S : Type 0} (may_hold : T → ℕ → SavedValue → Type 0) (h : Ghosts S) (Came : Entry → Type 0)
    (n most : ℕ) (old new : EpochKeepers T S) (g : EpochNodes) (acts : List KeeperAct) →
    HeldCome T S may_hold Came → CameActs Came acts → KeepersStand Came most old g →
    KeepersRun may_hold h n old acts new → KeepersGoOn Came n most g new
run_goes_on {T} {S} may_hold h Came n most old new g [] comes came stands same = record {
  acts = [];
  later = g;
  lead = refl;
  came = λ j e c. absurd (Contains-none _ c);
  stands = subst (λ (k : EpochKeepers T S). KeepersStand Came most k g) same stands;
}
run_goes_on may_hold h Came n most old new g (act ∷ more) comes came stands (mid, one, rest) =
    let first = act_goes_on may_hold h Came n most old mid g act comes came.0 stands one in
    let all = run_goes_on may_hold h Came n most mid new first.later more comes came.1 first.stands rest in
    record {
      acts = first.acts ++ all.acts;
      later = all.later;
      lead = acts_on n first.acts all.acts g first.later all.later first.lead all.lead;
      came = λ j e c. ⊎_elim (first.came j e) (all.came j e) (Contains-append_cases first.acts all.acts _ c);
      stands = all.stands;
    }

pub first_stand : StandFor [] (record { rows = []; length = 0; replacements = [] })
first_stand = record { length_is = refl; rows_are = λ client. refl; replacements_are = refl }

-- the start
pub first_stands : {T S : Type 0} (Came : Entry → Type 0) (domain : List ℕ) (n most : ℕ) (k : EpochKeepers T S) →
    AreFirstKeepers domain n most k → KeepersStand Came most k (first_epoch_nodes domain n most)
first_stands {T} {S} Came domain n most k first = record {
  value_is = λ i. sym (ap (λ (m : MemberValue). m.node) (first.replicas i).member);
  logs_are = λ i. sym (first.logs i);
  has = λ i. subst (λ (ls : List (List Entry)). HasLogs most i (replica_node (k.replicas i)) ls) (sym (first.logs i))
      (subst (λ (m : MemberValue). HasLogs most i m.node []) (sym (first.replicas i).member)
      (record { id_is = refl; most_is = refl; stand = first_stand; epoch_is = refl }));
  saved = λ i. (first.replicas i).unsaved;
  held = λ i. none_held Came (k.replicas i).deferred.items (first.replicas i).deferred;
  sent = λ x c. absurd (Contains-none x (subst (λ (ps : List (ℕ × EpochPacket)). Contains ps x) first.handed c));
}

-- nothing is said of requests

pub AnyCame : Entry → Type 0
AnyCame e = Unit {0}

pub any_held : (held : List Entry) → AllByRecursion AnyCame held
unfolding AnyCame
any_held [] = tt
any_held (e ∷ es) = (tt, any_held es)

any_mail : (item : Item) → CameMail AnyCame item
unfolding AnyCame
any_mail (mail.Request session entry) = tt
any_mail (mail.Packet p) = tt
any_mail mail.Tick = tt
any_mail mail.Stop = tt

pub any_turn : (turn : List Item) → AllByRecursion (CameMail AnyCame) turn
any_turn [] = tt
any_turn (item ∷ more) = (any_mail item, any_turn more)

pub any_act : (act : KeeperAct) → CameAct AnyCame act
any_act (Takes i turn) = any_turn turn
any_act (Breaks i turn count) = any_turn turn
any_act (BreaksBetween i turn) = any_turn turn
any_act (Advances i) = tt
any_act (BreaksAdvanced i count) = tt
any_act (Restarts i) = tt

pub any_acts : (acts : List KeeperAct) → CameActs AnyCame acts
any_acts [] = tt
any_acts (act ∷ more) = (any_act act, any_acts more)

pub are_nodes : {T S : Type 0} (Came : Entry → Type 0) (most : ℕ) (k : EpochKeepers T S) (g : EpochNodes) →
    KeepersStand Came most k g → KeepersAreNodes k g
are_nodes Came most k g stands = record {
  values_are = λ i. sym (stands.value_is i);
  logs_are = λ i. sym (stands.logs_are i);
  sent = stands.sent;
}

pub keepers_make_nodes : {T S : Type 0} (may_hold : T → ℕ → SavedValue → Type 0) (h : Ghosts S) →
    KeepersMakeNodes may_hold h
keepers_make_nodes {T} {S} may_hold h domain n most first more start early late is l m =
    let comes : HeldCome T S may_hold AnyCame =
    λ old new item packets given one came held. any_held new.deferred.items in
    let a =
    run_goes_on may_hold h AnyCame n most start early (first_epoch_nodes domain n most) first comes (any_acts first)
    (first_stands AnyCame domain n most start is) l in
    let b = run_goes_on may_hold h AnyCame n most early late a.later more comes (any_acts more) a.stands m in
    record {
      acts = a.acts;
      more = b.acts;
      nodes = a.later;
      later = b.later;
      lead = a.lead;
      lead_on = b.lead;
      are = are_nodes AnyCame most early a.later a.stands;
      are_later = are_nodes AnyCame most late b.later b.stands;
    }
