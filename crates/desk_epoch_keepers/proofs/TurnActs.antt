-- Turns of keepers as what happens in their group, and what they publish.
use Rattle.std.proofs.Common.{◌≡◌, ◌≢◌, ◌∙◌, ℕ, true, List, [], ◌∷◌, ◌++◌, ⊎_elim, ap, subst, sym}
use Rattle.std.proofs.lemmas.Bool.{cases_eq}
use Rattle.desk_types.specs.declared.command.Entry.{Entry}
use Rattle.desk_types.specs.declared.epoch_packet.EpochPacket.{EpochPacket}
use Rattle.desk_log.specs.SavedValue.{SavedValue}
use Rattle.desk_log.specs.declared.state_store.StateStore.{Ghosts}
use Rattle.desk_mailbox.specs.declared.item.Item.{Item}
use Rattle.desk_replica.specs.Saving as saving
use Rattle.desk_epochs.specs.Epochs.{joined_logs}
use Rattle.desk_epoch_node.specs.Does.{is_due}
use Rattle.desk_epoch_node.specs.EpochValue.{committed_cut}
use Rattle.desk_epoch_replica.specs.declared.deferring_replica.DeferringReplica.{DeferringReplica}
use Rattle.desk_epoch_replica.specs.DeferringSaves.{deferring_saving}
use Rattle.desk_epoch_replica.specs.MemberValue.{MemberValue}
use Rattle.desk_threads.specs.declared.handing.Out.{Ghosts as OutGhosts}
use Rattle.desk_threads.specs.Replicas.{MeetsItems}
use Rattle.desk_epoch_keepers.specs.Group.{EpochKeeperBecomes, KeeperAct, Takes, Breaks, BreaksBetween, Advances}
use Rattle.desk_epoch_keepers.specs.Group.{BreaksAdvanced, Restarts, KeeperActLeads, keeper_history}
use Rattle.desk_epoch_keepers.specs.Group.{logs_after_begin, logs_after_turn, replica_ghosts, replica_node}
use Rattle.desk_epoch_keepers.specs.Turns.{AreFirstPublishing, PublishingKeepers, PublishingLeads, PublishingRun}
use Rattle.desk_epoch_keepers.specs.Turns.{Publishes, TurnLeads, TurnsAreActs, TurnsPublishHistory, TurnsShowAll}
use Rattle.desk_epoch_keepers.proofs.HistoryFronts.{IsHistoryFront, advance_front, began_front, first_front}
use Rattle.desk_epoch_keepers.proofs.HistoryFronts.{starts_front, turn_front, turn_whole}

-- What happens to keepers that publish happens in their group.
pub act_leads : {O T S : Type 0} (may_hold : T → ℕ → SavedValue → Type 0) (g : Ghosts S) (out : OutGhosts O)
    (n items : ℕ) (old new : PublishingKeepers T S) (act : KeeperAct) →
    PublishingLeads may_hold g out n items old act new → KeeperActLeads may_hold g n old.keepers act new.keepers
act_leads {O} {T} {S} may_hold g out n items old new (Takes i turn) t = (
  t.took.packets,
  t.took.made,
  t.after.replica,
  record {
    handed = t.handed;
    tells = t.tells;
    early = t.took.early;
    answers = t.took.answers;
    does = subst
        (λ (r : DeferringReplica T S). MeetsItems (replica_ghosts may_hold) r turn t.took.packets t.took.answers
        t.took.made)
        t.stands.replica_is t.took.does;
  },
  (t.took.stored, t.took.saved, t.took.forgets),
  t.becomes,
)
act_leads {O} {T} {S} may_hold g out n items old new (Advances i) a = (
  a.advances.packets,
  a.after.replica,
  subst
      (λ (r : DeferringReplica T S). saving.Advances (deferring_saving may_hold g) r a.advances.packets
      a.after.replica)
      a.stands.replica_is a.advances.advances,
  a.becomes,
)
act_leads may_hold g out n items old new (Breaks i turn count) s = s.leads
act_leads may_hold g out n items old new (BreaksBetween i turn) s = s.leads
act_leads may_hold g out n items old new (BreaksAdvanced i count) s = s.leads
act_leads may_hold g out n items old new (Restarts i) s = s.leads

pub turns_are_acts : {O T S : Type 0} (may_hold : T → ℕ → SavedValue → Type 0) (g : Ghosts S) (out : OutGhosts O) →
    TurnsAreActs may_hold g out
turns_are_acts {O} {T} {S} may_hold g out n items [] old new same =
    ap (λ (k : PublishingKeepers T S). k.keepers) same
turns_are_acts may_hold g out n items (act ∷ more) old new (mid, one, rest) = (
  mid.keepers,
  act_leads may_hold g out n items old mid act one,
  turns_are_acts may_hold g out n items more mid new rest,
)

-- What each keeper has published begins its node's history.
pub AllFronts : {T S : Type 0} → PublishingKeepers T S → Type 0
AllFronts k = (j : ℕ) → IsHistoryFront (k.keepers.replicas j) (k.keepers.logs j) (k.published j)

-- A keeper of them, and all of them.
pub front_at : {T S : Type 0} (k : PublishingKeepers T S) → AllFronts k → (j : ℕ) →
    IsHistoryFront (k.keepers.replicas j) (k.keepers.logs j) (k.published j)
unfolding AllFronts
front_at k fronts j = fronts j

pub fronts_of : {T S : Type 0} (k : PublishingKeepers T S) →
    ((j : ℕ) → IsHistoryFront (k.keepers.replicas j) (k.keepers.logs j) (k.published j)) → AllFronts k
unfolding AllFronts
fronts_of k fronts = fronts

-- One keeper changed.
one_front : {T S : Type 0} (n i : ℕ) (old new : PublishingKeepers T S) (replica : DeferringReplica T S)
    (logs : List (List Entry)) (list : List Entry) (packets : List (ℕ × EpochPacket)) → AllFronts old →
    EpochKeeperBecomes n i old.keepers replica logs packets new.keepers → Publishes i list old new →
    IsHistoryFront replica logs list → AllFronts new
unfolding AllFronts
one_front {T} {S} n i old new replica logs list packets fronts b p f = λ j.
    ⊎_elim (λ e. own j e) (λ ne. other j ne) (cases_eq j i)
  where
    here : IsHistoryFront (new.keepers.replicas i) (new.keepers.logs i) (new.published i)
    here =
        subst (λ (r : DeferringReplica T S). IsHistoryFront r (new.keepers.logs i) (new.published i)) (sym b.here)
        (subst (λ (ls : List (List Entry)). IsHistoryFront replica ls (new.published i)) (sym b.logs_are)
        (subst (λ (es : List Entry). IsHistoryFront replica logs es) (sym p.here) f))

    own : (j : ℕ) → j ≡ i → IsHistoryFront (new.keepers.replicas j) (new.keepers.logs j) (new.published j)
    own j e =
        subst (λ k. IsHistoryFront (new.keepers.replicas k) (new.keepers.logs k) (new.published k)) (sym e) here

    other : (j : ℕ) → j ≢ i → IsHistoryFront (new.keepers.replicas j) (new.keepers.logs j) (new.published j)
    other j ne =
        subst (λ (r : DeferringReplica T S). IsHistoryFront r (new.keepers.logs j) (new.published j))
        (sym (b.there j ne))
        (subst (λ (ls : List (List Entry)). IsHistoryFront (old.keepers.replicas j) ls (new.published j))
        (sym (b.other_logs j ne))
        (subst (λ (es : List Entry). IsHistoryFront (old.keepers.replicas j) (old.keepers.logs j) es)
        (sym (p.there j ne)) (fronts j)))

-- where a keeper stands, and what of it is known by its number
stand_front : {T S : Type 0} (r s : DeferringReplica T S) (logs : List (List Entry)) (list shown : List Entry) →
    r ≡ s → list ≡ shown → IsHistoryFront s logs shown → IsHistoryFront r logs list
stand_front {T} {S} r s logs list shown same is f =
    subst (λ (x : DeferringReplica T S). IsHistoryFront x logs list) (sym same)
    (subst (λ (es : List Entry). IsHistoryFront s logs es) (sym is) f)

-- A start publishes what the node has committed then.
start_front : {T S : Type 0} (n i : ℕ) (old new : PublishingKeepers T S) (replica : DeferringReplica T S)
    (logs : List (List Entry)) (packets : List (ℕ × EpochPacket)) → AllFronts old →
    EpochKeeperBecomes n i old.keepers replica logs packets new.keepers →
    Publishes i (keeper_history new.keepers i) old new →
    IsHistoryFront replica logs (joined_logs logs ++ committed_cut (replica_node replica)) → AllFronts new
start_front {T} {S} n i old new replica logs packets fronts b p f =
    one_front n i old new replica logs (keeper_history new.keepers i) packets fronts b p
    (subst (λ (es : List Entry). IsHistoryFront replica logs es)
    (ap (λ (ls : List (List Entry)). joined_logs ls ++ committed_cut (replica_node replica)) (sym b.logs_are)
    ∙ ap (λ (r : DeferringReplica T S). joined_logs (new.keepers.logs i) ++ committed_cut (replica_node r))
    (sym b.here)) f)

pub act_front : {O T S : Type 0} (may_hold : T → ℕ → SavedValue → Type 0) (g : Ghosts S) (out : OutGhosts O)
    (n items : ℕ) (old new : PublishingKeepers T S) (act : KeeperAct) → AllFronts old →
    PublishingLeads may_hold g out n items old act new → AllFronts new
unfolding AllFronts
act_front may_hold g out n items old new (Takes i turn) fronts t =
    one_front n i old new t.after.replica (logs_after_turn (old.keepers.logs i) t.took.made) t.after.published
    t.took.packets fronts t.becomes t.publishes
    (turn_front may_hold g out items turn t.before t.after (old.keepers.logs i)
    (stand_front t.before.replica (old.keepers.replicas i) (old.keepers.logs i) t.before.published (old.published i)
    t.stands.replica_is t.stands.published_is (fronts i)) t.took)
act_front {O} {T} {S} may_hold g out n items old new (Advances i) fronts a =
    one_front n i old new a.after.replica
    (logs_after_begin (old.keepers.logs i) (old.keepers.replicas i) a.after.replica) a.after.published
    a.advances.packets fronts a.becomes a.publishes
    (subst (λ (r : DeferringReplica T S). IsHistoryFront a.after.replica
    (logs_after_begin (old.keepers.logs i) r a.after.replica) a.after.published) a.stands.replica_is
    (advance_front may_hold g out a.before a.after (old.keepers.logs i)
    (stand_front a.before.replica (old.keepers.replicas i) (old.keepers.logs i) a.before.published (old.published i)
    a.stands.replica_is a.stands.published_is (fronts i)) a.advances))
act_front may_hold g out n items old new (Breaks i turn count) fronts s =
    let (packets, made, replica, logs, t, starts, b) = s.leads in
    start_front n i old new replica logs _ fronts b s.publishes
    (starts_front g (is_due (replica_node made)) (replica_node made) _ logs replica starts)
act_front may_hold g out n items old new (BreaksBetween i turn) fronts s =
    let (packets, made, replica, t, unsaved, started, b) = s.leads in
    start_front n i old new replica _ _ fronts b s.publishes (began_front g _ _ replica started)
act_front may_hold g out n items old new (BreaksAdvanced i count) fronts s =
    let (packets, begun, replica, logs, advances, starts, b) = s.leads in
    start_front n i old new replica logs _ fronts b s.publishes
    (starts_front g (is_due (replica_node begun)) (replica_node begun) _ logs replica starts)
act_front may_hold g out n items old new (Restarts i) fronts s =
    let (replica, logs, starts, b) = s.leads in
    start_front n i old new replica logs _ fronts b s.publishes
    (starts_front g (is_due (replica_node (old.keepers.replicas i))) (replica_node (old.keepers.replicas i)) _ logs
    replica starts)

run_front : {O T S : Type 0} (may_hold : T → ℕ → SavedValue → Type 0) (g : Ghosts S) (out : OutGhosts O)
    (n items : ℕ) (old new : PublishingKeepers T S) (acts : List KeeperAct) → AllFronts old →
    PublishingRun may_hold g out n items old acts new → AllFronts new
run_front {O} {T} {S} may_hold g out n items old new [] fronts same =
    subst (λ (k : PublishingKeepers T S). AllFronts k) same fronts
run_front may_hold g out n items old new (act ∷ more) fronts (mid, one, rest) =
    run_front may_hold g out n items mid new more (act_front may_hold g out n items old mid act fronts one) rest

first_fronts : {T S : Type 0} (domain : List ℕ) (n most : ℕ) (k : PublishingKeepers T S) →
    AreFirstPublishing domain n most k → AllFronts k
first_fronts domain n most k first = fronts_of k
    (λ j. first_front (k.keepers.replicas j) (k.keepers.logs j) (k.published j)
    (ap (λ (m : MemberValue). m.node.past.length) (first.keepers.replicas j).member) (first.keepers.replicas j).unsaved
    (first.none j) (first.keepers.logs j) (first.nothing j))

pub turns_publish_history : {O T S : Type 0} (may_hold : T → ℕ → SavedValue → Type 0) (g : Ghosts S)
    (out : OutGhosts O) → TurnsPublishHistory may_hold g out
turns_publish_history may_hold g out domain n most items acts start k i first run =
    (front_at k
    (run_front may_hold g out n items start k acts (first_fronts domain n most start first) run) i).shown

-- Where it says after a turn that all is published, that is all that its node has committed.
pub turn_shows_all : {O T S : Type 0} (may_hold : T → ℕ → SavedValue → Type 0) (g : Ghosts S) (out : OutGhosts O)
    (n items i : ℕ) (old new : PublishingKeepers T S) (turn : List Item) → AllFronts old →
    (t : TurnLeads may_hold g out n items i old turn new) → t.after.all_published ≡ true →
    new.published i ≡ keeper_history new.keepers i
turn_shows_all {O} {T} {S} may_hold g out n items i old new turn fronts t all =
    let f =
    stand_front t.before.replica (old.keepers.replicas i) (old.keepers.logs i) t.before.published (old.published i)
    t.stands.replica_is t.stands.published_is (front_at old fronts i) in
    t.publishes.here
    ∙ (turn_whole may_hold g out items turn t.before t.after (old.keepers.logs i) f t.took all
    ∙ (ap (λ (ls : List (List Entry)). joined_logs ls ++ committed_cut (replica_node t.after.replica))
    (sym t.becomes.logs_are)
    ∙ ap (λ (r : DeferringReplica T S). joined_logs (new.keepers.logs i) ++ committed_cut (replica_node r))
    (sym t.becomes.here)))

pub turns_show_all : {O T S : Type 0} (may_hold : T → ℕ → SavedValue → Type 0) (g : Ghosts S) (out : OutGhosts O) →
    TurnsShowAll may_hold g out
turns_show_all may_hold g out domain n most items acts start old new i turn first run t all =
    turn_shows_all may_hold g out n items i old new turn
    (run_front may_hold g out n items start old acts (first_fronts domain n most start first) run) t all
