-- What goes out for a step leaves the replica running, and what a tick makes of requests that are held.
use Rattle.std.proofs.Common.{◌≡◌, ◌⊎◌, ℕ, false, List, [], ◌∷◌, Option, Some, None, refl, sym}
use Rattle.std.proofs.Common.{ap, subst, inl, inr, append-nil, ◌∙◌}
use Rattle.std.proofs.lemmas.Option.{none-some, same_Some}
use Rattle.std.specs.List.{slice_get}
use Rattle.desk_types.specs.declared.command.Entry.{Entry}
use Rattle.desk_types.specs.declared.epoch_packet.EpochPacket.{EpochPacket}
use Rattle.desk_types.specs.declared.outcome.Outcome.{Outcome}
use Rattle.desk_types.specs.declared.packet.Message.{Message}
use Rattle.desk_log.specs.SavedValue.{SavedValue}
use Rattle.desk_node.specs.declared.step.Step.{Step}
use Rattle.desk_types.specs.declared.epoch_packet.Purpose.TheVariants as purposes
use Rattle.desk_replica.specs.Answers.{answers_with_own}
use Rattle.desk_replica.specs.EpochPackets.{packets_under}
use Rattle.desk_replica.specs.declared.answer.Answer.{Answer}
use Rattle.desk_epoch_replica.specs.declared.item.EpochItem.{EpochItem}
use Rattle.desk_epoch_replica.specs.declared.item.EpochItem.TheVariants as items
use Rattle.desk_epoch_replica.specs.declared.replica_step.ReplicaStep.{ReplicaStep}
use Rattle.desk_epoch_replica.specs.declared.replica_step.ReplicaStep.TheVariants as out
use Rattle.desk_epoch_replica.specs.Deferring.{AfterTick, DoesReplicaItem, HasAdded, IsPut, PutsNothing, Retries}
use Rattle.desk_epoch_replica.specs.Deferring.{RunsOn, Sends}
use Rattle.desk_epoch_replica.specs.Deferring.{deferred_after, first_held, held_after}
use Rattle.desk_epoch_replica.specs.DeferringSaves.{runs_further}
use Rattle.desk_epoch_replica.specs.Follows.{ReplicaFollows, ReplicaRefuses}
use Rattle.desk_epoch_replica.specs.InOrder.{replica_still}
use Rattle.desk_epoch_replica.specs.Outgoing.{is_node_step, own_answer, own_outcomes, own_packets, step_answers}
use Rattle.desk_epoch_replica.specs.ReplicaValue.{ReplicaValue, with_stores}

-- The replica runs on where it follows what it was, with the same stores,
pub follows_runs : {T S : Type 0} (may_hold : T → ℕ → SavedValue → Type 0) (old new : ReplicaValue T S) →
    ReplicaFollows old new → RunsOn may_hold old new
follows_runs may_hold old new (same, inl h) = (
  λ e s held. subst (λ t. may_hold t e s) same.stores_are held,
  (
    record { stores_are = refl; current_is = same.current_is; next_is = same.next_is },
    inl (record { node = h.node; reported_is = h.reported_is; unsaved_is = h.unsaved_is }),
  ),
)
follows_runs may_hold old new (same, inr h) = (
  λ e s held. subst (λ t. may_hold t e s) same.stores_are held,
  (
    record { stores_are = refl; current_is = same.current_is; next_is = same.next_is },
    inr (record {
      log = h.log;
      node = h.node;
      none = h.none;
      ready = h.ready;
      reported_is = h.reported_is;
      unsaved_is = h.unsaved_is;
    }),
  ),
)

still_runs : {T S : Type 0} (may_hold : T → ℕ → SavedValue → Type 0) (old new : ReplicaValue T S) → new ≡ old →
    RunsOn may_hold old new
still_runs {T} {S} may_hold old new is =
    subst (λ (r : ReplicaValue T S). RunsOn may_hold old r) (sym is) (λ e s held. held, replica_still old)

-- and where the packets of a step go out.
pub sends_runs : {T S : Type 0} (may_hold : T → ℕ → SavedValue → Type 0) (old new : ReplicaValue T S)
    (step : ReplicaStep) (packets : List (ℕ × EpochPacket)) → Sends may_hold old step packets new →
    RunsOn may_hold old new
sends_runs {T} {S} may_hold old new (out.Tell to epoch base) packets (is, no_more, told) = (
  no_more,
  subst (λ (r : ReplicaValue T S). ReplicaFollows (with_stores new.stores old) r) (sym is)
      (replica_still (with_stores new.stores old)),
)
sends_runs may_hold old new out.Nothing packets p = still_runs may_hold old new p.1
sends_runs may_hold old new out.Replaced packets p = still_runs may_hold old new p.1
sends_runs may_hold old new (out.Own epoch base step) packets p = still_runs may_hold old new p.1
sends_runs may_hold old new (out.Answer answer) packets p = still_runs may_hold old new p.1
sends_runs may_hold old new (out.Ask epoch to packet) packets p = still_runs may_hold old new p.1
sends_runs may_hold old new (out.AskAll epoch sent) packets p = still_runs may_hold old new p.1
sends_runs may_hold old new (out.Began epoch sent) packets p = still_runs may_hold old new p.1

-- An item was done, and then its packets went out.
pub acted_runs : {T S : Type 0} (may_hold : T → ℕ → SavedValue → Type 0) (start old mid new : ReplicaValue T S)
    (step : ReplicaStep) (packets : List (ℕ × EpochPacket)) → start ≡ old → ReplicaFollows start mid →
    Sends may_hold mid step packets new → RunsOn may_hold old new
acted_runs {T} {S} may_hold start old mid new step packets is f sends =
    runs_further may_hold old mid new
    (follows_runs may_hold old mid (subst (λ (r : ReplicaValue T S). ReplicaFollows r mid) is f))
    (sends_runs may_hold mid new step packets sends)

-- The replica follows what it was before room was made.
pub roomy_follows : {T S : Type 0} (may_hold : T → ℕ → SavedValue → Type 0) (start old new : ReplicaValue T S) →
    start ≡ old → ReplicaFollows start new → RunsOn may_hold old new
roomy_follows {T} {S} may_hold start old new is f =
    follows_runs may_hold old new (subst (λ (r : ReplicaValue T S). ReplicaFollows r new) is f)

-- and what it did then is what it does
pub roomy_does : {T S : Type 0} (start old mid : ReplicaValue T S) (item : EpochItem) (step : ReplicaStep) →
    start ≡ old → DoesReplicaItem start item step mid → DoesReplicaItem old item step mid
roomy_does {T} {S} start old mid item step is does =
    subst (λ (r : ReplicaValue T S). DoesReplicaItem r item step mid) is does

-- a tick whose step is not the node's own
pub after_other : {T S : Type 0} (may_hold : T → ℕ → SavedValue → Type 0) (old new : ReplicaValue T S)
    (deferred held : List Entry) (step : ReplicaStep) (packets : List (ℕ × EpochPacket)) (given : List Answer) →
    is_node_step step ≡ false → Sends may_hold old step packets new → given ≡ step_answers step →
    held ≡ deferred_after deferred step → AfterTick may_hold old deferred step packets given new held
after_other may_hold old new deferred held (out.Own epoch base step) packets given other s g h =
    absurd (let no : ⊥ = cc in no)
after_other may_hold old new deferred held out.Nothing packets given other s g h = (s, g, h)
after_other may_hold old new deferred held out.Replaced packets given other s g h = (s, g, h)
after_other may_hold old new deferred held (out.Answer answer) packets given other s g h = (s, g, h)
after_other may_hold old new deferred held (out.Ask epoch to packet) packets given other s g h = (s, g, h)
after_other may_hold old new deferred held (out.AskAll epoch sent) packets given other s g h = (s, g, h)
after_other may_hold old new deferred held (out.Tell to epoch base) packets given other s g h = (s, g, h)
after_other may_hold old new deferred held (out.Began epoch sent) packets given other s g h = (s, g, h)

-- a step of another kind sends nothing of the node's own
pub other_sends : (step : ReplicaStep) → is_node_step step ≡ false → own_packets step ≡ []
other_sends (out.Own epoch base step) other = absurd (let no : ⊥ = cc in no)
other_sends out.Nothing other = refl
other_sends out.Replaced other = refl
other_sends (out.Answer answer) other = refl
other_sends (out.Ask epoch to packet) other = refl
other_sends (out.AskAll epoch sent) other = refl
other_sends (out.Tell to epoch base) other = refl
other_sends (out.Began epoch sent) other = refl

-- and answers nothing
pub other_answers : (step : ReplicaStep) → is_node_step step ≡ false → own_outcomes step ≡ []
other_answers (out.Own epoch base step) other = absurd (let no : ⊥ = cc in no)
other_answers out.Nothing other = refl
other_answers out.Replaced other = refl
other_answers (out.Answer answer) other = refl
other_answers (out.Ask epoch to packet) other = refl
other_answers (out.AskAll epoch sent) other = refl
other_answers (out.Tell to epoch base) other = refl
other_answers (out.Began epoch sent) other = refl

-- What came of a request that the node of the epoch did not meet is put.
pub put_other : (made other : ReplicaStep) (deferred held : List Entry) (answer : Option Answer) → other ≡ made →
    is_node_step made ≡ false → answer ≡ own_answer other → held ≡ held_after deferred other →
    IsPut made deferred [] [] answer held
put_other made other deferred held answer is own a h =
    inl (
      h ∙ ap (λ (s : ReplicaStep). held_after deferred s) is,
      sym (other_sends made own),
      sym (other_answers made own),
      a ∙ ap own_answer is,
    )

pub puts_nothing : (old new : Step) → new ≡ old → HasAdded old [] [] new
puts_nothing old new is =
    subst (λ (s : Step). HasAdded old [] [] s) (sym is)
    (sym (append-nil old.packets.items), sym (append-nil old.answers.items))

-- No request is held,
pub retries_none : {T S : Type 0} (old : ReplicaValue T S) (deferred : List Entry) → first_held deferred ≡ None →
    Retries old deferred [] [] None old deferred
retries_none old [] none = (refl, (refl, refl, refl, refl))
retries_none old (entry ∷ more) none = absurd (none-some entry (sym none))

-- or the first is done again, or refused.
pub retries_some : {T S : Type 0} (old new : ReplicaValue T S) (deferred : List Entry) (entry : Entry)
    (packets : List (ℕ × Message)) (outcomes : List Outcome) (own : Option Answer) (held : List Entry) →
    first_held deferred ≡ Some entry →
    (((step : ReplicaStep) × DoesReplicaItem old (items.Request entry) step new
    × IsPut step deferred packets outcomes own held)
    ⊎ (ReplicaRefuses old new × PutsNothing deferred packets outcomes own held)) →
    Retries old deferred packets outcomes own new held
retries_some old new [] entry packets outcomes own held is done = absurd (none-some entry is)
retries_some old new (one ∷ more) entry packets outcomes own held is done =
    subst (λ (e : Entry). ((step : ReplicaStep) × DoesReplicaItem old (items.Request e) step new
    × IsPut step (one ∷ more) packets outcomes own held)
    ⊎ (ReplicaRefuses old new × PutsNothing (one ∷ more) packets outcomes own held))
    (sym (same_Some one entry is)) done

-- The node of the epoch did a tick, and a request was done again after it.
pub ticked_own : {T S : Type 0} (may_hold : T → ℕ → SavedValue → Type 0) (old new : ReplicaValue T S)
    (roomy deferred held : List Entry) (epoch base : ℕ) (step now : Step) (packets : List (ℕ × EpochPacket))
    (given : List Answer) (more : List (ℕ × Message)) (outcomes : List Outcome) (own : Option Answer) →
    roomy ≡ deferred → Retries old roomy more outcomes own new held → HasAdded step more outcomes now →
    packets ≡ packets_under epoch purposes.Step now.packets.items →
    given ≡ answers_with_own base now.answers.items own →
    AfterTick may_hold old deferred (out.Own epoch base step) packets given new held
ticked_own may_hold old new roomy deferred held epoch base step now packets given more outcomes own same again put p
    g = (
      more,
      outcomes,
      own,
      subst (λ (ds : List Entry). Retries old ds more outcomes own new held) same again,
      p ∙ ap (λ (sent : List (ℕ × Message)). packets_under epoch purposes.Step sent) put.0,
      g ∙ ap (λ (os : List Outcome). answers_with_own base os own) put.1,
    )

-- A copy of the first request that is held was done again, and what came of it was put.
pub retried_copy : {T S : Type 0} (old mid new : ReplicaValue T S) (deferred held : List Entry) (entry copy : Entry)
    (made : ReplicaStep) (packets : List (ℕ × Message)) (outcomes : List Outcome) (own : Option Answer) →
    first_held deferred ≡ Some entry → copy ≡ entry → DoesReplicaItem old (items.Request copy) made mid → new ≡ mid →
    IsPut made deferred packets outcomes own held → Retries old deferred packets outcomes own new held
retried_copy {T} {S} old mid new deferred held entry copy made packets outcomes own is same does put_in put =
    retries_some old new deferred entry packets outcomes own held is
    (inl (
      made,
      subst (λ (r : ReplicaValue T S). DoesReplicaItem old (items.Request entry) made r) (sym put_in)
          (subst (λ (e : Entry). DoesReplicaItem old (items.Request e) made mid) same does),
      put,
    ))

-- Memory was refused for it.
pub retried_refused : {T S : Type 0} (old new : ReplicaValue T S) (deferred : List Entry) (entry : Entry) →
    first_held deferred ≡ Some entry → ReplicaRefuses old new → Retries old deferred [] [] None new deferred
retried_refused old new deferred entry is refused =
    retries_some old new deferred entry [] [] None deferred is (inr (refused, (refl, refl, refl, refl)))

-- the first of a list, in the word for it here
pub get_first : (deferred : List Entry) → slice_get deferred 0 ≡ first_held deferred
get_first [] = refl
get_first (entry ∷ more) = refl
