-- Steps of a desk over epochs at one node, in one epoch.
use Rattle.std.proofs.Common.{◌≡◌, ◌≢◌, ◌⊎◌, ℕ, zero, suc, ◌+◌, ◌<◌, ◌≤◌, true, if◌then◌else◌, List, [], ◌∷◌, ◌++◌}
use Rattle.std.proofs.Common.{length, Some, refl, sym, ap, ◌∙◌, inl, inr, ⊎_elim, subst, arith, rules, eqb, ltb}
use Rattle.std.proofs.Common.{get_or}
use Rattle.std.specs.List.{slice_get, Contains}
use Rattle.std.proofs.lemmas.Bool.{cases_eq, eq-eqb, ne_eqb}
use Rattle.std.proofs.lemmas.List.{append-nil, append_assoc, get_or-set_same, get_or-set_other}
use Rattle.std.proofs.lemmas.Option.{same_Some}
use Rattle.std.proofs.lemmas.List.Elements.{Contains-append_left, Contains-append_right, Contains-append_cases}
use Rattle.desk_types.specs.Group.{IsGroup}
use Rattle.desk_types.specs.declared.command.Entry.{Entry}
use Rattle.desk_types.specs.declared.limits.TheConstants.{LAST_VIEW}
use Rattle.desk_types.specs.declared.packet.Message.{Message}
use Rattle.desk_types.specs.declared.packet.Message.TheVariants.{StartViewChange}
use Rattle.desk_log.specs.Change.{to_others}
use Rattle.desk_log.specs.SavedValue.{in_view, initial_saved}
use Rattle.desk_view_change.specs.Rules.{on_suspect, view_requests}
use Rattle.desk_node.specs.declared.event.Event.{Event}
use Rattle.desk_node.specs.declared.event.Event.TheVariants as events
use Rattle.desk_node.specs.Rules.{node_step}
use Rattle.desk_node.specs.State.{State, NodeStep}
use Rattle.desk_world.specs.declared.world_event.WorldEvent.{WorldEvent}
use Rattle.desk_world.specs.declared.world_event.WorldEvent.TheVariants.{Request, Deliver, Resend, Suspect, Restart}
use Rattle.desk_world.specs.World.{World, world, world_after_step, world_after_event, packet_at, world_after}
use Rattle.desk_world.specs.World.{first_state, first_world, node_of_world}
use Rattle.desk_world.proofs.Agree.{world_invariant}
use Rattle.desk_world.specs.Requested.{IsRequested}
use Rattle.desk_world.proofs.Packets.{Contains-none, Contains-one}
use Rattle.desk_world.proofs.WorldInvariants.{world_from-append}
use Rattle.desk_epochs.specs.Epochs.{Epochs, IsNewFor, epoch_of, joined_logs}
use Rattle.desk_epochs.proofs.Epochs.{leads_on}
use Rattle.desk_epoch_node.specs.Laws.{suspected}
use Rattle.desk_epoch_node.proofs.EpochEnds.{suspicions_lead}
use Rattle.desk_epoch_group.specs.Agreement.{Lead, ending_after}
use Rattle.desk_epoch_group.specs.Group.{IsAt}

-- the world of an epoch
abbrev pub epoch_world : List ℕ → ℕ → Epochs → ℕ → World
epoch_world domain n d epoch = world domain n (d.runs epoch)

-- Each request that was made in an epoch is one that came.
abbrev pub OnlyCame : (Entry → Type 0) → Epochs → Type 0
OnlyCame Came d = (epoch : ℕ) (e : Entry) → IsRequested (d.runs epoch) e → Came e

-- After the events of a world each of these is one at node i, and a request among them is new beside a log.
abbrev pub AreAt : List ℕ → ℕ → ℕ → List Entry → List WorldEvent → List WorldEvent → Type 0
AreAt domain n i past run [] = Unit {0}
AreAt domain n i past run (event ∷ more) =
    IsAt i (world domain n run) event × IsNewFor past event × AreAt domain n i past (run ++ event ∷ []) more

at_append : (domain : List ℕ) (n i : ℕ) (past : List Entry) (run xs ys : List WorldEvent) →
    AreAt domain n i past run xs → AreAt domain n i past (run ++ xs) ys → AreAt domain n i past run (xs ++ ys)
at_append domain n i past run [] ys a b =
    subst (λ (es : List WorldEvent). AreAt domain n i past es ys) (append-nil run) b
at_append domain n i past run (x ∷ xs) ys (at, new, rest) b = (
  at,
  new,
  at_append domain n i past (run ++ x ∷ []) xs ys rest
      (subst (λ (es : List WorldEvent). AreAt domain n i past es ys) (sym (append_assoc run (x ∷ []) xs)) b),
)

-- Steps lead from a desk to one in which node i of an epoch is in this state, and these packets were sent in the epoch.
-- No other node has changed, no other epoch, and nothing that nodes have behind them. What happened are events at node
-- i. Where only requests that came were made before, so it is there.
pub record Leads (domain : List ℕ) (n most : ℕ) (Came : Entry → Type 0) (i epoch : ℕ) (d : Epochs) (s : State)
    (packets : List (ℕ × Message)) : Type 0 where
  pub count : ℕ
  pub later : Epochs
  pub lead : Lead domain n most count d later
  pub more : List WorldEvent
  pub run_is : later.runs epoch ≡ d.runs epoch ++ more
  pub at : AreAt domain n i (joined_logs (d.pasts i)) (d.runs epoch) more
  pub pasts_are : (j : ℕ) → later.pasts j ≡ d.pasts j
  pub elsewhere : (k : ℕ) → k ≢ epoch → later.runs k ≡ d.runs k
  pub here : node_of_world (epoch_world domain n later epoch) i ≡ s
  pub there : (j : ℕ) → j ≢ i →
      node_of_world (epoch_world domain n later epoch) j ≡ node_of_world (epoch_world domain n d epoch) j
  pub sent : (x : ℕ × Message) → Contains (epoch_world domain n d epoch).packets x ⊎ Contains packets x →
      Contains (epoch_world domain n later epoch).packets x
  pub came : OnlyCame Came d → OnlyCame Came later

pub leads_none : (domain : List ℕ) (n most : ℕ) (Came : Entry → Type 0) (i epoch : ℕ) (d : Epochs) →
    Leads domain n most Came i epoch d (node_of_world (epoch_world domain n d epoch) i) []
leads_none domain n most Came i epoch d = record {
  count = 0;
  later = d;
  lead = refl;
  more = [];
  run_is = sym (append-nil (d.runs epoch));
  at = tt;
  pasts_are = λ j. refl;
  elsewhere = λ k ne. refl;
  here = refl;
  there = λ j ne. refl;
  sent = λ x c. ⊎_elim (λ a. a) (λ a. absurd (Contains-none x a)) c;
  came = λ before. before;
}

pub leads_then : (domain : List ℕ) (n most : ℕ) (Came : Entry → Type 0) (i epoch : ℕ) (d : Epochs) (s t : State)
    (ps qs : List (ℕ × Message)) → (m : Leads domain n most Came i epoch d s ps) →
    Leads domain n most Came i epoch m.later t qs → Leads domain n most Came i epoch d t (ps ++ qs)
leads_then domain n most Came i epoch d s t ps qs m k = record {
  count = m.count + k.count;
  later = k.later;
  lead = leads_on domain (ending_after most) (λ e. n) m.count k.count d m.later k.later m.lead k.lead;
  more = m.more ++ k.more;
  run_is = k.run_is ∙ (ap (λ (es : List WorldEvent). es ++ k.more) m.run_is
      ∙ append_assoc (d.runs epoch) m.more k.more);
  at = at_append domain n i (joined_logs (d.pasts i)) (d.runs epoch) m.more k.more m.at
      (subst (λ (es : List WorldEvent). AreAt domain n i (joined_logs (d.pasts i)) es k.more) m.run_is
      (subst (λ (ls : List (List Entry)). AreAt domain n i (joined_logs ls) (m.later.runs epoch) k.more)
      (m.pasts_are i) k.at));
  pasts_are = λ j. k.pasts_are j ∙ m.pasts_are j;
  elsewhere = λ e ne. k.elsewhere e ne ∙ m.elsewhere e ne;
  here = k.here;
  there = λ j ne. k.there j ne ∙ m.there j ne;
  sent = λ x c. ⊎_elim
      (λ a. k.sent x (inl (m.sent x (inl a))))
      (λ a. ⊎_elim
      (λ b. k.sent x (inl (m.sent x (inr b))))
      (λ b. k.sent x (inr b))
      (Contains-append_cases ps qs x a))
      c;
  came = λ before. k.came (m.came before);
}

-- the same, of some of the packets, and of an equal state
pub leads_as : (domain : List ℕ) (n most : ℕ) (Came : Entry → Type 0) (i epoch : ℕ) (d : Epochs) (s t : State)
    (ps qs : List (ℕ × Message)) → s ≡ t → ((x : ℕ × Message) → Contains qs x → Contains ps x) →
    Leads domain n most Came i epoch d s ps → Leads domain n most Came i epoch d t qs
leads_as domain n most Came i epoch d s t ps qs same some m = record {
  count = m.count;
  later = m.later;
  lead = m.lead;
  more = m.more;
  run_is = m.run_is;
  at = m.at;
  pasts_are = m.pasts_are;
  elsewhere = m.elsewhere;
  here = m.here ∙ same;
  there = m.there;
  sent = λ x c. m.sent x (⊎_elim (λ a. inl a) (λ a. inr (some x a)) c);
  came = m.came;
}

-- one event more in an epoch
with_event : Epochs → ℕ → WorldEvent → Epochs
with_event d epoch event = record {
  runs = λ k. if eqb k epoch then d.runs k ++ event ∷ [] else d.runs k;
  pasts = d.pasts;
}

same_run : (d : Epochs) (epoch : ℕ) (event : WorldEvent) →
    (with_event d epoch event).runs epoch ≡ d.runs epoch ++ event ∷ []
unfolding with_event
same_run d epoch event =
    ap (λ b. if b then d.runs epoch ++ event ∷ [] else d.runs epoch) (eq-eqb epoch epoch refl)

other_run : (d : Epochs) (epoch : ℕ) (event : WorldEvent) (k : ℕ) → k ≢ epoch →
    (with_event d epoch event).runs k ≡ d.runs k
unfolding with_event
other_run d epoch event k ne = ap (λ b. if b then d.runs k ++ event ∷ [] else d.runs k) (ne_eqb k epoch ne)

same_pasts : (d : Epochs) (epoch : ℕ) (event : WorldEvent) (j : ℕ) → (with_event d epoch event).pasts j ≡ d.pasts j
unfolding with_event
same_pasts d epoch event j = refl

get_some : {X : Type 0} (xs : List X) (i : ℕ) (d : X) → i < length xs → slice_get xs i ≡ Some (get_or xs i d)
get_some [] i d l = absurd (omega (arith, l))
get_some (x ∷ xs) zero d l = refl
get_some (x ∷ xs) (suc i) d l = get_some xs i d (omega (arith, l))

comes_at : (domain : List ℕ) (n i : ℕ) (w : World) (event : Event) → i < length w.nodes →
    world_after_event domain n w i event ≡ world_after_step w i (node_step domain i n (node_of_world w i) event)
comes_at domain n i w event within = rw (get_some w.nodes i first_state within) refl

-- the state and the packets of node i after an event in its epoch
abbrev pub step_in : List ℕ → ℕ → ℕ → ℕ → Epochs → Event → NodeStep
step_in domain n i epoch d event = node_step domain i n (node_of_world (epoch_world domain n d epoch) i) event

-- One event more is no other request than one that came.
event_came : (Came : Entry → Type 0) (d : Epochs) (epoch : ℕ) (event : WorldEvent) →
    ((i : ℕ) (e : Entry) → event ≡ Request i e → Came e) → OnlyCame Came d → OnlyCame Came (with_event d epoch event)
event_came Came d epoch event new before k e asked = by_epoch (cases_eq k epoch)
  where
    by_epoch : (k ≡ epoch) ⊎ (k ≢ epoch) → Came e
    by_epoch (inl same) =
        let run : (with_event d epoch event).runs k ≡ d.runs epoch ++ event ∷ [] =
        ap (λ j. (with_event d epoch event).runs j) same ∙ same_run d epoch event in
        ⊎_elim
        (λ old. before epoch e (record { node = asked.node; asked = old }))
        (λ last. new asked.node e (Contains-one event (Request asked.node e) last))
        (Contains-append_cases (d.runs epoch) (event ∷ []) (Request asked.node e)
        (subst (λ (es : List WorldEvent). Contains es (Request asked.node e)) run asked.asked))
    by_epoch (inr ne) =
        before k e
        (subst (λ (es : List WorldEvent). IsRequested es e) (other_run d epoch event k ne) asked)

-- An event that comes to node i, which is in the epoch.
pub leads_event : (domain : List ℕ) (n most : ℕ) (Came : Entry → Type 0) (i epoch : ℕ) (d : Epochs) (e : WorldEvent)
    (event : Event) → IsGroup n → i < n → epoch ≡ epoch_of d i → IsNewFor (joined_logs (d.pasts i)) e →
    ((j : ℕ) (x : Entry) → e ≡ Request j x → Came x) → IsAt i (epoch_world domain n d epoch) e →
    world_after domain n (epoch_world domain n d epoch) e ≡
    world_after_event domain n (epoch_world domain n d epoch) i event →
    Leads domain n most Came i epoch d (step_in domain n i epoch d event).node (step_in domain n i epoch d
    event).packets
leads_event domain n most Came i epoch d e event group small at new may is_at comes =
    let w : World = epoch_world domain n d epoch in
    let later : Epochs = with_event d epoch e in
    let step : NodeStep = node_step domain i n (node_of_world w i) event in
    let within : i < length w.nodes =
    subst (λ m. i < m) (sym (world_invariant domain n (d.runs epoch) group).count) small in
    let run : later.runs epoch ≡ d.runs epoch ++ e ∷ [] = same_run d epoch e in
    let is_world : epoch_world domain n later epoch ≡ world_after_step w i step =
    ap (λ (es : List WorldEvent). world domain n es) run
    ∙ (world_from-append domain n (first_world n) (d.runs epoch) (e ∷ [])
    ∙ (comes ∙ comes_at domain n i w event within)) in
    record {
      count = 1;
      later = later;
      lead = (
        later,
        inl (record {
          node = i;
          event = e;
          is_new = new;
          here = subst (λ k. later.runs k ≡ d.runs k ++ e ∷ []) at run;
          there = λ k ne. other_run d epoch e k (λ same. ne (same ∙ at));
          pasts_are = λ j. same_pasts d epoch e j;
        }),
        refl,
      );
      more = e ∷ [];
      run_is = run;
      at = (is_at, new, tt);
      pasts_are = λ j. same_pasts d epoch e j;
      elsewhere = λ k ne. other_run d epoch e k ne;
      here = ap (λ (x : World). node_of_world x i) is_world ∙ get_or-set_same w.nodes i step.node first_state within;
      there = λ j ne. ap (λ (x : World). node_of_world x j) is_world
          ∙ get_or-set_other w.nodes i j step.node first_state ne;
      sent = λ x c. subst (λ (ps : List (ℕ × Message)). Contains ps x) (sym (ap (λ (y : World). y.packets) is_world))
          (⊎_elim
          (λ a. Contains-append_left w.packets step.packets x a)
          (λ a. Contains-append_right w.packets step.packets x a)
          c);
      came = λ before. event_came Came d epoch e may before;
    }

-- tests that tell events apart

IsNoRequest : WorldEvent → Type 0
IsNoRequest (Request i entry) = ⊥
IsNoRequest (Deliver k) = Unit {0}
IsNoRequest (Resend i) = Unit {0}
IsNoRequest (Suspect i) = Unit {0}
IsNoRequest (Restart i) = Unit {0}

requested_or : Entry → WorldEvent → Entry
requested_or other (Request i entry) = entry
requested_or other (Deliver k) = other
requested_or other (Resend i) = other
requested_or other (Suspect i) = other
requested_or other (Restart i) = other

not_request : (event : WorldEvent) (j : ℕ) (x : Entry) → IsNoRequest event → event ≡ Request j x → ⊥
unfolding IsNoRequest
not_request event j x quiet same = subst IsNoRequest same quiet

same_entry : (i j : ℕ) (e x : Entry) → Request i e ≡ Request j x → e ≡ x
unfolding requested_or
same_entry i j e x same = ap (requested_or e) same

-- the events that come to a node, as events of its epoch's world

pub leads_request : (domain : List ℕ) (n most : ℕ) (Came : Entry → Type 0) (i epoch : ℕ) (d : Epochs) (entry : Entry) →
    IsGroup n → i < n → epoch ≡ epoch_of d i → IsNewFor (joined_logs (d.pasts i)) (Request i entry) → Came entry →
    Leads domain n most Came i epoch d (step_in domain n i epoch d (events.Request entry)).node (step_in domain n i
    epoch d (events.Request entry)).packets
unfolding world_after
leads_request domain n most Came i epoch d entry group small at new came =
    leads_event domain n most Came i epoch d (Request i entry) (events.Request entry) group small at new
    (λ j x same. subst Came (same_entry i j entry x same) came) refl refl

pub leads_packet : (domain : List ℕ) (n most : ℕ) (Came : Entry → Type 0) (i epoch : ℕ) (d : Epochs) (p : Message) →
    IsGroup n → i < n → epoch ≡ epoch_of d i → Contains (epoch_world domain n d epoch).packets (i, p) →
    Leads domain n most Came i epoch d (step_in domain n i epoch d (events.Packet p)).node (step_in domain n i epoch d
    (events.Packet p)).packets
unfolding world_after IsNoRequest
leads_packet domain n most Came i epoch d p group small at c =
    let w : World = epoch_world domain n d epoch in
    let there : packet_at w.packets (suc c.0) ≡ Some (i, p) = get_some w.packets c.0 (i, p) c.1 ∙ ap Some c.2 in
    leads_event domain n most Came i epoch d (Deliver (suc c.0)) (events.Packet p) group small at tt
    (λ j x same. absurd (not_request (Deliver (suc c.0)) j x tt same))
    (λ sent h. ap (λ (x : ℕ × Message). x.0) (sym (same_Some (i, p) sent (sym there ∙ h)))) (rw there refl)

pub leads_resend : (domain : List ℕ) (n most : ℕ) (Came : Entry → Type 0) (i epoch : ℕ) (d : Epochs) → IsGroup n →
    i < n → epoch ≡ epoch_of d i → Leads domain n most Came i epoch d (step_in domain n i epoch d events.Resend).node
    (step_in domain n i epoch d events.Resend).packets
unfolding world_after IsNoRequest
leads_resend domain n most Came i epoch d group small at =
    leads_event domain n most Came i epoch d (Resend i) events.Resend group small at tt
    (λ j x same. absurd (not_request (Resend i) j x tt same)) refl refl

pub leads_suspect : (domain : List ℕ) (n most : ℕ) (Came : Entry → Type 0) (i epoch : ℕ) (d : Epochs) → IsGroup n →
    i < n → epoch ≡ epoch_of d i → Leads domain n most Came i epoch d (step_in domain n i epoch d events.Suspect).node
    (step_in domain n i epoch d events.Suspect).packets
unfolding world_after IsNoRequest
leads_suspect domain n most Came i epoch d group small at =
    leads_event domain n most Came i epoch d (Suspect i) events.Suspect group small at tt
    (λ j x same. absurd (not_request (Suspect i) j x tt same)) refl refl

pub leads_restart : (domain : List ℕ) (n most : ℕ) (Came : Entry → Type 0) (i epoch : ℕ) (d : Epochs) → IsGroup n →
    i < n → epoch ≡ epoch_of d i → Leads domain n most Came i epoch d (step_in domain n i epoch d events.Restart).node
    (step_in domain n i epoch d events.Restart).packets
unfolding world_after IsNoRequest
leads_restart domain n most Came i epoch d group small at =
    leads_event domain n most Came i epoch d (Restart i) events.Restart group small at tt
    (λ j x same. absurd (not_request (Restart i) j x tt same)) refl refl

-- what a first node sends that suspects once more
suspect_sends : (domain : List ℕ) (i n k : ℕ) → suc k ≤ LAST_VIEW →
    (node_step domain i n (record { saved = in_view k initial_saved; received = [] }) events.Suspect).packets
    ≡ view_requests i n 0 (suc k)
unfolding node_step on_suspect
suspect_sends domain i n k h =
    let below : ltb k LAST_VIEW ≡ true = search (rules, arith) in
    let next : k + 1 ≡ suc k = omega arith in
    let more : ltb k (suc k) ≡ true = search (rules, arith) in
    let first : ltb 0 (suc k) ≡ true = search (rules, arith) in
    rw below
    (append-nil (view_requests i n k (k + 1))
    ∙ (ap (λ v. view_requests i n k v) next
    ∙ ap (λ b. if b then to_others i n (StartViewChange i (suc k)) else []) (more ∙ sym first)))

-- A first node suspects its primary so many times.
pub leads_suspicions : (domain : List ℕ) (n most : ℕ) (Came : Entry → Type 0) (i epoch : ℕ) (d : Epochs) → IsGroup n →
    i < n → epoch ≡ epoch_of d i → node_of_world (epoch_world domain n d epoch) i ≡ first_state → (k : ℕ) →
    k ≤ LAST_VIEW → Leads domain n most Came i epoch d (suspected domain i n k) (view_requests i n 0 k)
leads_suspicions domain n most Came i epoch d group small at fresh zero h =
    leads_as domain n most Came i epoch d _ first_state [] (view_requests i n 0 0) fresh (λ x c. c)
    (leads_none domain n most Came i epoch d)
leads_suspicions domain n most Came i epoch d group small at fresh (suc k) h =
    let below : k ≤ LAST_VIEW = omega (arith, h) in
    let m : Leads domain n most Came i epoch d (suspected domain i n k) (view_requests i n 0 k) =
    leads_suspicions domain n most Came i epoch d group small at fresh k below in
    let again = leads_suspect domain n most Came i epoch m.later group small
    (at ∙ ap (λ (ls : List (List Entry)). length ls) (sym (m.pasts_are i))) in
    let sends : (step_in domain n i epoch m.later events.Suspect).packets ≡ view_requests i n 0 (suc k) =
    ap (λ (s : State). (node_step domain i n s events.Suspect).packets)
    (m.here ∙ suspicions_lead domain i n k below)
    ∙ suspect_sends domain i n k h in
    leads_as domain n most Came i epoch d _ (suspected domain i n (suc k)) _ (view_requests i n 0 (suc k))
    (ap (λ (s : State). (node_step domain i n s events.Suspect).node) m.here)
    (λ x c. Contains-append_right (view_requests i n 0 k) _ x
    (subst (λ (ps : List (ℕ × Message)). Contains ps x) (sym sends) c))
    (leads_then domain n most Came i epoch d _ _ _ _ m again)
