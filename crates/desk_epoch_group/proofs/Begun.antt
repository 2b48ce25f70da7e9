-- What the node of an epoch does, and how a node begins the next, as steps of a desk over epochs.
use Rattle.std.proofs.Common.{◌≡◌, ℕ, suc, ◌+◌, ◌<◌, ◌≤◌, Bool, true, false}
use Rattle.std.proofs.Common.{List, [], ◌∷◌, ◌++◌, length, map, refl, sym, ap}
use Rattle.std.proofs.Common.{◌∙◌}
use Rattle.std.proofs.Common.{inl, inr, ⊎_elim, subst, arith}
use Rattle.std.specs.List.{Contains}
use Rattle.std.proofs.Math.Nat.{mod-lt}
use Rattle.std.proofs.lemmas.Bool.{and_parts}
use Rattle.std.proofs.lemmas.List.{append-nil, length_push}
use Rattle.desk_types.specs.Group.{IsGroup, IsGroupSize}
use Rattle.desk_types.specs.declared.command.Entry.{Entry}
use Rattle.desk_types.specs.declared.limits.TheConstants.{LAST_VIEW}
use Rattle.desk_types.specs.declared.outcome.Outcome.{Outcome}
use Rattle.desk_types.specs.declared.packet.Message.{Message}
use Rattle.desk_log.specs.SavedValue.{SavedValue, committed_entries, in_view, initial_saved}
use Rattle.desk_view_change.specs.Rules.{view_requests}
use Rattle.desk_node.specs.declared.event.Event.{Event}
use Rattle.desk_node.specs.Heard.{Says, silence}
use Rattle.desk_node.specs.NodeValue.{NodeValue, DoesStep, IsSameNode, MakesStep}
use Rattle.desk_node.specs.Rules.{node_step}
use Rattle.desk_node.specs.State.{State}
use Rattle.desk_world.specs.Group.{IsNode}
use Rattle.desk_world.specs.Requested.{IsRequested}
use Rattle.desk_world.specs.World.{World, world, first_state, node_of_world}
use Rattle.desk_world.specs.declared.world_event.WorldEvent.{WorldEvent}
use Rattle.desk_world.proofs.Packets.{Contains-none, Contains-here, Contains-there, Contains-cases}
use Rattle.desk_epochs.specs.Epochs.{Epochs, joined_logs, epoch_of, GoesOver, NextEpochs}
use Rattle.desk_epochs.specs.Histories.{committed_in}
use Rattle.desk_epochs.proofs.Epochs.{joined_push}
use Rattle.desk_epochs.proofs.StepsAtUp.{with_log, goes_over}
use Rattle.desk_types.specs.declared.epoch_packet.EpochPacket.{EpochPacket}
use Rattle.desk_epoch_node.specs.declared.step.EpochStep.{EpochStep}
use Rattle.desk_epoch_node.specs.declared.step.EpochStep.TheVariants as steps
use Rattle.desk_epoch_node.specs.Does.{BeginsAfter, IsOwn}
use Rattle.desk_epoch_node.specs.Does.{is_due, next_view, node_in_view}
use Rattle.desk_epoch_node.specs.Ends.{cut_of, reaches_end}
use Rattle.desk_epoch_node.specs.EpochValue.{EpochValue, acts, committed_cut, has_next}
use Rattle.desk_epoch_node.specs.Laws.{suspected}
use Rattle.desk_epoch_node.specs.PastRows.{PastValue, StandFor}
use Rattle.desk_epoch_node.proofs.EpochEnds.{suspicions_lead}
use Rattle.desk_epoch_group.specs.Agreement.{ending_after}
use Rattle.desk_epoch_group.specs.Group.{EpochNodes, started_again}
use Rattle.desk_epoch_group.specs.Group.{NodeBecomes}
use Rattle.desk_epoch_group.specs.Group.{in_epoch, epoch_packets_of}
use Rattle.desk_epoch_group.specs.Group.{logs_after}
use Rattle.desk_epoch_group.proofs.Leads.{Leads, epoch_world, step_in, leads_none}
use Rattle.desk_epoch_group.proofs.Leads.{leads_suspicions}
use Rattle.desk_epoch_group.proofs.Standing.{PacketStands, GroupStands, GoesOn, Changes}
use Rattle.desk_epoch_group.proofs.Standing.{leads_change, stays_packet, becomes}

-- what the node of the epoch does, as a step of the world's node
pub record OwnStands (domain : List ℕ) (n i : ℕ) (event : Event) (s : State) (new : NodeValue)
    (packets : List (ℕ × Message)) : Type 0 where
  pub is : IsNode domain n i new (node_step domain i n s event).node
  pub packets_are : packets ≡ (node_step domain i n s event).packets

pub own_stands : (domain : List ℕ) (n i : ℕ) (old : NodeValue) (s : State) (event : Event) (new : NodeValue)
    (packets : List (ℕ × Message)) (answers : List Outcome) → IsNode domain n i old s →
    DoesStep old event new packets answers → IsSameNode old new → OwnStands domain n i event s new packets
own_stands domain n i old s event new packets answers is does same =
    let said : Says old.n old.saved.view s.received old.heard = rw (is.n_is, is.saved_is) is.says in
    let state : State = record { saved = old.saved; received = s.received } in
    let state_is : state ≡ s = ap (λ (x : SavedValue). record { saved = x; received = s.received }) is.saved_is in
    let first : MakesStep (node_step old.domain old.id old.n state event) old.n new.saved new.heard packets answers =
    does s.received said in
    let d : MakesStep (node_step domain i n s event) n new.saved new.heard packets answers =
    subst (λ (x : State). MakesStep (node_step domain i n x event) n new.saved new.heard packets answers) state_is
    (subst (λ (x : List ℕ). MakesStep (node_step x i n state event) n new.saved new.heard packets answers) is.domain_is
    (subst (λ (k : ℕ). MakesStep (node_step old.domain k n state event) n new.saved new.heard packets answers) is.id_is
    (subst
    (λ (m : ℕ). MakesStep (node_step old.domain old.id m state event) m new.saved new.heard packets answers) is.n_is
    first))) in
    record {
      is = record {
        domain_is = same.domain_is ∙ is.domain_is;
        id_is = same.id_is ∙ is.id_is;
        n_is = same.n_is ∙ is.n_is;
        saved_is = d.saved_is;
        says =
            subst (λ (x : SavedValue). Says n x.view (node_step domain i n s event).node.received new.heard) d.saved_is
            d.says;
      };
      packets_are = d.packets_are;
    }

-- packets that were sent in an epoch's world, as packets of its rules
in_epoch_stands : (domain : List ℕ) (n : ℕ) (d : Epochs) (epoch : ℕ) (ps : List (ℕ × Message)) →
    ((x : ℕ × Message) → Contains ps x → Contains (epoch_world domain n d epoch).packets x) → (to : ℕ)
    (p : EpochPacket) → Contains (map (in_epoch epoch) ps) (to, p) →
    PacketStands domain n d to p.purpose p.epoch p.packet
in_epoch_stands domain n d epoch [] f to p c = absurd (Contains-none (to, p) c)
in_epoch_stands domain n d epoch (x ∷ xs) f to p c =
    ⊎_elim
    (λ e. subst (λ (y : ℕ × EpochPacket). PacketStands domain n d y.0 y.1.purpose y.1.epoch y.1.packet) e
    (f x (Contains-here x xs)))
    (λ a. in_epoch_stands domain n d epoch xs (λ y b. f y (Contains-there x xs y b)) to p a)
    (Contains-cases (in_epoch epoch x) (map (in_epoch epoch) xs) (to, p) c)

-- The node of the epoch does what the world's node does.
pub own_goes_on : (domain : List ℕ) (n most : ℕ) (Came : Entry → Type 0) (i : ℕ) (old new : EpochNodes) (d : Epochs)
    (event : Event) (value : EpochValue) (step : EpochStep) → GroupStands domain n most Came old d →
    IsOwn (old.values i) event value step → NodeBecomes n i old value (logs_after (old.logs i) step)
    (epoch_packets_of (old.values i) (old.logs i) step) new → Leads domain n most Came i (old.values i).epoch d (step_in
    domain n i (old.values i).epoch d event).node (step_in domain n i (old.values i).epoch d event).packets → GoesOn
    domain n most Came d new
own_goes_on domain n most Came i old new d event value (steps.Own made) g o b m =
    let a = g.nodes i in
    let epoch : ℕ = (old.values i).epoch in
    let s : State = node_of_world (epoch_world domain n d epoch) i in
    let w : OwnStands domain n i event s value.node made.packets.items =
    own_stands domain n i (old.values i).node s event value.node made.packets.items made.answers.items a.node o.step
    o.same in
    let c = leads_change domain n most Came i epoch d _ _ m in
    becomes domain n most Came i epoch old new d value (old.logs i) [] _ _ _ g b o.epoch_is c
    (sym (append-nil (old.logs i))) w.is (o.epoch_is ∙ a.epoch_is) (o.most_is ∙ a.most_is)
    (subst (λ (p : PastValue). StandFor (joined_logs (old.logs i)) p) (sym o.past_is) a.stand) a.fresh
    (λ to p x. in_epoch_stands domain n c.later epoch made.packets.items
    (λ y z. c.sent y (inr (subst (λ (ps : List (ℕ × Message)). Contains ps y) w.packets_are z))) to p x)
own_goes_on domain n most Came i old new d event value steps.Nothing g o b m = absurd o
own_goes_on domain n most Came i old new d event value (steps.Known client number place) g o b m = absurd o
own_goes_on domain n most Came i old new d event value (steps.Refused client number refusal) g o b m = absurd o
own_goes_on domain n most Came i old new d event value (steps.Deferred entry) g o b m = absurd o
own_goes_on domain n most Came i old new d event value (steps.Ask to packet) g o b m = absurd o
own_goes_on domain n most Came i old new d event value (steps.AskAll packets) g o b m = absurd o
own_goes_on domain n most Came i old new d event value (steps.Tell to epoch base) g o b m = absurd o
own_goes_on domain n most Came i old new d event value steps.Replaced g o b m = absurd o
own_goes_on domain n most Came i old new d event value (steps.Began log packets) g o b m = absurd o

-- The node stays as it is, and what it sends is of what it has behind it.
pub stays_goes_on : (domain : List ℕ) (n most : ℕ) (Came : Entry → Type 0) (i : ℕ) (old new : EpochNodes) (d : Epochs)
    (value : EpochValue) (logs : List (List Entry)) (out : List (ℕ × EpochPacket)) →
    GroupStands domain n most Came old d → value ≡ old.values i → logs ≡ old.logs i →
    ((to : ℕ) (p : EpochPacket) → Contains out (to, p) → PacketStands domain n d to p.purpose p.epoch p.packet) →
    NodeBecomes n i old value logs out new → GoesOn domain n most Came d new
stays_goes_on domain n most Came i old new d value logs out g same logs_same sends b =
    let a = g.nodes i in
    let epoch : ℕ = (old.values i).epoch in
    let c = leads_change domain n most Came i epoch d _ _ (leads_none domain n most Came i epoch d) in
    let at : value.epoch ≡ epoch = ap (λ (v : EpochValue). v.epoch) same in
    becomes domain n most Came i epoch old new d value logs [] _ _ out g b at c
    (logs_same ∙ sym (append-nil (old.logs i)))
    (subst (λ (v : EpochValue). IsNode domain n i v.node (node_of_world (epoch_world domain n d epoch) i)) (sym same)
    a.node)
    (at ∙ (a.epoch_is ∙ ap (λ (ls : List (List Entry)). length ls) (sym logs_same)))
    (ap (λ (v : EpochValue). v.most) same ∙ a.most_is)
    (subst (λ (ls : List (List Entry)). StandFor (joined_logs ls) value.past) (sym logs_same)
    (subst (λ (v : EpochValue). StandFor (joined_logs (old.logs i)) v.past) (sym same) a.stand))
    a.fresh
    (λ to p x. stays_packet domain n most Came i epoch d [] _ _ c to p.purpose p.epoch p.packet (sends to p x))

pub no_packets : (domain : List ℕ) (n : ℕ) (d : Epochs) (to : ℕ) (p : EpochPacket) →
    Contains {X = ℕ × EpochPacket} [] (to, p) →
    PacketStands domain n d to p.purpose p.epoch p.packet
no_packets domain n d to p c = absurd (Contains-none (to, p) c)

-- what is so of a desk where node i has a log more behind it

same_runs : (d : Epochs) (i : ℕ) (log : List Entry) (epoch : ℕ) → (with_log d i log).runs epoch ≡ d.runs epoch
same_runs d i log epoch = (goes_over d i log).runs_are epoch

same_worlds : (domain : List ℕ) (n : ℕ) (d : Epochs) (i : ℕ) (log : List Entry) (epoch : ℕ) →
    epoch_world domain n (with_log d i log) epoch ≡ epoch_world domain n d epoch
same_worlds domain n d i log epoch = ap (λ (es : List WorldEvent). world domain n es) (same_runs d i log epoch)

-- the desk in which node i has begun the next epoch
begins_change : (domain : List ℕ) (n most : ℕ) (Came : Entry → Type 0) (i epoch view : ℕ) (d : Epochs)
    (log : List Entry) → IsGroup n → i < n → epoch ≡ length (d.pasts i) → view ≤ LAST_VIEW →
    node_of_world (epoch_world domain n d (epoch + 1)) i ≡ first_state → NextEpochs domain (ending_after most)
    (λ e. n) d (with_log d i log) → Changes domain n most Came i (epoch + 1) d (log ∷ [])
    (suspected domain i n view) (view_requests i n 0 view)
begins_change domain n most Came i epoch view d log group small at within fresh next =
    let after : Epochs = with_log d i log in
    let over : GoesOver i log d after = goes_over d i log in
    let count : epoch + 1 ≡ epoch_of after i =
    ap (λ k. k + 1) at ∙ (sym (length_push (d.pasts i) log)
    ∙ ap (λ (ls : List (List Entry)). length ls) (sym over.here)) in
    let m : Leads domain n most Came i (epoch + 1) after (suspected domain i n view) (view_requests i n 0 view) =
    leads_suspicions domain n most Came i (epoch + 1) after group small count
    (ap (λ (w : World). node_of_world w i) (same_worlds domain n d i log (epoch + 1)) ∙ fresh) view within in
    record {
      count = suc m.count;
      later = m.later;
      lead = (after, next, m.lead);
      own_past = m.pasts_are i ∙ over.here;
      pasts_are = λ j ne. m.pasts_are j ∙ over.there j ne;
      elsewhere = λ k ne. m.elsewhere k ne ∙ same_runs d i log k;
      here = m.here;
      there = λ j ne. m.there j ne ∙ ap (λ (w : World). node_of_world w j) (same_worlds domain n d i log (epoch + 1));
      sent = λ x c. m.sent x (⊎_elim
          (λ a. inl (subst (λ (w : World). Contains w.packets x) (sym (same_worlds domain n d i log (epoch + 1))) a))
          (λ a. inr a)
          c);
      came = λ before. m.came (λ k e asked. before k e
          (subst (λ (es : List WorldEvent). IsRequested es e) (same_runs d i log k) asked));
    }

-- a first node in a view stands for one that suspected so often
pub next_stands : (domain : List ℕ) (n i view : ℕ) (node : NodeValue) → view ≤ LAST_VIEW →
    node ≡ record { domain = domain; id = i; n = n; saved = in_view view initial_saved; heard = silence n } →
    IsNode domain n i node (suspected domain i n view)
next_stands domain n i view node h is =
    subst (λ (x : NodeValue). IsNode domain n i x (suspected domain i n view)) (sym is)
    (subst (λ (s : State). IsNode domain n i
    (record { domain = domain; id = i; n = n; saved = in_view view initial_saved; heard = silence n }) s)
    (sym (suspicions_lead domain i n view h))
    (record {
      domain_is = refl;
      id_is = refl;
      n_is = refl;
      saved_is = refl;
      says = record { none_past = tt; heard_is = refl };
    }))

-- Node i is a first node of the next epoch in a view, after a log that the desk lets it have behind it.
first_goes_on : (domain : List ℕ) (n most : ℕ) (Came : Entry → Type 0) (i view : ℕ) (old new : EpochNodes) (d : Epochs)
    (log : List Entry) (value : EpochValue) (packets : List (ℕ × Message)) → IsGroup n → view ≤ LAST_VIEW →
    GroupStands domain n most Came old d → value.epoch ≡ (old.values i).epoch + 1 →
    StandFor (joined_logs (old.logs i) ++ log) value.past → value.most ≡ (old.values i).most →
    value.node ≡ record { domain = domain; id = i; n = n; saved = in_view view initial_saved; heard = silence n } →
    ((x : ℕ × Message) → Contains packets x → Contains (view_requests i n 0 view) x) →
    NextEpochs domain (ending_after most) (λ e. n) d (with_log d i log) →
    NodeBecomes n i old value (old.logs i ++ log ∷ []) (map (in_epoch ((old.values i).epoch + 1)) packets) new →
    GoesOn domain n most Came d new
first_goes_on domain n most Came i view old new d log value packets group within g at stand same_most is sent next b =
    let a = g.nodes i in
    let epoch : ℕ = (old.values i).epoch in
    let c : Changes domain n most Came i (epoch + 1) d (log ∷ []) (suspected domain i n view) (view_requests i n 0
    view) =
    begins_change domain n most Came i epoch view d log group b.is_node
    (a.epoch_is ∙ ap (λ (ls : List (List Entry)). length ls) (sym a.pasts_are)) within
    (a.fresh (epoch + 1) (omega arith)) next in
    becomes domain n most Came i (epoch + 1) old new d value (old.logs i ++ log ∷ []) (log ∷ []) _ _ _ g b at c refl
    (next_stands domain n i view value.node within is)
    (at ∙ (ap (λ k. k + 1) a.epoch_is ∙ sym (length_push (old.logs i) log)))
    (same_most ∙ a.most_is)
    (subst (λ (es : List Entry). StandFor es value.past) (sym (joined_push (old.logs i) log)) stand)
    (λ k h. a.fresh k (omega (arith, h)))
    (λ to p x. in_epoch_stands domain n c.later (epoch + 1) packets (λ y z. c.sent y (inr (sent y z))) to p x)

-- what a first node is, of a node that is node i of n
pub first_node_is : (domain : List ℕ) (n i view : ℕ) (node : NodeValue) → node.domain ≡ domain → node.id ≡ i →
    node.n ≡ n → node_in_view node.domain node.id node.n view
    ≡ record { domain = domain; id = i; n = n; saved = in_view view initial_saved; heard = silence n }
first_node_is domain n i view node p q r =
    ap (λ (x : List ℕ). node_in_view x node.id node.n view) p
    ∙ (ap (λ (x : ℕ). node_in_view domain x node.n view) q
    ∙ ap (λ (x : ℕ). node_in_view domain i x view) r)

pub view_below : (acting : Bool) (node : NodeValue) → 0 < node.n → next_view acting node < node.n
view_below true node some = mod-lt node.saved.normal some
view_below false node some = some

-- Node i begins the next epoch after a log that the desk lets it have behind it.
pub begun_goes_on : (domain : List ℕ) (n most : ℕ) (Came : Entry → Type 0) (i : ℕ) (old new : EpochNodes) (d : Epochs)
    (log : List Entry) (value : EpochValue) (packets : List (ℕ × Message)) → IsGroupSize n →
    GroupStands domain n most Came old d → BeginsAfter (joined_logs (old.logs i)) log (old.values i) value packets →
    NextEpochs domain (ending_after most) (λ e. n) d (with_log d i log) →
    NodeBecomes n i old value (old.logs i ++ log ∷ []) (map (in_epoch ((old.values i).epoch + 1)) packets) new →
    GoesOn domain n most Came d new
begun_goes_on domain n most Came i old new d log value packets size g begun next b =
    let a = g.nodes i in
    let node : NodeValue = (old.values i).node in
    let view : ℕ = next_view (acts value) node in
    let below : view < node.n = view_below (acts value) node (omega (arith, a.node.n_is, size.0.least)) in
    let within : view ≤ LAST_VIEW = omega (arith, below, a.node.n_is, size.1) in
    let sent : packets ≡ view_requests i n 0 view =
    begun.packets_are ∙ (ap (λ (x : ℕ). view_requests x node.n 0 view) a.node.id_is
    ∙ ap (λ (x : ℕ). view_requests i x 0 view) a.node.n_is) in
    first_goes_on domain n most Came i view old new d log value packets size.0 within g begun.epoch_is begun.past_is
    begun.most_is
    (begun.node_is ∙ first_node_is domain n i view node a.node.domain_is a.node.id_is a.node.n_is)
    (λ y z. subst (λ (ps : List (ℕ × Message)). Contains ps y) sent z) next b

-- The same, but node i ends before it has saved anything there, and is started again.
pub again_goes_on : (domain : List ℕ) (n most : ℕ) (Came : Entry → Type 0) (i : ℕ) (old new : EpochNodes) (d : Epochs)
    (log : List Entry) (value : EpochValue) (packets : List (ℕ × Message)) → IsGroupSize n →
    GroupStands domain n most Came old d → BeginsAfter (joined_logs (old.logs i)) log (old.values i) value packets →
    NextEpochs domain (ending_after most) (λ e. n) d (with_log d i log) →
    NodeBecomes n i old (started_again value) (old.logs i ++ log ∷ []) [] new → GoesOn domain n most Came d new
again_goes_on domain n most Came i old new d log value packets size g begun next b =
    let a = g.nodes i in
    first_goes_on domain n most Came i 0 old new d log (started_again value) [] size.0 (omega arith) g begun.epoch_is
    begun.past_is begun.most_is
    (first_node_is domain n i 0 value.node
    (ap (λ (x : NodeValue). x.domain) begun.node_is ∙ a.node.domain_is)
    (ap (λ (x : NodeValue). x.id) begun.node_is ∙ a.node.id_is)
    (ap (λ (x : NodeValue). x.n) begun.node_is ∙ a.node.n_is))
    (λ y z. absurd (Contains-none y z)) next b

-- A node that has committed the end of its epoch may begin the next.
pub due_next : (domain : List ℕ) (n most : ℕ) (Came : Entry → Type 0) (i : ℕ) (old : EpochNodes) (d : Epochs) →
    GroupStands domain n most Came old d → is_due (old.values i) ≡ true → NextEpochs domain (ending_after most)
    (λ e. n) d (with_log d i (committed_cut (old.values i)))
due_next domain n most Came i old d g due =
    let a = g.nodes i in
    let e : EpochValue = old.values i in
    let cut : List Entry = committed_cut e in
    let at : e.epoch ≡ epoch_of d i = a.epoch_is ∙ ap (λ (ls : List (List Entry)). length ls) (sym a.pasts_are) in
    let own : committed_entries e.node.saved ≡ committed_in domain n (d.runs (epoch_of d i)) i =
    ap (λ (s : SavedValue). committed_entries s) a.node.saved_is
    ∙ ap (λ k. committed_in domain n (d.runs k) i) at in
    let ended : reaches_end most (committed_in domain n (d.runs (epoch_of d i)) i) ≡ true =
    ap (λ (es : List Entry). reaches_end most es) (sym own)
    ∙ (ap (λ k. reaches_end k (committed_entries e.node.saved)) (sym a.most_is)
    ∙ (and_parts (reaches_end e.most (committed_entries e.node.saved)) (has_next e) due).0) in
    let cut_is : cut ≡ cut_of most (committed_in domain n (d.runs (epoch_of d i)) i) =
    ap (λ k. cut_of k (committed_entries e.node.saved)) a.most_is
    ∙ ap (λ (es : List Entry). cut_of most es) own in
    inr (inl (record {
      node = i;
      over = ended;
      goes = subst (λ (es : List Entry). GoesOver i es d (with_log d i cut)) cut_is (goes_over d i cut);
    }))
