-- What comes to nodes over epochs, as steps of a desk over epochs.
use Rattle.std.proofs.Common.{◌≡◌, ◌⊎◌, ℕ, ◌<◌, ◌≤◌, true}
use Rattle.std.proofs.Common.{◌+◌, ◌&&◌, List, [], ◌∷◌, ◌++◌, length, map, drop, Some, sym, ap}
use Rattle.std.proofs.Common.{◌∙◌}
use Rattle.std.proofs.Common.{inl, inr, ⊎_elim, subst, leb}
use Rattle.std.specs.List.{Contains}
use Rattle.std.proofs.lemmas.Bool.{leb-true, and_parts}
use Rattle.std.proofs.lemmas.List.{append-nil, take-append-drop}
use Rattle.desk_types.specs.Group.{IsGroup, IsGroupSize}
use Rattle.desk_types.specs.declared.command.Entry.{Entry}
use Rattle.desk_types.specs.declared.packet.Message.{Message}
use Rattle.desk_log.specs.Change.{keeps_committed}
use Rattle.desk_log.specs.Entries.{IsLogPrefix, IsRising, entry_at}
use Rattle.desk_log.specs.SavedValue.{SavedValue, committed_entries}
use Rattle.desk_log.proofs.Prefixes.{prefix_take, prefix_trans}
use Rattle.desk_node.specs.declared.event.Event.{Event}
use Rattle.desk_node.specs.declared.event.Event.TheVariants as events
use Rattle.desk_node.specs.NodeValue.{NodeValue}
use Rattle.desk_node.specs.State.{State}
use Rattle.desk_world.specs.Group.{IsNode}
use Rattle.desk_world.specs.World.{node_of_world}
use Rattle.desk_world.specs.declared.world_event.WorldEvent.{WorldEvent}
use Rattle.desk_world.specs.declared.world_event.WorldEvent.TheVariants.{Request}
use Rattle.desk_world.specs.Requested.{IsRequested}
use Rattle.desk_world.proofs.Requested.{log_is_requested}
use Rattle.desk_world.proofs.Agree.{committed_agree}
use Rattle.desk_world.proofs.FirstEntries.{take-same}
use Rattle.desk_epochs.specs.Epochs.{Epochs, joined_logs, epoch_of, NextEpochs, IsNewFor}
use Rattle.desk_epochs.specs.Histories.{committed_in, IsWholeEpoch, AreNew}
use Rattle.desk_epochs.proofs.Histories.{cut_within}
use Rattle.desk_epochs.proofs.RisingHistories.{cut_is_prefix}
use Rattle.desk_epoch_node.specs.declared.deed.Deed.TheVariants.{Own}
use Rattle.desk_epoch_node.specs.declared.event.EpochEvent.{EpochEvent}
use Rattle.desk_epoch_node.specs.declared.event.EpochEvent.TheVariants as comes
use Rattle.desk_types.specs.declared.epoch_packet.EpochPacket.{EpochPacket}
use Rattle.desk_types.specs.declared.epoch_packet.Purpose.{Purpose}
use Rattle.desk_types.specs.declared.epoch_packet.Purpose.TheVariants as purposes
use Rattle.desk_epoch_node.specs.declared.step.EpochStep.{EpochStep}
use Rattle.desk_epoch_node.specs.Deeds.{request_deed}
use Rattle.desk_epoch_node.specs.Does.{IsOwn, is_rest}
use Rattle.desk_epoch_node.specs.Does.{whole_log}
use Rattle.desk_epoch_node.specs.Ends.{cut_of, is_whole}
use Rattle.desk_epoch_node.specs.EpochValue.{EpochValue, committed_cut, has_next}
use Rattle.desk_epoch_node.specs.Replacements.{ends_epoch}
use Rattle.desk_epoch_group.specs.Agreement.{ending_after}
use Rattle.desk_epoch_group.specs.Group.{EpochNodes}
use Rattle.desk_epoch_group.specs.Group.{NodeBecomes, WasSentBefore}
use Rattle.desk_epoch_group.specs.Group.{epoch_packets_of, in_epoch}
use Rattle.desk_epoch_group.specs.Group.{logs_after}
use Rattle.desk_epoch_group.proofs.PastLogs.{asked_is_new, past_is_whole}
use Rattle.desk_epoch_group.proofs.Leads.{Leads, epoch_world, step_in, leads_none, leads_request, leads_packet}
use Rattle.desk_epoch_group.proofs.Leads.{leads_resend, leads_suspect, leads_restart, leads_as}
use Rattle.desk_epoch_group.proofs.Requests.{IsAdmitted, request_cases, admitted_is_new, past_rises}
use Rattle.desk_epoch_group.proofs.StepCases.{BeginsReported, ComesAs, IsSaid, StepCase, reported_log, reported_rest}
use Rattle.desk_epoch_group.proofs.Standing.{TellsPast, PacketStands, GroupStands, GoesOn}
use Rattle.desk_epochs.proofs.StepsAtUp.{with_log, goes_over}
use Rattle.desk_epoch_group.proofs.Begun.{own_goes_on, stays_goes_on}
use Rattle.desk_epoch_group.proofs.Begun.{begun_goes_on}

-- The rest of a log, after a place within what a node has committed of it, makes that log whole.
pub whole_after : (e : EpochValue) (base : ℕ) (log : List Entry) → IsLogPrefix (committed_cut e) log →
    is_rest e base (drop base log) ≡ true → whole_log e base (drop base log) ≡ log
whole_after e base log within h =
    let first : IsLogPrefix (committed_cut e) e.node.saved.log =
    prefix_trans (committed_cut e) (committed_entries e.node.saved) e.node.saved.log
    (cut_is_prefix ends_epoch e.most (committed_entries e.node.saved))
    (prefix_take e.node.saved.commit e.node.saved.log) in
    let entries : List Entry = drop base log in
    let p = and_parts
    (has_next e && leb base (length (committed_cut e)) && is_whole e.most (whole_log e base entries))
    (keeps_committed e.node.saved (whole_log e base entries)) h in
    let q =
    and_parts (has_next e && leb base (length (committed_cut e))) (is_whole e.most (whole_log e base entries)) p.0 in
    let r = and_parts (has_next e) (leb base (length (committed_cut e))) q.0 in
    let short : base ≤ length (committed_cut e) = leb-true base (length (committed_cut e)) r.1 in
    ap (λ (es : List Entry). es ++ entries)
    (sym (take-same base (committed_cut e) e.node.saved.log short first)
    ∙ take-same base (committed_cut e) log short within)
    ∙ take-append-drop base log

-- What a node has committed of an epoch, up to its end, begins the epoch's one log.
pub cut_begins : (domain : List ℕ) (n most i : ℕ) (run : List WorldEvent) (log : List Entry) → IsGroup n →
    IsWholeEpoch domain (ending_after most) n run log → IsLogPrefix (cut_of most (committed_in domain n run i)) log
cut_begins domain n most i run log group w =
    let own : List Entry = committed_in domain n run i in
    let other : List Entry = committed_in domain n run w.node in
    let agree : IsLogPrefix own other ⊎ IsLogPrefix other own =
    subst (λ (es : List WorldEvent). IsLogPrefix own (committed_in domain n es w.node)
    ⊎ IsLogPrefix (committed_in domain n es w.node) own) (append-nil run)
    (committed_agree domain n run [] i w.node group) in
    subst (λ (es : List Entry). IsLogPrefix (cut_of most own) es) (sym w.log_is)
    (cut_within ends_epoch most own other agree w.over)

-- What a node is told after what it has committed is the rest of the epoch's one log.
pub whole_is : (domain : List ℕ) (n most : ℕ) (Came : Entry → Type 0) (i : ℕ) (old : EpochNodes) (d : Epochs)
    (packet : Message) → IsGroup n → GroupStands domain n most Came old d →
    (t : TellsPast d (old.values i).epoch packet) → is_rest (old.values i) t.base (drop t.base t.log) ≡ true →
    whole_log (old.values i) t.base (drop t.base t.log) ≡ t.log
whole_is domain n most Came i old d packet group g t h =
    let e : EpochValue = old.values i in
    let a = g.nodes i in
    let next : IsWholeEpoch domain (ending_after most) n (d.runs (length t.before)) t.log =
    past_is_whole domain n most g.count d t.teller t.before t.rest t.log group g.lead t.has in
    let w : IsWholeEpoch domain (ending_after most) n (d.runs e.epoch) t.log =
    subst (λ k. IsWholeEpoch domain (ending_after most) n (d.runs k) t.log) t.count next in
    let cut_is : committed_cut e ≡ cut_of most (committed_in domain n (d.runs e.epoch) i) =
    ap (λ k. cut_of k (committed_entries e.node.saved)) a.most_is
    ∙ ap (λ (s : SavedValue). cut_of most (committed_entries s)) a.node.saved_is in
    whole_after e t.base t.log
    (subst (λ (es : List Entry). IsLogPrefix es t.log) (sym cut_is)
    (cut_begins domain n most i (d.runs e.epoch) t.log group w)) h

-- A node that is told the whole log of its epoch may begin the next.
pub reported_next : (domain : List ℕ) (n most : ℕ) (Came : Entry → Type 0) (i : ℕ) (old : EpochNodes) (d : Epochs)
    (packet : Message) (log : List Entry) → GroupStands domain n most Came old d →
    (t : TellsPast d (old.values i).epoch packet) → log ≡ t.log → NextEpochs domain (ending_after most)
    (λ e. n) d (with_log d i log)
reported_next domain n most Came i old d packet log g t same =
    let a = g.nodes i in
    let at : (old.values i).epoch ≡ epoch_of d i =
    a.epoch_is ∙ ap (λ (ls : List (List Entry)). length ls) (sym a.pasts_are) in
    inr (inr (record {
      node = i;
      teller = t.teller;
      before = t.before;
      log = log;
      rest = t.rest;
      has = subst (λ (es : List Entry). d.pasts t.teller ≡ t.before ++ es ∷ t.rest) (sym same) t.has;
      next = t.count ∙ at;
      goes = goes_over d i log;
    }))

-- the epoch that node i is in
node_at : (domain : List ℕ) (n most : ℕ) (Came : Entry → Type 0) (i : ℕ) (g : EpochNodes) (d : Epochs) →
    GroupStands domain n most Came g d → (g.values i).epoch ≡ epoch_of d i
node_at domain n most Came i g d s =
    (s.nodes i).epoch_is ∙ ap (λ (ls : List (List Entry)). length ls) (sym (s.nodes i).pasts_are)

-- A request that comes to node i is an event of its epoch's world where the node's log takes it, and else nothing.
pub request_leads_by : (domain : List ℕ) (n most : ℕ) (Came : Entry → Type 0) (i : ℕ) (e : EpochValue)
    (past : List Entry) (d : Epochs) (entry : Entry) → IsGroup n → i < n → Came entry →
    IsNode domain n i e.node (node_of_world (epoch_world domain n d e.epoch) i) → e.epoch ≡ epoch_of d i →
    joined_logs (d.pasts i) ≡ past → AreNew past (d.runs e.epoch) → IsRising past →
    request_deed past e entry ≡ Own (events.Request entry) →
    Leads domain n most Came i e.epoch d (step_in domain n i e.epoch d (events.Request entry)).node (step_in domain n i
    e.epoch d (events.Request entry)).packets
request_leads_by domain n most Came i e past d entry group small came is at past_is new rising own =
    let s : State = node_of_world (epoch_world domain n d e.epoch) i in
    let asked : (place : ℕ) (f : Entry) → entry_at e.node.saved.log place ≡ Some f → IsRequested (d.runs e.epoch) f =
    λ place f h. log_is_requested domain n (d.runs e.epoch) i place f group
    (ap (λ (x : SavedValue). entry_at x.log place) (sym is.saved_is) ∙ h) in
    ⊎_elim
    (λ quiet. leads_as domain n most Came i e.epoch d s _ [] _ (sym quiet.node_is)
    (λ x c. subst (λ (ps : List (ℕ × Message)). Contains ps x) quiet.packets_are c)
    (leads_none domain n most Came i e.epoch d))
    (λ admitted. leads_request domain n most Came i e.epoch d entry group small at
    (subst (λ (es : List Entry). IsNewFor es (Request i entry)) (sym past_is)
    (admitted_is_new past e entry (d.runs e.epoch) i rising new asked
    (by_node e.node s is admitted) own)) came)
    (request_cases domain i n s entry)
  where
    by_node : (node : NodeValue) (s : State) → IsNode domain n i node s → IsAdmitted i n s.saved entry →
        IsAdmitted node.id node.n node.saved entry
    by_node node s is h =
        subst (λ (x : SavedValue). IsAdmitted node.id node.n x entry) (sym is.saved_is)
        (subst (λ k. IsAdmitted k node.n s.saved entry) (sym is.id_is)
        (subst (λ k. IsAdmitted i k s.saved entry) (sym is.n_is) h))

request_leads : (domain : List ℕ) (n most : ℕ) (Came : Entry → Type 0) (i : ℕ) (old : EpochNodes) (d : Epochs)
    (entry : Entry) → IsGroupSize n → i < n → Came entry → GroupStands domain n most Came old d →
    request_deed (joined_logs (old.logs i)) (old.values i) entry ≡ Own (events.Request entry) →
    Leads domain n most Came i (old.values i).epoch d (step_in domain n i (old.values i).epoch d (events.Request
    entry)).node (step_in domain n i (old.values i).epoch d (events.Request entry)).packets
request_leads domain n most Came i old d entry size small came g own =
    let a = g.nodes i in
    let e : EpochValue = old.values i in
    let at : e.epoch ≡ epoch_of d i = node_at domain n most Came i old d g in
    let past : List Entry = joined_logs (old.logs i) in
    let new : AreNew past (d.runs e.epoch) =
    subst (λ (ls : List (List Entry)). AreNew (joined_logs ls) (d.runs e.epoch)) a.pasts_are
    (subst (λ k. AreNew (joined_logs (d.pasts i)) (d.runs k)) (sym at)
    (asked_is_new domain n most g.count d i size.0 g.lead)) in
    request_leads_by domain n most Came i e past d entry size.0 small came a.node at
    (ap (λ (ls : List (List Entry)). joined_logs ls) a.pasts_are) new
    (past_rises domain n most i d g.count (old.logs i) size.0 a.pasts_are g.lead) own

-- What comes to a node that acts is an event of its epoch's world.
own_leads : (domain : List ℕ) (n most : ℕ) (Came : Entry → Type 0) (i : ℕ) (g : EpochNodes) (d : Epochs)
    (event : EpochEvent) (own : Event) → IsGroupSize n → i < n → ((e : Entry) → event ≡ comes.Request e → Came e) →
    GroupStands domain n most Came g d → WasSentBefore g.sent i event →
    ComesAs (joined_logs (g.logs i)) (g.values i) event own → Leads domain n most Came i (g.values i).epoch d
    (step_in domain n i (g.values i).epoch d own).node (step_in domain n i (g.values i).epoch d own).packets
own_leads domain n most Came i g d event (events.Request entry) size small may s sent came =
    request_leads domain n most Came i g d entry size small (may entry came.0) s came.1
own_leads domain n most Came i g d event (events.Packet packet) size small may s sent came =
    leads_packet domain n most Came i (g.values i).epoch d packet size.0 small (node_at domain n most Came i g d s)
    (s.packets i (record { epoch = (g.values i).epoch; purpose = purposes.Step; packet = packet })
    (subst (λ (x : EpochEvent). WasSentBefore g.sent i x) came sent))
own_leads domain n most Came i g d event events.Resend size small may s sent came =
    leads_resend domain n most Came i (g.values i).epoch d size.0 small (node_at domain n most Came i g d s)
own_leads domain n most Came i g d event events.Suspect size small may s sent came =
    leads_suspect domain n most Came i (g.values i).epoch d size.0 small (node_at domain n most Came i g d s)
own_leads domain n most Came i g d event events.Restart size small may s sent came =
    leads_restart domain n most Came i (g.values i).epoch d size.0 small (node_at domain n most Came i g d s)

-- a packet that asks, or tells a log which node i has behind it
said_stands : (domain : List ℕ) (n i to : ℕ) (d : Epochs) (logs : List (List Entry)) (purpose : Purpose) (epoch : ℕ)
    (packet : Message) → d.pasts i ≡ logs → IsSaid logs purpose epoch packet →
    PacketStands domain n d to purpose epoch packet
said_stands domain n i to d logs purposes.Step epoch packet has said = absurd said
said_stands domain n i to d logs purposes.Ask epoch packet has said = tt
said_stands domain n i to d logs purposes.Tell epoch packet has said = record {
  teller = i;
  before = said.before;
  log = said.log;
  rest = said.rest;
  has = has ∙ said.has;
  count = said.count;
  from = said.from;
  base = said.base;
  packet_is = said.packet_is;
}

-- A node that is told the rest of its epoch's log may begin the next.
pub reported_begins : (domain : List ℕ) (n most : ℕ) (Came : Entry → Type 0) (i : ℕ) (old : EpochNodes) (d : Epochs)
    (past : List Entry) (event : EpochEvent) (value : EpochValue) (step : EpochStep) → IsGroup n →
    GroupStands domain n most Came old d → WasSentBefore old.sent i event →
    (x : BeginsReported past (old.values i) value event step) →
    NextEpochs domain (ending_after most) (λ e. n) d (with_log d i x.log)
reported_begins domain n most Came i old d past event value step group g sent x =
    let e : EpochValue = old.values i in
    let t : TellsPast d e.epoch x.reported =
    g.packets i (record { epoch = e.epoch; purpose = purposes.Tell; packet = x.reported })
    (subst (λ (z : EpochEvent). WasSentBefore old.sent i z) x.event_is sent) in
    let rest : is_rest e t.base (drop t.base t.log) ≡ true =
    reported_rest past e value event step x t.from t.base (length t.log) (drop t.base t.log) t.packet_is in
    reported_next domain n most Came i old d x.reported x.log g t
    (reported_log past e value event step x t.from t.base (length t.log) (drop t.base t.log) t.packet_is
    ∙ whole_is domain n most Came i old d x.reported group g t rest)

-- what comes to any node
pub meets_goes_on : (domain : List ℕ) (n most : ℕ) (Came : Entry → Type 0) (i : ℕ) (old new : EpochNodes) (d : Epochs)
    (event : EpochEvent) (value : EpochValue) (step : EpochStep) → IsGroupSize n →
    ((e : Entry) → event ≡ comes.Request e → Came e) → GroupStands domain n most Came old d →
    WasSentBefore old.sent i event →
    StepCase (joined_logs (old.logs i)) (old.logs i) (old.values i) value event step →
    NodeBecomes n i old value (logs_after (old.logs i) step) (epoch_packets_of (old.values i) (old.logs i) step) new →
    GoesOn domain n most Came d new
meets_goes_on domain n most Came i old new d event value step size may g sent (inl stays) b =
    stays_goes_on domain n most Came i old new d value (logs_after (old.logs i) step)
    (epoch_packets_of (old.values i) (old.logs i) step) g stays.value_is stays.logs_are
    (λ to p c. said_stands domain n i to d (old.logs i) p.purpose p.epoch p.packet (g.nodes i).pasts_are
    (stays.said to p c)) b
meets_goes_on domain n most Came i old new d event value step size may g sent (inr (inl o)) b =
    own_goes_on domain n most Came i old new d o.own value step g
    (subst (λ (x : EpochStep). IsOwn (old.values i) o.own value x) (sym o.step_is) o.does) b
    (own_leads domain n most Came i old d event o.own size b.is_node may g sent o.comes_as)
meets_goes_on domain n most Came i old new d event value step size may g sent (inr (inr x)) b =
    begun_goes_on domain n most Came i old new d x.log value x.packets size g x.begins
    (reported_begins domain n most Came i old d (joined_logs (old.logs i)) event value step size.0 g sent x)
    (subst
    (λ (ls : List (List Entry)). NodeBecomes n i old value ls
    (map (in_epoch ((old.values i).epoch + 1)) x.packets) new) (x.logs_are (old.logs i))
    (subst
    (λ (ps : List (ℕ × EpochPacket)). NodeBecomes n i old value (logs_after (old.logs i) step) ps new)
    (x.said (old.logs i)) b))
