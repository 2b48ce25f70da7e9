-- Steps of a desk with replaced nodes at one node, and what they leave.
use Rattle.std.proofs.Common.{◌≡◌, ◌≢◌, ◌⊎◌, ℕ, suc, ◌+◌, ◌<◌, ◌≤◌, Bool, true, false, ◌&&◌, if◌then◌else◌, List, []}
use Rattle.std.proofs.Common.{◌∷◌}
use Rattle.std.proofs.Common.{◌++◌, length, refl, sym, ap, ◌∙◌, inl, inr, ⊎_elim, subst, eqb}
use Rattle.std.specs.List.{Contains}
use Rattle.std.proofs.lemmas.Bool.{cases_eq, eq-eqb, ne_eqb}
use Rattle.std.proofs.lemmas.List.{append-nil, append_assoc, length_push}
use Rattle.desk_types.specs.Group.{IsGroup}
use Rattle.desk_types.specs.declared.command.Entry.{Entry}
use Rattle.desk_types.specs.declared.limits.TheConstants.{LAST_VIEW}
use Rattle.desk_types.specs.declared.packet.Message.{Message}
use Rattle.desk_view_change.specs.Rules.{view_requests}
use Rattle.desk_node.specs.State.{State}
use Rattle.desk_world.specs.declared.world_event.WorldEvent.{WorldEvent}
use Rattle.desk_world.specs.Requested.{IsRequested}
use Rattle.desk_world.specs.World.{World, first_state, node_of_world, world}
use Rattle.desk_world.proofs.Packets.{Contains-none}
use Rattle.desk_epochs.specs.Epochs.{IsNewFor, joined_logs}
use Rattle.desk_epoch_node.specs.Laws.{suspected}
use Rattle.desk_epoch_group.specs.Group.{IsAt}
use Rattle.desk_epoch_group.proofs.Leads.{AreAt, Leads, leads_suspicions}
use Rattle.desk_epoch_members.specs.NodeAgreement.{Reaches, rules_after}
use Rattle.desk_epoch_members.specs.Tokens.{Desk, HasOneMore, Next, acts_in, epoch_in, named_token}
use Rattle.desk_epoch_members.proofs.WholePasts.{desk_of}

-- the world of an epoch
abbrev pub world_of : List ℕ → ℕ → Desk → ℕ → World
world_of domain n d epoch = world domain n (d.runs epoch)

-- Each request that was made in an epoch is one that came.
abbrev pub OnlyAsked : (Entry → Type 0) → Desk → Type 0
OnlyAsked Came d = (epoch : ℕ) (e : Entry) → IsRequested (d.runs epoch) e → Came e

-- Steps lead to a desk in which number i is in this state in the epoch, the node with the token has these logs more
-- behind it, and these packets were sent in the epoch.
pub record DeskChanges (domain : List ℕ) (n most : ℕ) (Came : Entry → Type 0) (i t epoch : ℕ) (d : Desk)
    (extra : List (List Entry)) (s : State) (packets : List (ℕ × Message)) : Type 0 where
  pub count : ℕ
  pub later : Desk
  pub lead : Reaches domain n most count d later
  pub own_past : later.pasts i t ≡ d.pasts i t ++ extra
  pub pasts_are : (j u : ℕ) → (j ≢ i) ⊎ (u ≢ t) → later.pasts j u ≡ d.pasts j u
  pub elsewhere : (k : ℕ) → k ≢ epoch → later.runs k ≡ d.runs k
  pub here : node_of_world (world_of domain n later epoch) i ≡ s
  pub there : (j : ℕ) → j ≢ i →
      node_of_world (world_of domain n later epoch) j ≡ node_of_world (world_of domain n d epoch) j
  pub sent : (x : ℕ × Message) → Contains (world_of domain n d epoch).packets x ⊎ Contains packets x →
      Contains (world_of domain n later epoch).packets x
  pub came : OnlyAsked Came d → OnlyAsked Came later

-- nothing happens
abbrev pub no_change : (domain : List ℕ) (n most : ℕ) (Came : Entry → Type 0) (i t epoch : ℕ) (d : Desk) →
    DeskChanges domain n most Came i t epoch d [] (node_of_world (world_of domain n d epoch) i) []
no_change domain n most Came i t epoch d = record {
  count = 0;
  later = d;
  lead = refl;
  own_past = sym (append-nil (d.pasts i t));
  pasts_are = λ j u other. refl;
  elsewhere = λ k ne. refl;
  here = refl;
  there = λ j ne. refl;
  sent = λ x c. ⊎_elim (λ a. a) (λ a. absurd (Contains-none x a)) c;
  came = λ before. before;
}

-- one event more in an epoch
with_one : Desk → ℕ → WorldEvent → Desk
with_one d epoch event = record {
  runs = λ k. if eqb k epoch then d.runs k ++ event ∷ [] else d.runs k;
  pasts = d.pasts;
}

run_with : (d : Desk) (epoch : ℕ) (event : WorldEvent) →
    (with_one d epoch event).runs epoch ≡ d.runs epoch ++ event ∷ []
unfolding with_one
run_with d epoch event = ap (λ b. if b then d.runs epoch ++ event ∷ [] else d.runs epoch) (eq-eqb epoch epoch refl)

run_beside : (d : Desk) (epoch : ℕ) (event : WorldEvent) (k : ℕ) → k ≢ epoch →
    (with_one d epoch event).runs k ≡ d.runs k
unfolding with_one
run_beside d epoch event k ne = ap (λ b. if b then d.runs k ++ event ∷ [] else d.runs k) (ne_eqb k epoch ne)

pasts_with : (d : Desk) (epoch : ℕ) (event : WorldEvent) (j u : ℕ) → (with_one d epoch event).pasts j u ≡ d.pasts j u
unfolding with_one
pasts_with d epoch event j u = refl

-- Events of an epoch happen, and nothing else.
record Happen (domain : List ℕ) (n most epoch : ℕ) (d : Desk) (more : List WorldEvent) : Type 0 where
  count : ℕ
  later : Desk
  lead : Reaches domain n most count d later
  run_is : later.runs epoch ≡ d.runs epoch ++ more
  elsewhere : (k : ℕ) → k ≢ epoch → later.runs k ≡ d.runs k
  pasts_are : (j u : ℕ) → later.pasts j u ≡ d.pasts j u

-- Events at a node that acts, each in its epoch.
happen : (domain : List ℕ) (n most i t epoch : ℕ) (d : Desk) (past : List (List Entry)) (more : List WorldEvent) →
    d.pasts i t ≡ past → epoch ≡ length past → acts_in (rules_after most) d i t ≡ true →
    AreAt domain n i (joined_logs past) (d.runs epoch) more → Happen domain n most epoch d more
happen domain n most i t epoch d past [] has is acts at = record {
  count = 0;
  later = d;
  lead = refl;
  run_is = sym (append-nil (d.runs epoch));
  elsewhere = λ k ne. refl;
  pasts_are = λ j u. refl;
}
happen domain n most i t epoch d past (event ∷ more) has is acts (at, new, rest) =
    let mid : Desk = with_one d epoch event in
    let here : epoch ≡ epoch_in d i t = is ∙ ap (λ (ls : List (List Entry)). length ls) (sym has) in
    let on : Happen domain n most epoch mid more =
    happen domain n most i t epoch mid past more (pasts_with d epoch event i t ∙ has) is
    (subst (λ (ls : List (List Entry)). eqb (named_token (rules_after most) i 0 (joined_logs ls)) t ≡ true)
    (sym (pasts_with d epoch event i t)) acts)
    (subst (λ (es : List WorldEvent). AreAt domain n i (joined_logs past) es more) (sym (run_with d epoch event)) rest)
    in
    record {
      count = suc on.count;
      later = on.later;
      lead = (
        mid,
        inl (record {
          number = i;
          token = t;
          acts = acts;
          event = event;
          at = subst (λ k. IsAt i (world_of domain n d k) event) here at;
          is_new = subst (λ (ls : List (List Entry)). IsNewFor (joined_logs ls) event) (sym has) new;
          here = subst (λ k. mid.runs k ≡ d.runs k ++ event ∷ []) here (run_with d epoch event);
          there = λ k ne. run_beside d epoch event k (λ same. ne (same ∙ here));
          pasts_are = λ j u. pasts_with d epoch event j u;
        }),
        on.lead,
      );
      run_is = on.run_is ∙ (ap (λ (es : List WorldEvent). es ++ more) (run_with d epoch event)
          ∙ append_assoc (d.runs epoch) (event ∷ []) more);
      elsewhere = λ k ne. on.elsewhere k ne ∙ run_beside d epoch event k ne;
      pasts_are = λ j u. on.pasts_are j u ∙ pasts_with d epoch event j u;
    }

-- What the node does in its epoch's world are steps of the desk.
pub changes_by : (domain : List ℕ) (n most : ℕ) (Came : Entry → Type 0) (i t epoch : ℕ) (d : Desk) (s : State)
    (packets : List (ℕ × Message)) → epoch ≡ epoch_in d i t → acts_in (rules_after most) d i t ≡ true →
    Leads domain n most Came i epoch (desk_of d i t) s packets →
    DeskChanges domain n most Came i t epoch d [] s packets
changes_by domain n most Came i t epoch d s packets is acts m = record {
  count = on.count;
  later = on.later;
  lead = on.lead;
  own_past = on.pasts_are i t ∙ sym (append-nil (d.pasts i t));
  pasts_are = λ j u other. on.pasts_are j u;
  elsewhere = on.elsewhere;
  here = ap (λ (es : List WorldEvent). node_of_world (world domain n es) i) same ∙ m.here;
  there = λ j ne. ap (λ (es : List WorldEvent). node_of_world (world domain n es) j) same ∙ m.there j ne;
  sent = λ x c. subst (λ (es : List WorldEvent). Contains (world domain n es).packets x) (sym same) (m.sent x c);
  came = λ before k e asked. m.came before k e
      (subst (λ (es : List WorldEvent). IsRequested es e) (by_epoch k (cases_eq k epoch)) asked);
}
  where
    on : Happen domain n most epoch d m.more
    on = happen domain n most i t epoch d (d.pasts i t) m.more refl is acts m.at

    same : on.later.runs epoch ≡ m.later.runs epoch
    same = on.run_is ∙ sym m.run_is

    by_epoch : (k : ℕ) → (k ≡ epoch) ⊎ (k ≢ epoch) → on.later.runs k ≡ m.later.runs k
    by_epoch k (inl e) = subst (λ x. on.later.runs x ≡ m.later.runs x) (sym e) same
    by_epoch k (inr ne) = on.elsewhere k ne ∙ sym (m.elsewhere k ne)

-- a log more behind a node
pub with_past : Desk → ℕ → ℕ → List Entry → Desk
with_past d i t log = record {
  runs = d.runs;
  pasts = λ j u. if eqb j i && eqb u t then d.pasts j u ++ log ∷ [] else d.pasts j u;
}

and_false : (b : Bool) → (b && false) ≡ false
and_false true = refl
and_false false = refl

pub goes_with : (d : Desk) (i t : ℕ) (log : List Entry) → HasOneMore i t log d (with_past d i t log)
unfolding with_past
goes_with d i t log = record {
  here = ap (λ b. if b then d.pasts i t ++ log ∷ [] else d.pasts i t)
      (ap (λ b. b && eqb t t) (eq-eqb i i refl) ∙ eq-eqb t t refl);
  there = λ j u other. ⊎_elim
      (λ ne. ap (λ b. if b then d.pasts j u ++ log ∷ [] else d.pasts j u) (ap (λ b. b && eqb u t) (ne_eqb j i ne)))
      (λ ne. ap (λ b. if b then d.pasts j u ++ log ∷ [] else d.pasts j u)
      (ap (λ b. eqb j i && b) (ne_eqb u t ne) ∙ and_false (eqb j i)))
      other;
  runs_are = λ epoch. refl;
}

-- A node goes over first, and then does what it does.
pub changes_after : (domain : List ℕ) (n most : ℕ) (Came : Entry → Type 0) (i t k : ℕ) (d after : Desk)
    (log : List Entry) (s : State) (packets : List (ℕ × Message)) →
    Next domain (rules_after most) (λ e. n) d after → HasOneMore i t log d after →
    DeskChanges domain n most Came i t k after [] s packets →
    DeskChanges domain n most Came i t k d (log ∷ []) s packets
changes_after domain n most Came i t k d after log s packets next goes c = record {
  count = suc c.count;
  later = c.later;
  lead = (after, next, c.lead);
  own_past = c.own_past ∙ (append-nil (after.pasts i t) ∙ goes.here);
  pasts_are = λ j u other. c.pasts_are j u other ∙ goes.there j u other;
  elsewhere = λ e ne. c.elsewhere e ne ∙ goes.runs_are e;
  here = c.here;
  there = λ j ne. c.there j ne
      ∙ ap (λ (es : List WorldEvent). node_of_world (world domain n es) j) (goes.runs_are k);
  sent = λ x a. c.sent x (⊎_elim
      (λ b. inl (subst (λ (es : List WorldEvent). Contains (world domain n es).packets x) (sym (goes.runs_are k)) b))
      (λ b. inr b)
      a);
  came = λ before. c.came (λ e x asked. before e x
      (subst (λ (es : List WorldEvent). IsRequested es x) (goes.runs_are e) asked));
}

-- Node i acts in the next epoch, where its number did nothing yet, and suspects the primary so many times.
pub begins_acting : (domain : List ℕ) (n most : ℕ) (Came : Entry → Type 0) (i t k view : ℕ) (d after : Desk)
    (log : List Entry) → IsGroup n → i < n → k ≡ length (d.pasts i t) + 1 → view ≤ LAST_VIEW →
    node_of_world (world_of domain n d k) i ≡ first_state → Next domain (rules_after most) (λ e. n) d after →
    HasOneMore i t log d after → acts_in (rules_after most) after i t ≡ true →
    DeskChanges domain n most Came i t k d (log ∷ []) (suspected domain i n view) (view_requests i n 0 view)
begins_acting domain n most Came i t k view d after log group small at within fresh next goes acts =
    let count : k ≡ epoch_in after i t =
    at ∙ (sym (length_push (d.pasts i t) log) ∙ ap (λ (ls : List (List Entry)). length ls) (sym goes.here)) in
    changes_after domain n most Came i t k d after log (suspected domain i n view) (view_requests i n 0 view) next goes
    (changes_by domain n most Came i t k after (suspected domain i n view) (view_requests i n 0 view) count acts
    (leads_suspicions domain n most Came i k (desk_of after i t) group small count
    (ap (λ (es : List WorldEvent). node_of_world (world domain n es) i) (goes.runs_are k) ∙ fresh) view within))
