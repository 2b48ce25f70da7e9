-- Acts of one node of a group of nodes over epochs, one after the other.
use Rattle.std.proofs.Common.{◌≡◌, ◌≢◌, ◌⊎◌, ◌<◌, ℕ, List, [], ◌∷◌, ◌++◌, length, cond, eqb, refl, sym, ap, ◌∙◌}
use Rattle.std.proofs.Common.{inl, inr, ⊎_elim, subst}
use Rattle.std.specs.List.{Contains}
use Rattle.std.proofs.lemmas.Bool.{eq-eqb, ne_eqb}
use Rattle.std.proofs.lemmas.List.Elements.{Contains-append_left, Contains-append_right, Contains-append_cases}
use Rattle.desk_types.specs.declared.command.Entry.{Entry}
use Rattle.desk_types.specs.declared.epoch_packet.EpochPacket.{EpochPacket}
use Rattle.desk_world.proofs.Packets.{Contains-none, Contains-one}
use Rattle.desk_epochs.specs.Epochs.{joined_logs}
use Rattle.desk_epoch_node.specs.declared.event.EpochEvent.TheVariants as comes
use Rattle.desk_epoch_node.specs.EpochValue.{EpochValue}
use Rattle.desk_epoch_node.specs.PastRows.{StandFor}
use Rattle.desk_epoch_group.specs.Group.{EpochNodes, EpochAct, Meets, ActLeads, ActsLead, NodeBecomes}

-- The node has this number, its epochs end after so many entries, and it has these logs behind it.
pub record HasLogs (most i : ℕ) (value : EpochValue) (logs : List (List Entry)) : Type 0 where
  pub id_is : value.node.id ≡ i
  pub most_is : value.most ≡ most
  pub stand : StandFor (joined_logs logs) value.past
  pub epoch_is : value.epoch ≡ length logs

-- Node i is one of the group: it is this one, and has these logs behind it.
pub record Stands (n most i : ℕ) (g : EpochNodes) (value : EpochValue) (logs : List (List Entry)) : Type 0 where
  pub small : i < n
  pub value_is : g.values i ≡ value
  pub logs_are : g.logs i ≡ logs
  pub has : HasLogs most i value logs

-- No request comes by these acts but such.
abbrev pub OnlyMeets : (Entry → Type 0) → List EpochAct → Type 0
OnlyMeets Came acts = (j : ℕ) (e : Entry) → Contains acts (Meets j (comes.Request e)) → Came e

-- Acts lead from a group to one in which node i is this one, with these logs behind it, and all of these packets were
-- sent. No other node has changed.
pub record Moved (Came : Entry → Type 0) (n most i : ℕ) (g : EpochNodes) (value : EpochValue) (logs : List (List Entry))
    (packets : List (ℕ × EpochPacket)) : Type 0 where
  pub acts : List EpochAct
  pub later : EpochNodes
  pub lead : ActsLead n g acts later
  pub value_is : later.values i ≡ value
  pub logs_are : later.logs i ≡ logs
  pub other_values : (j : ℕ) → j ≢ i → later.values j ≡ g.values j
  pub other_logs : (j : ℕ) → j ≢ i → later.logs j ≡ g.logs j
  pub sent : (x : ℕ × EpochPacket) → Contains g.sent x ⊎ Contains packets x → Contains later.sent x
  pub has : HasLogs most i value logs
  pub came : OnlyMeets Came acts

pub acts_on : (n : ℕ) (first more : List EpochAct) (a b c : EpochNodes) → ActsLead n a first b → ActsLead n b more c →
    ActsLead n a (first ++ more) c
acts_on n [] more a b c l m = subst (λ (g : EpochNodes). ActsLead n g more c) (sym l) m
acts_on n (act ∷ acts) more a b c (mid, one, rest) m = (mid, one, acts_on n acts more mid b c rest m)

pub moved_none : (Came : Entry → Type 0) (n most i : ℕ) (g : EpochNodes) (value : EpochValue) (logs : List (List Entry))
    →
    g.values i ≡ value → g.logs i ≡ logs → HasLogs most i value logs → Moved Came n most i g value logs []
moved_none Came n most i g value logs is are has = record {
  acts = [];
  later = g;
  lead = refl;
  value_is = is;
  logs_are = are;
  other_values = λ j ne. refl;
  other_logs = λ j ne. refl;
  sent = λ x c. ⊎_elim (λ a. a) (λ a. absurd (Contains-none x a)) c;
  has = has;
  came = λ j e c. absurd (Contains-none (Meets j (comes.Request e)) c);
}

pub moved_then : (Came : Entry → Type 0) (n most i : ℕ) (g : EpochNodes) (v w : EpochValue) (ls ks : List (List Entry))
    (ps qs : List (ℕ × EpochPacket)) → (m : Moved Came n most i g v ls ps) → Moved Came n most i m.later w ks qs →
    Moved Came n most i g w ks (ps ++ qs)
moved_then Came n most i g v w ls ks ps qs m k = record {
  acts = m.acts ++ k.acts;
  later = k.later;
  lead = acts_on n m.acts k.acts g m.later k.later m.lead k.lead;
  value_is = k.value_is;
  logs_are = k.logs_are;
  other_values = λ j ne. k.other_values j ne ∙ m.other_values j ne;
  other_logs = λ j ne. k.other_logs j ne ∙ m.other_logs j ne;
  sent = λ x c. ⊎_elim
      (λ a. k.sent x (inl (m.sent x (inl a))))
      (λ a. ⊎_elim
      (λ b. k.sent x (inl (m.sent x (inr b))))
      (λ b. k.sent x (inr b))
      (Contains-append_cases ps qs x a))
      c;
  has = k.has;
  came = λ j e c. ⊎_elim (m.came j e) (k.came j e)
      (Contains-append_cases m.acts k.acts (Meets j (comes.Request e)) c);
}

-- the same, of some of the packets, and of an equal node with equal logs
pub moved_as : (Came : Entry → Type 0) (n most i : ℕ) (g : EpochNodes) (v w : EpochValue) (ls ks : List (List Entry))
    (ps qs : List (ℕ × EpochPacket)) → v ≡ w → ls ≡ ks → ((x : ℕ × EpochPacket) → Contains qs x → Contains ps x) →
    Moved Came n most i g v ls ps → Moved Came n most i g w ks qs
moved_as Came n most i g v w ls ks ps qs same logs_same some m = record {
  acts = m.acts;
  later = m.later;
  lead = m.lead;
  value_is = m.value_is ∙ same;
  logs_are = m.logs_are ∙ logs_same;
  other_values = m.other_values;
  other_logs = m.other_logs;
  sent = λ x c. m.sent x (⊎_elim (λ a. inl a) (λ a. inr (some x a)) c);
  has = subst (λ (x : EpochValue). HasLogs most i x ks) same
      (subst (λ (x : List (List Entry)). HasLogs most i v x) logs_same m.has);
  came = m.came;
}

-- the group in which node i is this one
pub with_node : ℕ → EpochNodes → EpochValue → List (List Entry) → List (ℕ × EpochPacket) → EpochNodes
with_node i g value logs packets = record {
  values = λ j. cond (eqb j i) value (g.values j);
  logs = λ j. cond (eqb j i) logs (g.logs j);
  sent = g.sent ++ packets;
}

pub node_becomes : (n i : ℕ) (g : EpochNodes) (value : EpochValue) (logs : List (List Entry))
    (packets : List (ℕ × EpochPacket)) → i < n → NodeBecomes n i g value logs packets (with_node i g value logs packets)
unfolding with_node
node_becomes n i g value logs packets small = record {
  is_node = small;
  value_is = ap (λ b. cond b value (g.values i)) (eq-eqb i i refl);
  logs_are = ap (λ b. cond b logs (g.logs i)) (eq-eqb i i refl);
  other_values = λ j ne. ap (λ b. cond b value (g.values j)) (ne_eqb j i ne);
  other_logs = λ j ne. ap (λ b. cond b logs (g.logs j)) (ne_eqb j i ne);
  sent_is = refl;
}

-- one act, by which node i becomes this one, and sends these packets at least
pub moved_one : (Came : Entry → Type 0) (n most i : ℕ) (g : EpochNodes) (act : EpochAct) (value : EpochValue)
    (logs : List (List Entry)) (out packets : List (ℕ × EpochPacket)) → i < n →
    ((new : EpochNodes) → NodeBecomes n i g value logs out new → ActLeads n g act new) →
    ((x : ℕ × EpochPacket) → Contains packets x → Contains out x) → HasLogs most i value logs →
    ((j : ℕ) (e : Entry) → act ≡ Meets j (comes.Request e) → Came e) → Moved Came n most i g value logs packets
moved_one Came n most i g act value logs out packets small leads within has came =
    let new : EpochNodes = with_node i g value logs out in
    let b : NodeBecomes n i g value logs out new = node_becomes n i g value logs out small in
    record {
      acts = act ∷ [];
      later = new;
      lead = (new, leads new b, refl);
      value_is = b.value_is;
      logs_are = b.logs_are;
      other_values = b.other_values;
      other_logs = b.other_logs;
      sent = λ x c. subst (λ (ps : List (ℕ × EpochPacket)). Contains ps x) (sym b.sent_is)
          (⊎_elim
          (λ a. Contains-append_left g.sent out x a)
          (λ a. Contains-append_right g.sent out x (within x a))
          c);
      has = has;
      came = λ j e c. came j e (Contains-one act (Meets j (comes.Request e)) c);
    }
