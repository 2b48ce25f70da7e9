-- What happens to the nodes that have one token happens in the group of all nodes.
use Rattle.std.proofs.Common.{◌≡◌, ◌≢◌, ℕ, List, [], ◌∷◌, ◌++◌, ◌+◌, cond, map, eqb, refl, sym, ap, ◌∙◌, subst}
use Rattle.std.proofs.lemmas.Bool.{eq-eqb, ne_eqb}
use Rattle.desk_types.specs.declared.command.Entry.{Entry}
use Rattle.desk_types.specs.declared.epoch_packet.EpochPacket.{EpochPacket}
use Rattle.desk_types.specs.declared.packet.Message.{Message}
use Rattle.desk_epochs.specs.Epochs.{joined_logs}
use Rattle.desk_epoch_node.specs.EpochValue.{EpochValue, committed_cut}
use Rattle.desk_epoch_group.specs.Group.{ActLeads, ActsLead, Begins, BeginsAndEnds, BeginsWhereDue, EpochAct}
use Rattle.desk_epoch_group.specs.Group.{EpochNodes, MakesEpochStep, Meets, MeetsAndEnds, NodeBecomes, StartsAgain}
use Rattle.desk_epoch_group.specs.Group.{StartsInEpoch, WasSentBefore, epoch_packets_of, in_epoch, logs_after}
use Rattle.desk_epoch_group.specs.Group.{started_again}
use Rattle.desk_epoch_members.specs.Nodes.{TokenActsLead, TokenNodes, nodes_with}

-- Each node is the same in both groups, with the same logs behind it, and the same was sent.
pub record SameNodes (a b : EpochNodes) : Type 0 where
  pub values : (i : ℕ) → a.values i ≡ b.values i
  pub logs : (i : ℕ) → a.logs i ≡ b.logs i
  pub sent : a.sent ≡ b.sent

becomes_same : (n i : ℕ) (a b c d : EpochNodes) (value : EpochValue) (logs : List (List Entry))
    (packets : List (ℕ × EpochPacket)) → SameNodes a c → SameNodes b d → NodeBecomes n i a value logs packets b →
    NodeBecomes n i c value logs packets d
becomes_same n i a b c d value logs packets old new x = record {
  is_node = x.is_node;
  value_is = sym (new.values i) ∙ x.value_is;
  logs_are = sym (new.logs i) ∙ x.logs_are;
  other_values = λ j ne. sym (new.values j) ∙ (x.other_values j ne ∙ old.values j);
  other_logs = λ j ne. sym (new.logs j) ∙ (x.other_logs j ne ∙ old.logs j);
  sent_is = sym new.sent ∙ (x.sent_is ∙ ap (λ (ps : List (ℕ × EpochPacket)). ps ++ packets) old.sent);
}

-- a beginning, of the same node
begins_same : (a b c d : EpochNodes) (n i : ℕ) (value became : EpochValue) (packets : List (ℕ × Message))
    (out : ℕ → List (ℕ × EpochPacket)) → SameNodes a c → SameNodes b d →
    BeginsWhereDue (joined_logs (a.logs i)) (a.values i) value packets
    × NodeBecomes n i a became (a.logs i ++ committed_cut (a.values i) ∷ []) (out (a.values i).epoch) b →
    BeginsWhereDue (joined_logs (c.logs i)) (c.values i) value packets
    × NodeBecomes n i c became (c.logs i ++ committed_cut (c.values i) ∷ []) (out (c.values i).epoch) d
begins_same a b c d n i value became packets out old new (due, x) =
    subst
    (λ (ls : List (List Entry)). BeginsWhereDue (joined_logs ls) (c.values i) value packets
    × NodeBecomes n i c became (ls ++ committed_cut (c.values i) ∷ []) (out (c.values i).epoch) d) (old.logs i)
    (subst
    (λ (v : EpochValue). BeginsWhereDue (joined_logs (a.logs i)) v value packets
    × NodeBecomes n i c became (a.logs i ++ committed_cut v ∷ []) (out v.epoch) d) (old.values i) (
      due,
      becomes_same n i a b c d became (a.logs i ++ committed_cut (a.values i) ∷ []) (out (a.values i).epoch) old new
          x,
    ))

-- What happens in a group happens in one of the same nodes.
act_same : (n : ℕ) (a b c d : EpochNodes) (act : EpochAct) → SameNodes a c → SameNodes b d → ActLeads n a act b →
    ActLeads n c act d
act_same n a b c d (Meets i event) old new (value, step, sent, makes, x) =
    let (does, y) =
    subst
    (λ (ls : List (List Entry)). MakesEpochStep (joined_logs ls) (c.values i) event value step
    × NodeBecomes n i c value (logs_after ls step) (epoch_packets_of (c.values i) ls step) d) (old.logs i)
    (subst
    (λ (v : EpochValue). MakesEpochStep (joined_logs (a.logs i)) v event value step
    × NodeBecomes n i c value (logs_after (a.logs i) step) (epoch_packets_of v (a.logs i) step) d) (old.values i) (
      makes,
      becomes_same n i a b c d value (logs_after (a.logs i) step) (epoch_packets_of (a.values i) (a.logs i) step)
          old new x,
    )) in
    (value, step, subst (λ (ps : List (ℕ × EpochPacket)). WasSentBefore ps i event) old.sent sent, does, y)
act_same n a b c d (Begins i) old new (value, packets, due, x) =
    let (is_due, y) =
    begins_same a b c d n i value value packets (λ epoch. map (in_epoch (epoch + 1)) packets) old new (due, x) in
    (value, packets, is_due, y)
act_same n a b c d (BeginsAndEnds i) old new (value, packets, due, x) =
    let (is_due, y) =
    begins_same a b c d n i value (started_again value) packets (λ epoch. []) old new (due, x) in
    (value, packets, is_due, y)
act_same n a b c d (MeetsAndEnds i event) old new (value, step, sent, makes, begun, x) = (
  value,
  step,
  subst (λ (ps : List (ℕ × EpochPacket)). WasSentBefore ps i event) old.sent sent,
  subst (λ (ls : List (List Entry)). MakesEpochStep (joined_logs ls) (c.values i) event value step) (old.logs i)
      (subst (λ (v : EpochValue). MakesEpochStep (joined_logs (a.logs i)) v event value step) (old.values i) makes),
  begun,
  subst (λ (ls : List (List Entry)). NodeBecomes n i c (started_again value) (logs_after ls step) [] d) (old.logs i)
      (becomes_same n i a b c d (started_again value) (logs_after (a.logs i) step) [] old new x),
)
act_same n a b c d (StartsAgain i) old new (value, starts, x) = (
  value,
  subst (λ (ls : List (List Entry)). StartsInEpoch (joined_logs ls) (c.values i) value) (old.logs i)
      (subst (λ (v : EpochValue). StartsInEpoch (joined_logs (a.logs i)) v value) (old.values i) starts),
  subst (λ (ls : List (List Entry)). NodeBecomes n i c value ls [] d) (old.logs i)
      (becomes_same n i a b c d value (a.logs i) [] old new x),
)

-- the group in which these are the nodes that have the token
put_nodes : ℕ → TokenNodes → EpochNodes → TokenNodes
put_nodes token g nodes = record {
  values = λ i t. cond (eqb t token) (nodes.values i) (g.values i t);
  logs = λ i t. cond (eqb t token) (nodes.logs i) (g.logs i t);
  sent = nodes.sent;
}

put_same : (token : ℕ) (g : TokenNodes) (nodes : EpochNodes) →
    SameNodes nodes (nodes_with (put_nodes token g nodes) token)
unfolding put_nodes
put_same token g nodes = record {
  values = λ i. ap (λ b. cond b (nodes.values i) (g.values i token)) (sym (eq-eqb token token refl));
  logs = λ i. ap (λ b. cond b (nodes.logs i) (g.logs i token)) (sym (eq-eqb token token refl));
  sent = refl;
}

put_values : (token : ℕ) (g : TokenNodes) (nodes : EpochNodes) (i t : ℕ) → t ≢ token →
    (put_nodes token g nodes).values i t ≡ g.values i t
unfolding put_nodes
put_values token g nodes i t ne = ap (λ b. cond b (nodes.values i) (g.values i t)) (ne_eqb t token ne)

put_logs : (token : ℕ) (g : TokenNodes) (nodes : EpochNodes) (i t : ℕ) → t ≢ token →
    (put_nodes token g nodes).logs i t ≡ g.logs i t
unfolding put_nodes
put_logs token g nodes i t ne = ap (λ b. cond b (nodes.logs i) (g.logs i t)) (ne_eqb t token ne)

-- acts, each with the token
abbrev pub all_with : ℕ → List EpochAct → List (ℕ × EpochAct)
all_with token acts = map (λ act. (token, act)) acts

-- Acts lead to a group in which these are the nodes that have the token, and no other node has changed.
pub record TokenActsMake (n token : ℕ) (g : TokenNodes) (acts : List EpochAct) (nodes : EpochNodes) : Type 0 where
  pub later : TokenNodes
  pub lead : TokenActsLead n g (all_with token acts) later
  pub same : SameNodes nodes (nodes_with later token)
  pub other_values : (i t : ℕ) → t ≢ token → later.values i t ≡ g.values i t
  pub other_logs : (i t : ℕ) → t ≢ token → later.logs i t ≡ g.logs i t

pub token_acts : (n token : ℕ) (g : TokenNodes) (acts : List EpochAct) (old new : EpochNodes) →
    SameNodes old (nodes_with g token) → ActsLead n old acts new → TokenActsMake n token g acts new
token_acts n token g [] old new are same = record {
  later = g;
  lead = refl;
  same = subst (λ (x : EpochNodes). SameNodes x (nodes_with g token)) same are;
  other_values = λ i t ne. refl;
  other_logs = λ i t ne. refl;
}
token_acts n token g (act ∷ more) old new are (mid, one, rest) =
    let next : TokenNodes = put_nodes token g mid in
    let on : TokenActsMake n token next more new =
    token_acts n token next more mid new (put_same token g mid) rest in
    record {
      later = on.later;
      lead = (
        next,
        record {
          leads = act_same n old mid (nodes_with g token) (nodes_with next token) act are (put_same token g mid) one;
          other_values = λ i t ne. put_values token g mid i t ne;
          other_logs = λ i t ne. put_logs token g mid i t ne;
        },
        on.lead,
      );
      same = on.same;
      other_values = λ i t ne. on.other_values i t ne ∙ put_values token g mid i t ne;
      other_logs = λ i t ne. on.other_logs i t ne ∙ put_logs token g mid i t ne;
    }
