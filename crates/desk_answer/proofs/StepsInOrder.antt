-- Steps through packets, one after the other.
use Rattle.std.proofs.Common.{map, ◌≡◌, ℕ, List, [], ◌∷◌, ◌++◌, refl, sym, ap, subst, ◌∙◌, append_assoc, append-nil}
use Rattle.desk_types.specs.declared.outcome.Outcome.{Outcome}
use Rattle.desk_types.specs.declared.packet.Message.{Message}
use Rattle.desk_log.specs.SavedValue.{SavedValue}
use Rattle.desk_node.specs.declared.event.Event.TheVariants as events
use Rattle.desk_node.specs.Heard.{Says}
use Rattle.desk_node.specs.NodeValue.{NodeValue, IsSameNode, DoesStep}
use Rattle.desk_node.specs.State.{State}
use Rattle.desk_answer.specs.AnswerStream.{packet_step, after_packets, sent_for, StepsFrom, HasStepped}

module _ (domain : List ℕ) (i n : ℕ) where
  after_packets-append : (node : State) (ps qs : List Message) →
      after_packets domain i n node (ps ++ qs) ≡ after_packets domain i n (after_packets domain i n node ps) qs
  after_packets-append node [] qs = refl
  after_packets-append node (p ∷ ps) qs = after_packets-append (packet_step domain i n node p).node ps qs

  sent_for-append : (node : State) (ps qs : List Message) →
      sent_for domain i n node (ps ++ qs)
      ≡ sent_for domain i n node ps ++ sent_for domain i n (after_packets domain i n node ps) qs
  sent_for-append node [] qs = refl
  sent_for-append node (p ∷ ps) qs =
      let step = packet_step domain i n node p in
      let first = map (λ sent. sent.1) step.packets in
      ap (λ t. first ++ t) (sent_for-append step.node ps qs)
      ∙ sym (append_assoc first (sent_for domain i n step.node ps)
      (sent_for domain i n (after_packets domain i n step.node ps) qs))

pub same_refl : (a : NodeValue) → IsSameNode a a
same_refl a = record { domain_is = refl; id_is = refl; n_is = refl }

pub same_trans : (a b c : NodeValue) → IsSameNode a b → IsSameNode b c → IsSameNode a c
same_trans a b c h k = record {
  domain_is = k.domain_is ∙ h.domain_is;
  id_is = k.id_is ∙ h.id_is;
  n_is = k.n_is ∙ h.n_is;
}

pub stepped_nothing : (a : NodeValue) → HasStepped a [] a []
stepped_nothing a = record {
  same = same_refl a;
  steps = λ received says. record { saved_is = refl; says = says; sent_is = refl };
}

-- Steps go on from where others led. The node after both is the same whichever names it goes by.
steps_more : (a b c : NodeValue) (node : State) (ps qs xs ys : List Message) → IsSameNode a b →
    StepsFrom a node ps b xs →
    ((received : List Message) → Says b.n b.saved.view received b.heard →
    StepsFrom b (record { saved = b.saved; received = received }) qs c ys) →
    StepsFrom a node (ps ++ qs) c (xs ++ ys)
steps_more a b c node ps qs xs ys same h more =
    let mid = after_packets a.domain a.id a.n node ps in
    let k = more mid.received (rw same.n_is h.says) in
    let at : State = record { saved = b.saved; received = mid.received } in
    let joined = after_packets a.domain a.id a.n node (ps ++ qs) in
    let there : at ≡ mid = ap (λ (saved : SavedValue). record { saved = saved; received = mid.received }) h.saved_is in
    let after : after_packets b.domain b.id b.n at qs ≡ joined =
    rw (same.domain_is, same.id_is, same.n_is, there) (sym (after_packets-append a.domain a.id a.n node ps qs)) in
    let sends : sent_for b.domain b.id b.n at qs ≡ sent_for a.domain a.id a.n mid qs =
    rw (same.domain_is, same.id_is, same.n_is, there) refl in
    record {
      saved_is = k.saved_is ∙ ap (λ (s : State). s.saved) after;
      says = subst (λ (m : ℕ). Says m c.saved.view joined.received c.heard) same.n_is
          (subst (λ (s : State). Says b.n c.saved.view s.received c.heard) after k.says);
      sent_is = ap (λ t. xs ++ t) (k.sent_is ∙ sends) ∙ ap (λ t. t ++ sent_for a.domain a.id a.n mid qs) h.sent_is
          ∙ sym (sent_for-append a.domain a.id a.n node ps qs);
    }

pub stepped_more : (a b c : NodeValue) (ps qs xs ys : List Message) → HasStepped a ps b xs → HasStepped b qs c ys →
    HasStepped a (ps ++ qs) c (xs ++ ys)
stepped_more a b c ps qs xs ys h k = record {
  same = same_trans a b c h.same k.same;
  steps = λ received says. steps_more a b c (record { saved = a.saved; received = received }) ps qs xs ys h.same
      (h.steps received says) k.steps;
}

-- a step for a packet
pub stepped_once : (a b : NodeValue) (p : Message) (packets : List (ℕ × Message)) (answers : List Outcome) →
    DoesStep a (events.Packet p) b packets answers → IsSameNode a b →
    HasStepped a (p ∷ []) b (map (λ sent. sent.1) packets)
stepped_once a b p packets answers h same = record {
  same = same;
  steps = λ received says.
      let does = h received says in
      record {
        saved_is = does.saved_is;
        says = does.says;
        sent_is = ap (map (λ sent. sent.1)) does.packets_are ∙ sym (append-nil _);
      };
}
