use Rattle.std.proofs.Common.{◌≡◌, ◌++◌, ◌∷◌, [], ℕ, List, IfOk, true, false, eqb, refl, subst, append_assoc}
use Rattle.std.proofs.lemmas.Bool.{eq-eqb, ne_eqb}
use Rattle.std.proofs.lemmas.List.{append-nil}
use Rattle.desk_types.specs.declared.packet.Message.{Message}
use Rattle.desk_types.specs.declared.packet.Message.TheVariants.{DoViewChange}
use Rattle.desk_log.specs.Change.{Change, change_after, nothing, one_packet}
use Rattle.desk_log.specs.Quorum.{primary}
use Rattle.desk_log.specs.SavedValue.{SavedValue, in_view}
use Rattle.desk_view_change.specs.declared.offer.Offer.{Offer}
use Rattle.desk_view_change.specs.Choice.{choice}
use Rattle.desk_view_change.specs.Heard.{ViewChangeHeard, with_offer}
use Rattle.desk_view_change.specs.Plan.{IsPlan}
use Rattle.desk_view_change.specs.Rules.{own_offer, offer_packet, offering}
use Rattle.desk_view_change.proofs.own_offer.offer_log.Goals as goal

-- the offer of a node that is not the primary is one packet
to_primary : (i n : ℕ) (s : SavedValue) (h : ViewChangeHeard) → eqb (primary n s.view) i ≡ false →
    offering i n s h ≡ one_packet s (primary n s.view) (offer_packet i s)
unfolding offering
to_primary i n s h e = rw e refl

-- the choice follows the offer of the primary
by_primary : (i n : ℕ) (s : SavedValue) (h : ViewChangeHeard) → eqb (primary n s.view) i ≡ true →
    offering i n s h ≡ change_after (offer_packet i s ∷ []) ((i, offer_packet i s) ∷ [])
    (choice i n s (with_offer i (own_offer s) h).offers)
unfolding offering
by_primary i n s h e = rw e refl

-- nothing happens after the packet to another node
away : (i n to : ℕ) (s : SavedValue) (h : ViewChangeHeard) (before after : List (ℕ × Message)) → (to ≡ i → ⊥) →
    to ≡ primary n s.view → after ≡ before ++ (to, offer_packet i s) ∷ [] →
    change_after [] after (nothing s) ≡ change_after [] before (offering i n s h)
away i n to s h before after ne t e =
    rw (to_primary i n s h (subst (λ p. eqb p i ≡ false) t (ne_eqb to i ne)), append-nil after, e, t) refl

-- the choice stands after the packet to the node itself
home : (i n to : ℕ) (s : SavedValue) (h : ViewChangeHeard) (o : Offer) (before after : List (ℕ × Message)) →
    o ≡ own_offer s → to ≡ i → to ≡ primary n s.view → after ≡ before ++ (to, offer_packet i s) ∷ [] →
    change_after (DoViewChange i s.view o.normal o.commit o.log ∷ []) after (choice i n s (with_offer i o h).offers)
    ≡ change_after [] before (offering i n s h)
home i n to s h o before after g same t e =
    let c = choice i n s (with_offer i (own_offer s) h).offers in
    rw (
      by_primary i n s h (subst (λ p. eqb p i ≡ true) t (eq-eqb to i same)),
      g,
      e,
      same,
      append_assoc before ((i, offer_packet i s) ∷ []) c.packets,
    ) refl

pub returns-then-to-member-clause-plan : goal.returns-then-to-member-clause-plan
returns-then-to-member-clause-plan c =
    let s = c.args.saved.now in let v = in_view c.args.view s in
    subst (λ (x : Change). IsPlan x s c.with_packets.result)
    (away c.args.member.id c.args.member.n c.primary-to.result v c.args.heard.now c.args.packets.items
    c.push_offer.new.packets.items c.if-to-member.true c.primary-to.ensures.value c.in_ok-push_offer.ensures)
    (c.with_packets.ensures.plan s c.requires.least_view)

pub returns-clause-plan : goal.returns-clause-plan
returns-clause-plan c =
    let s = c.args.saved.now in let v = in_view c.args.view s in
    subst (λ (x : Change). IfOk c.take_offer.result (λ plan. IsPlan x s plan))
    (home c.args.member.id c.args.member.n c.primary-to.result v c.args.heard.now c.in_ok-offer.offer
    c.args.packets.items c.push_offer.new.packets.items c.in_ok-offer.ensures c.if-to-member.false
    c.primary-to.ensures.value c.in_ok-push_offer.ensures) c.take_offer.ensures.plan
