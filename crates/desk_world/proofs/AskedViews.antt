-- Every node that is up hears that the others ask for the view, and offers its log.
use Rattle.std.proofs.Common.{◌≡◌, ◌≢◌, ℕ, ◌<◌, ◌≤◌, ◌⊎◌, max, Bool, true, false, List}
use Rattle.std.proofs.Common.{[], ◌∷◌, ◌++◌, Option, None, refl, sym, ap, ◌∙◌, arith, inl, inr, ⊎_elim, eqb}
use Rattle.std.proofs.Common.{leb, ltb, if◌then◌else◌}
use Rattle.std.specs.List.{Contains}
use Rattle.std.specs.Prelude.{slice_index_or}
use Rattle.std.proofs.lemmas.Bool.{and_from, eq-eqb, eqb-true, ne_eqb, lt-ltb, ltb-true}
use Rattle.std.proofs.lemmas.Bool.{cond_both, leb-false, false_from_ne_true, false≢true}
use Rattle.std.proofs.lemmas.List.Elements.{Contains-append_right, Contains-append_cases}
use Rattle.desk_types.specs.declared.command.Entry.{Entry}
use Rattle.desk_types.specs.declared.packet.Message.{Message}
use Rattle.desk_types.specs.declared.packet.Message.TheVariants.{StartViewChange, DoViewChange}
use Rattle.desk_log.specs.Change.{Change, nothing, change_after}
use Rattle.desk_types.specs.Group.{IsGroup}
use Rattle.desk_log.specs.Quorum.{primary, faults, tally}
use Rattle.desk_log.specs.SavedValue.{SavedValue, in_view}
use Rattle.desk_view_change.specs.declared.offer.Offer.{Offer}
use Rattle.desk_view_change.specs.Choice.{has_offer, choice}
use Rattle.desk_view_change.specs.Heard.{ViewChangeHeard, with_asker, with_offer}
use Rattle.desk_view_change.specs.Rules.{view_requests, own_offer, offer_packet, offering, asker_count}
use Rattle.desk_view_change.specs.Rules.{is_quorum_new, view_support, on_start_view_change}
use Rattle.desk_node.specs.Heard.{heard_of}
use Rattle.desk_node.specs.Rules.{on_packet_within, on_packet}
use Rattle.desk_world.proofs.HeardCounts.{offer_none, tally_only}
use Rattle.desk_world.proofs.Packets.{Contains-here, Contains-one}
use Rattle.desk_world.proofs.ViewChange.{offer_said, asker_said}

-- No DoViewChange of the view is among the packets.
abbrev pub HasNoOffer : ℕ → List Message → Type 0
HasNoOffer v rs = (j u c : ℕ) (l : List Entry) → Contains rs (DoViewChange j v u c l) → ⊥

-- A StartViewChange is no DoViewChange.
pub no_offer_more : (v k : ℕ) (rs : List Message) → HasNoOffer v rs → HasNoOffer v (rs ++ StartViewChange k v ∷ [])
no_offer_more v k rs h j u c l a = ⊎_elim
    (λ old. h j u c l old)
    (λ new. other (Contains-one _ _ new))
    (Contains-append_cases rs (StartViewChange k v ∷ []) _ a)
  where
    other : StartViewChange k v ≡ DoViewChange j v u c l → ⊥
    other e = cc

-- Where nobody else has offered, no choice is made.
no_choice : (n j v : ℕ) (s : SavedValue) (rs : List Message) → IsGroup n → j < n → HasNoOffer v rs →
    (offers : List (Option Offer)) →
    offers ≡ (heard_of n v (rs ++ offer_packet j (in_view v s) ∷ [])).view_change.offers →
    choice j n (in_view v s) offers ≡ nothing (in_view v s)
unfolding choice
no_choice n j v s rs group small none offers e =
    let few : tally n (λ m. has_offer (slice_index_or offers m None)) ≤ 1 =
    tally_only n j (λ m. has_offer (slice_index_or offers m None)) small (λ m l ne. other m l ne) in
    let off : ltb (faults n) (tally n (λ m. has_offer (slice_index_or offers m None))) ≡ false =
    false_from_ne_true _ (λ t. omega (
      arith,
      few,
      ltb-true (faults n) (tally n (λ m. has_offer (slice_index_or offers m None))) t,
      group.least,
    )) in
    rw off refl
  where
    other : (m : ℕ) → m < n → m ≢ j → has_offer (slice_index_or offers m None) ≡ false
    other m l ne = rw e (offer_none n v m (rs ++ offer_packet j (in_view v s) ∷ []) l (λ u c x a. ⊎_elim
        (λ old. none m u c x old)
        (λ new. ne (sender_is u c x (Contains-one _ _ new)))
        (Contains-append_cases rs (offer_packet j (in_view v s) ∷ []) _ a)))
      where
        sender_is : (u c : ℕ) (x : List Entry) → offer_packet j (in_view v s) ≡ DoViewChange m v u c x → m ≡ j
        sender_is u c x q = cc

-- The node stays as it is, and sends its log to the view's primary.
pub record Offers (n j : ℕ) (t : SavedValue) (c : Change) : Type 0 where
  pub saved : c.saved ≡ t
  pub sent : Contains c.packets (primary n t.view, offer_packet j t)

offering_sends : (n j v : ℕ) (s : SavedValue) (rs : List Message) → IsGroup n → j < n → HasNoOffer v rs →
    (heard : ViewChangeHeard) → heard ≡ (heard_of n v rs).view_change →
    Offers n j (in_view v s) (offering j n (in_view v s) heard)
unfolding offering
offering_sends n j v s rs group small none heard said =
    cond_both (eqb (primary n v) j) _ _ (Offers n j t)
    (λ e.
    let same : primary n v ≡ j = eqb-true (primary n v) j e in
    let still : choice j n t (with_offer j (own_offer t) heard).offers ≡ nothing t =
    no_choice n j v s rs group small none (with_offer j (own_offer t) heard).offers
    (ap (λ (h : ViewChangeHeard). h.offers)
    (ap (with_offer j (own_offer t)) said ∙ offer_said n v j s.normal s.commit s.log rs)) in
    let there : Contains {X = ℕ × Message} ((j, offer_packet j t) ∷ []) (primary n v, offer_packet j t) =
    rw same (Contains-here (j, offer_packet j t) []) in
    rw still (record { saved = refl; sent = there }))
    (λ _. record { saved = refl; sent = Contains-here (primary n v, offer_packet j t) [] })
  where
    t : SavedValue
    t = in_view v s

-- The count of nodes that asked.
abbrev pub askers_in : ℕ → ℕ → ℕ → List Message → ℕ
askers_in n j v rs = asker_count j n (heard_of n v rs).view_change.askers

-- A node that hears that another asks for its view offers its log, or it has not heard enough of them.
pub record HearsAsker (n j v k : ℕ) (s : SavedValue) (rs : List Message) (c : Change) : Type 0 where
  pub saved : c.saved ≡ in_view v s
  pub result : Contains c.packets (primary n v, offer_packet j (in_view v s))
      ⊎ ((c.taken ≡ StartViewChange k v ∷ []) × (askers_in n j v (rs ++ StartViewChange k v ∷ []) < faults n))

support_hears : (n j v k : ℕ) (s : SavedValue) (rs : List Message) → IsGroup n → j < n → HasNoOffer v rs →
    askers_in n j v rs < faults n →
    HearsAsker n j v k s rs (view_support j n v (in_view v s) (heard_of n v rs).view_change k)
unfolding view_support
support_hears n j v k s rs group small none few =
    by_test (is_quorum_new j n heard.askers asked.askers) refl
  where
    heard : ViewChangeHeard
    heard = (heard_of n v rs).view_change

    asked : ViewChangeHeard
    asked = with_asker k heard

    said : asked ≡ (heard_of n v (rs ++ StartViewChange k v ∷ [])).view_change
    said = asker_said n v k rs

    by_test : (b : Bool) → is_quorum_new j n heard.askers asked.askers ≡ b →
        HearsAsker n j v k s rs (change_after (StartViewChange k v ∷ []) (view_requests j n v v)
        (if b then offering j n (in_view v s) asked else nothing (in_view v s)))
    by_test true e =
        let o : Offers n j (in_view v s) (offering j n (in_view v s) asked) =
        offering_sends n j v s (rs ++ StartViewChange k v ∷ []) group small (no_offer_more v k rs none) asked said in
        record {
          saved = o.saved;
          result = inl (Contains-append_right (view_requests j n v v) _ _ o.sent);
        }
    by_test false e =
        let off : leb (faults n) (asker_count j n asked.askers) ≡ false =
        false_from_ne_true _ (λ t. false≢true (sym e ∙ and_from (ltb (asker_count j n heard.askers) (faults n))
        (leb (faults n) (asker_count j n asked.askers)) (lt-ltb (asker_count j n heard.askers) (faults n) few) t)) in
        let count : asker_count j n asked.askers ≡ askers_in n j v (rs ++ StartViewChange k v ∷ []) =
        ap (λ (h : ViewChangeHeard). asker_count j n h.askers) said in
        record {
          saved = refl;
          result = inr (refl, omega (arith, count, leb-false (faults n) (asker_count j n asked.askers) off));
        }

-- A packet of the group's nodes, in a view that is not over.
pub ask_hears : (n j v k : ℕ) (s : SavedValue) (rs : List Message) → IsGroup n → j < n → k < n → k ≢ j → s.normal < v →
    HasNoOffer v rs → askers_in n j v rs < faults n →
    HearsAsker n j v k s rs (on_packet j n (in_view v s) (heard_of n (max v v) rs) (StartViewChange k v))
unfolding on_packet on_packet_within on_start_view_change
ask_hears n j v k s rs group small from other changing none few =
    let known : ltb k n ≡ true = lt-ltb k n from in
    let past : ltb v v ≡ false = false_from_ne_true _ (λ t. omega (arith, ltb-true v v t)) in
    let here : eqb v v ≡ true = eq-eqb v v refl in
    let not_normal : eqb s.normal v ≡ false = ne_eqb s.normal v (λ e. omega (arith, e, changing)) in
    let apart : eqb k j ≡ false = ne_eqb k j other in
    let view : max v v ≡ v = omega arith in
    rw (known, past, here, not_normal, apart, view) (support_hears n j v k s rs group small none few)
