-- How many nodes were heard, where all were or none was.
use Rattle.std.proofs.Common.{cond, ◌≡◌, ◌≢◌, ℕ, zero, suc, ◌+◌, ◌<◌, ◌≤◌, ◌⊎◌, Bool, true, false, not, ◌&&◌, ◌||◌}
use Rattle.std.proofs.Common.{List, []}
use Rattle.std.proofs.Common.{◌∷◌, Option, Some, None, refl, ap, ◌∙◌, arith, inl, inr, ⊎_elim, eqb, leb}
use Rattle.std.specs.List.{Contains}
use Rattle.std.specs.Prelude.{slice_index_or}
use Rattle.std.proofs.lemmas.Bool.{cases_eq, and_from, and_parts, or_left, or_right, or_cases, eq-eqb, eqb-true, ne_eqb}
use Rattle.std.proofs.lemmas.Bool.{eqb-false, not-true, false≢true, false_from_ne_true}
use Rattle.std.specs.Option.{option_or}
use Rattle.desk_types.specs.declared.command.Entry.{Entry}
use Rattle.desk_types.specs.declared.packet.Message.{Message}
use Rattle.desk_types.specs.declared.packet.Message.TheVariants.{Prepare, PrepareOk, Commit, StartViewChange}
use Rattle.desk_types.specs.declared.packet.Message.TheVariants.{DoViewChange, StartView, GetState, NewState}
use Rattle.desk_types.specs.Group.{IsGroup}
use Rattle.desk_log.specs.Quorum.{faults, tally}
use Rattle.desk_normal.specs.Acknowledgements.{votes}
use Rattle.desk_view_change.specs.declared.offer.Offer.{Offer}
use Rattle.desk_view_change.specs.Choice.{has_offer}
use Rattle.desk_view_change.specs.Rules.{asker_count}
use Rattle.desk_node.specs.Heard.{heard_of}
use Rattle.desk_node.specs.Said.{asks, has_asked, offer_in, first_offer}
use Rattle.desk_log.proofs.Tallies.{tally_same, tally_one_more, tally_le}
use Rattle.desk_node.proofs.Said.{acked_says, asked_says, offers_say}
use Rattle.desk_world.proofs.BestOffers.{first_offer_sent}
use Rattle.desk_world.proofs.Packets.{Contains-here, Contains-there, Contains-none, Contains-cases, sent-has_acked}

tally_empty : (n : ℕ) → tally n (λ j. false) ≡ 0
tally_empty zero = refl
tally_empty (suc n) = tally_empty n

pub tally_none : (n : ℕ) (p : ℕ → Bool) → ((j : ℕ) → j < n → p j ≡ false) → tally n p ≡ 0
tally_none n p h = tally_same n p (λ j. false) h ∙ tally_empty n

below_step : (a b : Bool) (x y : ℕ) → (a ≡ true → b ≡ true) → x ≤ y → cond a (suc x) x ≤ cond b (suc y) y
below_step true true x y h l = omega arith
below_step true false x y h l = absurd (false≢true (h refl))
below_step false true x y h l = omega arith
below_step false false x y h l = l

-- A test that nodes below n pass wherever they pass another counts no less.
pub tally_le-below : (n : ℕ) (p q : ℕ → Bool) → ((j : ℕ) → j < n → p j ≡ true → q j ≡ true) → tally n p ≤ tally n q
tally_le-below zero p q h = omega arith
tally_le-below (suc n) p q h =
    below_step (p n) (q n) (tally n p) (tally n q) (h n (omega arith))
    (tally_le-below n p q (λ j l. h j (omega (arith, l))))

-- The nodes that are up, but for one, are one fewer.
pub tally_others : (n i : ℕ) (up q : ℕ → Bool) → i < n → ((j : ℕ) → j < n → up j ≡ true → j ≢ i → q j ≡ true) →
    tally n up ≤ tally n (λ j. not (eqb j i) && q j) + 1
tally_others n i up q small h =
    let p : ℕ → Bool = λ j. not (eqb j i) && q j in
    let off : p i ≡ false = ap (λ b. not b && q i) (eq-eqb i i refl) in
    omega (arith, tally_one_more n i p small off, tally_le-below n up (λ j. eqb j i || p j) each)
  where
    by_node : (j : ℕ) → j < n → up j ≡ true → (j ≡ i) ⊎ (j ≢ i) → (eqb j i || (not (eqb j i) && q j)) ≡ true
    by_node j l on (inl e) = or_left (eqb j i) (not (eqb j i) && q j) (eq-eqb j i e)
    by_node j l on (inr ne) = or_right (eqb j i) (not (eqb j i) && q j)
        (and_from (not (eqb j i)) (q j) (ap not (ne_eqb j i ne)) (h j l on ne))

    each : (j : ℕ) → j < n → up j ≡ true → (eqb j i || (not (eqb j i) && q j)) ≡ true
    each j l on = by_node j l on (cases_eq j i)

-- who asked for a view

asks_sent : (view j : ℕ) (p : Message) → asks view j p ≡ true → p ≡ StartViewChange j view
asks_sent view j (StartViewChange from w) t =
    let a = and_parts (eqb from j) (eqb w view) t in
    let e : from ≡ j = eqb-true from j a.0 in
    let f : w ≡ view = eqb-true w view a.1 in
    cc
asks_sent view j (PrepareOk from w l) t = absurd (false≢true t)
asks_sent view j (Prepare from w l c e) t = absurd (false≢true t)
asks_sent view j (Commit from w c) t = absurd (false≢true t)
asks_sent view j (DoViewChange from w u c l) t = absurd (false≢true t)
asks_sent view j (StartView from w c l) t = absurd (false≢true t)
asks_sent view j (GetState from w b) t = absurd (false≢true t)
asks_sent view j (NewState from w b c l) t = absurd (false≢true t)

has_asked-sent : (ps : List Message) (view j : ℕ) → has_asked ps view j ≡ true → Contains ps (StartViewChange j view)
has_asked-sent [] view j t = absurd (false≢true t)
has_asked-sent (p ∷ ps) view j t = ⊎_elim
    (λ a. rw (← asks_sent view j p a) (Contains-here p ps))
    (λ b. Contains-there p ps _ (has_asked-sent ps view j b))
    (or_cases (asks view j p) (has_asked ps view j) t)

sent-has_asked : (ps : List Message) (view j : ℕ) → Contains ps (StartViewChange j view) → has_asked ps view j ≡ true
sent-has_asked [] view j c = absurd (Contains-none _ c)
sent-has_asked (p ∷ ps) view j c = ⊎_elim
    (λ e. or_left (asks view j p) (has_asked ps view j) (rw e (own j view)))
    (λ r. or_right (asks view j p) (has_asked ps view j) (sent-has_asked ps view j r))
    (Contains-cases p ps _ c)
  where
    own : (j view : ℕ) → asks view j (StartViewChange j view) ≡ true
    own j view = and_from (eqb j j) (eqb view view) (eq-eqb j j refl) (eq-eqb view view refl)

-- Nobody asked.
pub askers_none : (n i v : ℕ) (rs : List Message) → ((k : ℕ) → Contains rs (StartViewChange k v) → ⊥) →
    asker_count i n (heard_of n v rs).view_change.askers ≡ 0
askers_none n i v rs h = tally_none n _ (λ j l.
    let off : has_asked rs v j ≡ false = false_from_ne_true _ (λ t. h j (has_asked-sent rs v j t)) in
    by_test (not (eqb j i)) (asked_says n v j rs l ∙ off))
  where
    by_test : {x : Bool} (b : Bool) → x ≡ false → (b && x) ≡ false
    by_test true e = e
    by_test false e = refl

-- All others that are up asked.
pub askers_all : (n i v : ℕ) (up : ℕ → Bool) (rs : List Message) → i < n →
    ((k : ℕ) → k < n → up k ≡ true → k ≢ i → Contains rs (StartViewChange k v)) →
    tally n up ≤ asker_count i n (heard_of n v rs).view_change.askers + 1
askers_all n i v up rs small h =
    tally_others n i up (λ j. slice_index_or (heard_of n v rs).view_change.askers j false) small
    (λ j l on ne. asked_says n v j rs l ∙ sent-has_asked rs v j (h j l on ne))

-- who offered for a view

first_offer_there : (ps : List Message) (view j u c : ℕ) (l : List Entry) → Contains ps (DoViewChange j view u c l) →
    has_offer (first_offer ps view j) ≡ true
first_offer_there [] view j u c l a = absurd (Contains-none _ a)
first_offer_there (p ∷ ps) view j u c l a = ⊎_elim
    (λ e. rw e (own (first_offer ps view j)))
    (λ r. later (offer_in view j p) (first_offer ps view j) (first_offer_there ps view j u c l r))
    (Contains-cases p ps _ a)
  where
    own : (o : Option Offer) → has_offer (option_or (offer_in view j (DoViewChange j view u c l)) o) ≡ true
    own o =
        let here : (eqb j j && eqb view view) ≡ true =
        and_from (eqb j j) (eqb view view) (eq-eqb j j refl) (eq-eqb view view refl) in
        rw here refl

    later : (x y : Option Offer) → has_offer y ≡ true → has_offer (option_or x y) ≡ true
    later None y t = t
    later (Some x) y t = refl

pub offer_there : (n v j u c : ℕ) (l : List Entry) (rs : List Message) → j < n → Contains rs (DoViewChange j v u c l) →
    has_offer (slice_index_or (heard_of n v rs).view_change.offers j None) ≡ true
offer_there n v j u c l rs small a =
    ap has_offer (offers_say n v j rs small) ∙ first_offer_there rs v j u c l a

pub offer_none : (n v j : ℕ) (rs : List Message) → j < n →
    ((u c : ℕ) (l : List Entry) → Contains rs (DoViewChange j v u c l) → ⊥) →
    has_offer (slice_index_or (heard_of n v rs).view_change.offers j None) ≡ false
offer_none n v j rs small h = ap has_offer (offers_say n v j rs small) ∙ by_offer (first_offer rs v j) refl
  where
    by_offer : (o : Option Offer) → first_offer rs v j ≡ o → has_offer o ≡ false
    by_offer None e = refl
    by_offer (Some o) e = absurd (h o.normal o.commit o.log (first_offer_sent v j rs o e))

-- All others that are up acknowledged a place.
pub votes_all : (n i v m : ℕ) (up : ℕ → Bool) (rs : List Message) → i < n → 1 ≤ m →
    ((k : ℕ) → k < n → up k ≡ true → k ≢ i → Contains rs (PrepareOk k v m)) →
    tally n up ≤ votes i n (heard_of n v rs).places m + 1
votes_all n i v m up rs small pos h =
    tally_others n i up (λ j. leb m (slice_index_or (heard_of n v rs).places j 0)) small
    (λ j l on ne. acked_says n v j m rs l pos ∙ sent-has_acked rs v m j (m, omega arith, h j l on ne))

-- Where no other node passes a test, at most one does.
pub tally_only : (n i : ℕ) (q : ℕ → Bool) → i < n → ((j : ℕ) → j < n → j ≢ i → q j ≡ false) → tally n q ≤ 1
tally_only n i q small h =
    let p : ℕ → Bool = λ j. not (eqb j i) && q j in
    let off : p i ≡ false = ap (λ b. not b && q i) (eq-eqb i i refl) in
    omega (
      arith,
      tally_one_more n i p small off,
      tally_none n p (λ j l. by_node j l (cases_eq j i)),
      tally_le n q (λ j. eqb j i || p j) (λ j t. by_test (eqb j i) (q j) t),
    )
  where
    by_node : (j : ℕ) → j < n → (j ≡ i) ⊎ (j ≢ i) → (not (eqb j i) && q j) ≡ false
    by_node j l (inl e) = ap (λ b. not b && q j) (eq-eqb j i e)
    by_node j l (inr ne) = ap (λ b. not b && q j) (ne_eqb j i ne) ∙ h j l ne

    by_test : (a b : Bool) → b ≡ true → (a || (not a && b)) ≡ true
    by_test true b t = refl
    by_test false b t = t

some_step : (n : ℕ) (p : ℕ → Bool) (b : Bool) → p n ≡ b → (0 < tally n p → (j : ℕ) × (j < n) × (p j ≡ true)) →
    0 < cond b (suc (tally n p)) (tally n p) → (j : ℕ) × (j < suc n) × (p j ≡ true)
some_step n p true e ih l = (n, omega arith, e)
some_step n p false e ih l = let below = ih l in (below.0, omega (arith, below.1), below.2)

-- A count that is not 0 has a node below n.
pub tally_some-below : (n : ℕ) (p : ℕ → Bool) → 0 < tally n p → (j : ℕ) × (j < n) × (p j ≡ true)
tally_some-below zero p h = absurd (omega (arith, h))
tally_some-below (suc n) p h = some_step n p (p n) refl (tally_some-below n p) h

-- Where more nodes are up than may fail, another node than node i is.
pub another_up : (n i : ℕ) (up : ℕ → Bool) → IsGroup n → faults n < tally n up → i < n →
    (j : ℕ) × (j < n) × (up j ≡ true) × (j ≢ i)
another_up n i up group most small =
    let p : ℕ → Bool = λ j. not (eqb j i) && up j in
    let some : (j : ℕ) × (j < n) × (p j ≡ true) =
    tally_some-below n p (omega (arith, tally_others n i up up small (λ j l on ne. on), most, group.least)) in
    let parts = and_parts (not (eqb some.0 i)) (up some.0) some.2 in
    (some.0, some.1, parts.1, eqb-false some.0 i (not-true (eqb some.0 i) parts.0))
