-- The best of the offers that a node heard, each of which was sent.
use Rattle.std.proofs.Common.{◌≡◌, ℕ, ◌<◌, ◌⊎◌, Bool, true, false, ◌&&◌, if◌then◌else◌, List, [], ◌∷◌}
use Rattle.std.proofs.Common.{Option, Some, None, refl, sym, ap, ◌∙◌, inl, inr, ⊎_elim, eqb}
use Rattle.std.specs.List.{Contains}
use Rattle.std.specs.Prelude.{slice_index_or}
use Rattle.std.proofs.lemmas.Bool.{and_parts, eqb-true, false≢true}
use Rattle.std.proofs.lemmas.Option.{same_Some, none-some}
use Rattle.std.specs.Option.{option_or}
use Rattle.desk_types.specs.declared.packet.Message.{Message}
use Rattle.desk_types.specs.declared.packet.Message.TheVariants.{Prepare, PrepareOk, Commit, StartViewChange}
use Rattle.desk_types.specs.declared.packet.Message.TheVariants.{DoViewChange, StartView, GetState, NewState}
use Rattle.desk_types.specs.declared.command.Entry.{Entry}
use Rattle.desk_view_change.specs.declared.offer.Offer.{Offer}
use Rattle.desk_view_change.specs.Choice.{has_offer, best_offer}
use Rattle.desk_view_change.specs.ChoiceLaws.{IsBest}
use Rattle.desk_node.specs.Heard.{heard_of}
use Rattle.desk_node.specs.Said.{first_offer}
use Rattle.desk_view_change.proofs.BestOffer.{NoBetter, no_better_from, best_is_best, best_is_none}
use Rattle.desk_node.proofs.Said.{offers_say}
use Rattle.desk_world.proofs.Packets.{Contains-here, Contains-there}

-- the DoViewChange of an offer
abbrev pub packet_of : ℕ → ℕ → Offer → Message
packet_of view j o = DoViewChange j view o.normal o.commit o.log

offer_by : (b : Bool) (view j from w u c : ℕ) (l : List Entry) (rest : Option Offer) (o : Offer) →
    (eqb from j && eqb w view) ≡ b →
    option_or (if b then Some (record { normal = u; commit = c; log = l }) else None) rest ≡ Some o →
    (DoViewChange from w u c l ≡ packet_of view j o) ⊎ (rest ≡ Some o)
offer_by true view j from w u c l rest o t e =
    let a = and_parts (eqb from j) (eqb w view) t in
    let p : from ≡ j = eqb-true from j a.0 in
    let q : w ≡ view = eqb-true w view a.1 in
    let same : record { normal = u; commit = c; log = l } ≡ o =
    same_Some {A = Offer} (record { normal = u; commit = c; log = l }) o e in
    inl (rw (p, q) (ap (packet_of view j) same))
offer_by false view j from w u c l rest o t e = inr e

-- A node's first offer among packets is one of them.
pub first_offer_sent : (view j : ℕ) (ps : List Message) (o : Offer) → first_offer ps view j ≡ Some o →
    Contains ps (packet_of view j o)
first_offer_sent view j [] o e = absurd (none-some o e)
first_offer_sent view j (DoViewChange from w u c l ∷ ps) o e = ⊎_elim
    (λ here. rw (← here) (Contains-here (DoViewChange from w u c l) ps))
    (λ rest. Contains-there _ ps _ (first_offer_sent view j ps o rest))
    (offer_by (eqb from j && eqb w view) view j from w u c l (first_offer ps view j) o refl e)
first_offer_sent view j (Prepare from w m k x ∷ ps) o e = Contains-there _ ps _ (first_offer_sent view j ps o e)
first_offer_sent view j (PrepareOk from w m ∷ ps) o e = Contains-there _ ps _ (first_offer_sent view j ps o e)
first_offer_sent view j (Commit from w k ∷ ps) o e = Contains-there _ ps _ (first_offer_sent view j ps o e)
first_offer_sent view j (StartViewChange from w ∷ ps) o e = Contains-there _ ps _ (first_offer_sent view j ps o e)
first_offer_sent view j (StartView from w c l ∷ ps) o e = Contains-there _ ps _ (first_offer_sent view j ps o e)
first_offer_sent view j (GetState from w b ∷ ps) o e = Contains-there _ ps _ (first_offer_sent view j ps o e)
first_offer_sent view j (NewState from w b c l ∷ ps) o e = Contains-there _ ps _ (first_offer_sent view j ps o e)

-- Each offer of a node below n is in a DoViewChange of the view that was sent.
abbrev pub OffersSent : List Message → ℕ → ℕ → List (Option Offer) → Type 0
OffersSent ps view n offers = (j : ℕ) (o : Offer) → j < n → slice_index_or offers j None ≡ Some o →
    Contains ps (packet_of view j o)

pub offers_sent : (n view : ℕ) (ps rs : List Message) → ((p : Message) → Contains rs p → Contains ps p) →
    OffersSent ps view n (heard_of n view rs).view_change.offers
offers_sent n view ps rs taken =
    λ j o l e. taken (packet_of view j o) (first_offer_sent view j rs o (sym (offers_say n view j rs l) ∙ e))

-- The offer is that of a node below k, and no such node's is better.
pub record BestOf (offers : List (Option Offer)) (k : ℕ) (o : Offer) : Type 0 where
  pub node : ℕ
  pub small : node < k
  pub is : slice_index_or offers node None ≡ Some o
  pub all : (j : ℕ) (a : Offer) → j < k → slice_index_or offers j None ≡ Some a → NoBetter a o

abbrev pub BestIs : List (Option Offer) → ℕ → Option Offer → Type 0
BestIs offers k None = (j : ℕ) (a : Offer) → j < k → slice_index_or offers j None ≡ Some a → ⊥
BestIs offers k (Some o) = BestOf offers k o

best_from : (offers : List (Option Offer)) (k : ℕ) (best : Option Offer) → best_offer offers k ≡ best →
    BestIs offers k best
best_from offers k None e = λ j a l q. none-some a (sym (best_is_none offers k e j l) ∙ q)
best_from offers k (Some o) e =
    let best : IsBest offers k o = best_is_best offers k o e in
    record {
      node = best.node;
      small = best.within;
      is = best.is;
      all = λ j a l q. no_better_from o a (best.none_better j a l q);
    }

pub best_is : (offers : List (Option Offer)) (k : ℕ) → BestIs offers k (best_offer offers k)
best_is offers k = best_from offers k (best_offer offers k) refl

pub has_offer_some : (o : Option Offer) → has_offer o ≡ true → (a : Offer) × (o ≡ Some a)
has_offer_some None t = absurd (false≢true t)
has_offer_some (Some a) t = (a, refl)
