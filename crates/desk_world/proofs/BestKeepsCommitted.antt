-- The log of the best offer keeps what the primary has committed, so the choice is made.
use Rattle.std.proofs.Common.{◌≡◌, ℕ, ◌<◌, ◌≤◌, ◌⊎◌, true, List, length, take, Option, Some, None, sym, arith}
use Rattle.std.proofs.Common.{inl, inr}
use Rattle.std.specs.Prelude.{slice_index_or}
use Rattle.std.proofs.lemmas.List.{length-take}
use Rattle.desk_types.specs.declared.command.Entry.{Entry}
use Rattle.desk_types.specs.declared.packet.Message.{Message}
use Rattle.desk_log.specs.Change.{keeps_committed}
use Rattle.desk_log.specs.Entries.{IsLogPrefix}
use Rattle.desk_types.specs.Group.{IsGroup}
use Rattle.desk_log.specs.Quorum.{faults, tally}
use Rattle.desk_log.specs.SavedValue.{SavedValue}
use Rattle.desk_view_change.specs.declared.offer.Offer.{Offer}
use Rattle.desk_view_change.specs.Choice.{has_offer}
use Rattle.desk_node.specs.Said.{has_acked}
use Rattle.desk_log.proofs.Prefixes.{prefix_trans, prefixes_in_order, prefix_take, length-prefix, take-prefix}
use Rattle.desk_log.proofs.KeepsCommitted.{keeps_committed-Decides}
use Rattle.desk_log.proofs.Tallies.{Shared, tallies_meet}
use Rattle.desk_view_change.proofs.BestOffer.{NoBetter}
use Rattle.desk_world.specs.Views.{IsChosen}
use Rattle.desk_world.proofs.BestOffers.{packet_of, OffersSent, BestOf, has_offer_some}
use Rattle.desk_world.proofs.NodeInvariants.{Nodes, NodeInvariant, OfferHolds}
use Rattle.desk_world.proofs.Invariant.{GroupInvariant}
use Rattle.desk_world.proofs.Packets.{SentOk, has_acked-sent}
use Rattle.desk_world.proofs.ChosenPrefixes.{survives, chosen_within, chosen_prefix}
use Rattle.desk_world.proofs.ViewLog.{announced_start, announced_log}

-- A log that has the first entries of another keeps them.
pub keeps_from : (s : SavedValue) (l : List Entry) → s.commit ≤ length s.log → IsLogPrefix (take s.commit s.log) l →
    keeps_committed s l ≡ true
keeps_from s l within f =
    let long : length (take s.commit s.log) ≡ s.commit = omega (arith, length-take s.commit s.log, within) in
    let fits : s.commit ≤ length l = omega (arith, long, length-prefix (take s.commit s.log) l f) in
    let same : take s.commit l ≡ take s.commit s.log = rw long at (take-prefix (take s.commit s.log) l f) in
    (keeps_committed-Decides s l).1 (fits, sym same)

-- What was chosen in a view stands in the best log that a majority offers for a later one.
chosen_stands : (n : ℕ) (ps : List Message) (at : Nodes) → IsGroup n → GroupInvariant n ps at → (v : ℕ) →
    (offers : List (Option Offer)) → OffersSent ps v n offers →
    faults n < tally n (λ j. has_offer (slice_index_or offers j None)) → (o : Offer) → BestOf offers n o → (x c : ℕ) →
    x < v → IsChosen n ps x c → IsLogPrefix (take c (announced_log ps x)) o.log
chosen_stands n ps at group k v offers sent majority o b x c lt chosen =
    by_offer (k.offers_all shared.0 x ok.0 v a.normal a.commit a.log ok.2 (sent shared.0 a shared.1 offered.1) lt)
    (b.all shared.0 a shared.1 offered.1)
  where
    shared : Shared n (λ j. has_offer (slice_index_or offers j None)) (has_acked ps x c)
    shared = tallies_meet n (λ j. has_offer (slice_index_or offers j None)) (has_acked ps x c)
        (omega (arith, majority, chosen.quorum, group.odd))

    ok : SentOk ps x c shared.0
    ok = has_acked-sent ps x c shared.0 shared.3

    offered : (a : Offer) × (slice_index_or offers shared.0 None ≡ Some a)
    offered = has_offer_some (slice_index_or offers shared.0 None) shared.2

    a : Offer
    a = offered.0

    given : OfferHolds n ps at b.node v o.normal o.commit o.log
    given = k.packets (packet_of v b.node o) (sent b.node o b.small b.is)

    older : x < o.normal → IsLogPrefix (take c (announced_log ps x)) o.log
    older l = prefix_trans _ (announced_start ps o.normal) _
        (survives n ps at group k o.normal x c l given.begun chosen)
        given.starts

    by_offer : (x < a.normal) ⊎ ((x ≡ a.normal) × (ok.0 ≤ length a.log)) → NoBetter a o →
        IsLogPrefix (take c (announced_log ps x)) o.log
    by_offer (inl p) (inl q) = older (omega arith)
    by_offer (inl p) (inr q) = older (omega arith)
    by_offer (inr p) (inl q) = older (omega arith)
    by_offer (inr p) (inr q) =
        let same : o.normal ≡ x = omega arith in
        let within : IsLogPrefix o.log (announced_log ps x) = rw same at given.within in
        prefixes_in_order (take c (announced_log ps x)) o.log (announced_log ps x)
        (prefix_take c (announced_log ps x)) within
        (omega (arith, length-take c (announced_log ps x), ok.1))

-- So the primary's committed entries are the first of the best log.
pub best_keeps : (n : ℕ) (ps : List Message) (at : Nodes) (i : ℕ) → IsGroup n → GroupInvariant n ps at → (v : ℕ) →
    (at i).saved.normal < v → (offers : List (Option Offer)) → OffersSent ps v n offers →
    faults n < tally n (λ j. has_offer (slice_index_or offers j None)) → (o : Offer) → BestOf offers n o →
    keeps_committed (at i).saved o.log ≡ true
best_keeps n ps at i group k v changing offers sent majority o b =
    keeps_from s o.log own.within_log (by_chosen own.backed.chosen)
  where
    s : SavedValue
    s = (at i).saved

    own : NodeInvariant n ps i s
    own = k.nodes i

    by_chosen : (s.commit ≡ 0) ⊎ ((x : ℕ) × (x ≤ s.normal) × IsChosen n ps x s.commit) →
        IsLogPrefix (take s.commit s.log) o.log
    by_chosen (inl z) = rw z tt
    by_chosen (inr ch) =
        let c : ℕ = s.commit in
        let x : ℕ = ch.0 in
        let first : IsLogPrefix (take c s.log) (announced_log ps x) =
        chosen_prefix n ps at group k s.normal c s.log own.begun own.within own.within_log x ch.1 ch.2 in
        let there : IsLogPrefix (take c s.log) (take c (announced_log ps x)) =
        prefixes_in_order (take c s.log) (take c (announced_log ps x)) (announced_log ps x) first
        (prefix_take c (announced_log ps x))
        (omega (arith, length-take c s.log, length-take c (announced_log ps x), chosen_within n ps at x c k ch.2)) in
        prefix_trans _ (take c (announced_log ps x)) _ there
        (chosen_stands n ps at group k v offers sent majority o b x c (omega (arith, ch.1, changing)) ch.2)
