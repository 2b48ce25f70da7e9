-- What was chosen in a view stands in the log of each later view, so what is backed does.
use Rattle.std.proofs.Common.{◌≡◌, ℕ, zero, suc, ◌<◌, ◌≤◌, ◌⊎◌, true, List, length, take, arith, inl, inr, ⊎_elim}
use Rattle.std.proofs.lemmas.Bool.{cases_lt}
use Rattle.std.proofs.lemmas.List.{length-take}
use Rattle.desk_types.specs.declared.command.Entry.{Entry}
use Rattle.desk_types.specs.declared.packet.Message.{Message}
use Rattle.desk_types.specs.declared.packet.Message.TheVariants.{PrepareOk}
use Rattle.desk_log.specs.Entries.{IsLogPrefix}
use Rattle.desk_world.specs.Views.{IsChosen}
use Rattle.desk_world.proofs.ViewLog.{has_begun, announced_start, announced_log}
use Rattle.desk_log.proofs.Prefixes.{prefix_trans, prefixes_in_order, prefix_take}
use Rattle.desk_log.proofs.Tallies.{Shared, tallies_meet, tally_some}
use Rattle.desk_world.proofs.Packets.{SentOk, has_acked-sent, IsBacked}
use Rattle.desk_world.proofs.Views.{view_starts}
use Rattle.desk_world.proofs.NodeInvariants.{Nodes, OkHolds}
use Rattle.desk_world.proofs.Invariant.{OffersNoBetter, StartsWithBest, GroupInvariant}
use Rattle.desk_node.specs.Said.{has_acked}
use Rattle.desk_types.specs.Group.{IsGroup}

-- A start log has the places that it has of its own normal view.
from_same : (log first : List Entry) (m : ℕ) → m ≤ length first → IsLogPrefix first log → IsLogPrefix (take m log) first
from_same log first m l f = prefixes_in_order (take m log) first log (prefix_take m log) f
    (omega (arith, length-take m log))

-- A node that acknowledged the place and offered for the later view brings it into the view's start log.
survive_step : (n : ℕ) (ps : List Message) (at : Nodes) → GroupInvariant n ps at → (w x m : ℕ) → x < w →
    (md : StartsWithBest n ps w) →
    (x < md.from_view → IsLogPrefix (take m (announced_log ps x)) (announced_start ps md.from_view)) →
    (j : ℕ) → j < n → md.voters j ≡ true → has_acked ps x m j ≡ true →
    IsLogPrefix (take m (announced_log ps x)) (announced_start ps w)
survive_step n ps at k w x m lt md below j small votes acked =
    by_offer (k.offers_all j x ok.0 w offer.normal offer.commit offer.log ok.2 offer.sent lt) offer.no_better
  where
    ok : SentOk ps x m j
    ok = has_acked-sent ps x m j acked

    offer : OffersNoBetter ps w j md.from_view (length (announced_start ps w))
    offer = md.best j small votes

    older : x < md.from_view → IsLogPrefix (take m (announced_log ps x)) (announced_start ps w)
    older l = prefix_trans _ _ _ (below l) md.keeps

    by_offer : (x < offer.normal) ⊎ ((x ≡ offer.normal) × (ok.0 ≤ length offer.log)) →
        (offer.normal < md.from_view)
        ⊎ ((offer.normal ≡ md.from_view) × (length offer.log ≤ length (announced_start ps w))) →
        IsLogPrefix (take m (announced_log ps x)) (announced_start ps w)
    by_offer (inl a) (inl b) = older (omega arith)
    by_offer (inl a) (inr b) = older (omega arith)
    by_offer (inr a) (inl b) = older (omega arith)
    by_offer (inr a) (inr b) =
        let same : md.from_view ≡ x = omega arith in
        from_same (announced_log ps x) (announced_start ps w) m (omega (arith, ok.1)) (rw same at md.within)

survive_below : (n : ℕ) (ps : List Message) (at : Nodes) → IsGroup n → GroupInvariant n ps at → (b w x m : ℕ) → w < b →
    x < w →
    has_begun ps w ≡ true → IsChosen n ps x m → IsLogPrefix (take m (announced_log ps x)) (announced_start ps w)
survive_below n ps at group k zero w x m l lt started chosen = absurd (omega arith)
survive_below n ps at group k (suc b) w x m l lt started chosen =
    let md : StartsWithBest n ps w = (k.views w started).made (omega arith) in
    let shared : Shared n md.voters (has_acked ps x m) =
    tallies_meet n md.voters (has_acked ps x m) (omega (arith, md.quorum, chosen.quorum, group.odd)) in
    survive_step n ps at k w x m lt md
    (λ older. survive_below n ps at group k b md.from_view x m (omega (arith, md.older)) older md.from_begun chosen)
    shared.0 shared.1 shared.2 shared.3

-- What a majority acknowledged in a view stands in the start log of each later one.
pub survives : (n : ℕ) (ps : List Message) (at : Nodes) → IsGroup n → GroupInvariant n ps at → (w x m : ℕ) → x < w →
    has_begun ps w ≡ true → IsChosen n ps x m →
    IsLogPrefix (take m (announced_log ps x)) (announced_start ps w)
survives n ps at group k w x m lt started chosen =
    survive_below n ps at group k (suc w) w x m (omega arith) lt started chosen

-- A majority has a node, whose PrepareOk says that the view has the place.
pub chosen_within : (n : ℕ) (ps : List Message) (at : Nodes) (x m : ℕ) → GroupInvariant n ps at → IsChosen n ps x m →
    m ≤ length (announced_log ps x)
chosen_within n ps at x m k c =
    let j = tally_some n (has_acked ps x m) (omega (arith, c.quorum)) in
    let o : SentOk ps x m j.0 = has_acked-sent ps x m j.0 j.1 in
    let h : OkHolds ps at j.0 x o.0 = k.packets (PrepareOk j.0 x o.0) o.2 in
    omega (arith, h.within, o.1)

-- What was chosen in a view stands in the log of that view and of each later one.
chosen_later : (n : ℕ) (ps : List Message) (at : Nodes) → IsGroup n → GroupInvariant n ps at → (x c w : ℕ) →
    IsChosen n ps x c → x ≤ w → has_begun ps w ≡ true → IsLogPrefix (take c (announced_log ps x)) (announced_log ps w)
chosen_later n ps at group k x c w chosen le b = ⊎_elim
    (λ lt. prefix_trans _ (announced_start ps w) _ (survives n ps at group k w x c lt b chosen) (view_starts ps w))
    (λ ge. let e : x ≡ w = omega arith in rw e (prefix_take c (announced_log ps w)))
    (cases_lt x w)

-- So a log of the view, or of a later one, begins with it.
chosen_first : (n : ℕ) (ps : List Message) (at : Nodes) → IsGroup n → GroupInvariant n ps at →
    (u c : ℕ) (l : List Entry) → has_begun ps u ≡ true → IsLogPrefix l (announced_log ps u) → c ≤ length l →
    (x : ℕ) → x ≤ u → IsChosen n ps x c → IsLogPrefix (take c l) (take c (announced_log ps x))
chosen_first n ps at group k u c l bu fl cl x xu chosen =
    prefixes_in_order (take c l) (take c (announced_log ps x)) (announced_log ps u)
    (prefix_trans _ l _ (prefix_take c l) fl)
    (chosen_later n ps at group k x c u chosen xu bu)
    (omega (arith, length-take c l, length-take c (announced_log ps x), chosen_within n ps at x c k chosen))

pub chosen_prefix : (n : ℕ) (ps : List Message) (at : Nodes) → IsGroup n → GroupInvariant n ps at →
    (u c : ℕ) (l : List Entry) → has_begun ps u ≡ true → IsLogPrefix l (announced_log ps u) → c ≤ length l →
    (x : ℕ) → x ≤ u → IsChosen n ps x c → IsLogPrefix (take c l) (announced_log ps x)
chosen_prefix n ps at group k u c l bu fl cl x xu chosen =
    prefix_trans _ (take c (announced_log ps x)) _ (chosen_first n ps at group k u c l bu fl cl x xu chosen)
    (prefix_take c (announced_log ps x))

-- A backed prefix of a log of a view stands in the log of that view and of each later one.
pub backed_prefix : (n : ℕ) (ps : List Message) (at : Nodes) → IsGroup n → GroupInvariant n ps at →
    (u c : ℕ) (l : List Entry) → has_begun ps u ≡ true → IsLogPrefix l (announced_log ps u) → c ≤ length l →
    IsBacked n ps u c → (w : ℕ) → u ≤ w → has_begun ps w ≡ true → IsLogPrefix (take c l) (announced_log ps w)
backed_prefix n ps at group k u c l bu fl cl p w uw bw = by_chosen p.chosen
  where
    by_chosen : (c ≡ 0) ⊎ ((x : ℕ) × (x ≤ u) × IsChosen n ps x c) → IsLogPrefix (take c l) (announced_log ps w)
    by_chosen (inl z) = rw z tt
    by_chosen (inr ch) = prefix_trans _ (take c (announced_log ps ch.0)) _
        (chosen_first n ps at group k u c l bu fl cl ch.0 ch.1 ch.2)
        (chosen_later n ps at group k ch.0 c w ch.2 (omega (arith, ch.1)) bw)
