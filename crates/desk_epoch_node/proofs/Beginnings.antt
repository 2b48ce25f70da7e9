-- How a node begins the next epoch after the log of its own.
use Rattle.std.proofs.Common.{◌≡◌, ◌<◌, ◌≤◌, ℕ, ◌+◌, true, List, [], ◌++◌, length, take, sym, ap, subst}
use Rattle.std.proofs.Common.{◌∙◌, arith, leb}
use Rattle.std.proofs.lemmas.Bool.{leb-true}
use Rattle.std.proofs.lemmas.List.{length-take-le, take-take}
use Rattle.desk_types.specs.declared.command.Entry.{Entry}
use Rattle.desk_types.specs.declared.limits.TheConstants.{LAST_PLACE}
use Rattle.desk_types.specs.declared.packet.Message.{Message}
use Rattle.desk_types.specs.Group.{IsGroup}
use Rattle.desk_log.specs.SavedValue.{committed_entries}
use Rattle.desk_node.specs.NodeValue.{NodeValue}
use Rattle.desk_epoch_node.specs.declared.cut.Cut.{Cut}
use Rattle.desk_epoch_node.specs.declared.standing.Standing.{Standing}
use Rattle.desk_epoch_node.specs.Does.{BeginsAfter, next_node, next_packets, node_in_view}
use Rattle.desk_epoch_node.specs.Ends.{IsCut}
use Rattle.desk_epoch_node.specs.EpochValue.{EpochValue, IsKept, acts, has_next}
use Rattle.desk_epoch_node.specs.PastRows.{PastValue, StandFor}
use Rattle.desk_epoch_node.specs.Replacements.{standing_after}

-- What is committed up to the epoch's end is the log's beginning.
pub stand_with_cut : (past log : List Entry) (most commit : ℕ) (longer : PastValue) → most ≤ commit →
    StandFor (past ++ take most log) longer → StandFor (past ++ take most (take commit log)) longer
stand_with_cut past log most commit longer h s =
    subst (λ (es : List Entry). StandFor (past ++ es) longer) (sym (take-take most commit log h)) s

pub cut_length : (most commit : ℕ) (log : List Entry) → most ≤ commit → commit ≤ length log →
    length (take most log) ≡ most
cut_length most commit log h within = length-take-le most log (omega (arith, h, within))

pub begins_next : (past log : List Entry) (old new : EpochValue) (longer : PastValue) (packets : List (ℕ × Message)) →
    StandFor (past ++ log) longer →
    new ≡ record {
      epoch = old.epoch + 1;
      past = longer;
      most = old.most;
      token = old.token;
      node = next_node (acts new) old.node;
    } →
    packets ≡ next_packets (acts new) old.node → BeginsAfter past log old new packets
begins_next past log old new longer packets s is sent = record {
  epoch_is = ap (λ (e : EpochValue). e.epoch) is;
  past_is = subst (λ (p : PastValue). StandFor (past ++ log) p) (sym (ap (λ (e : EpochValue). e.past) is)) s;
  most_is = ap (λ (e : EpochValue). e.most) is;
  token_is = ap (λ (e : EpochValue). e.token) is;
  node_is = ap (λ (e : EpochValue). e.node) is;
  packets_are = sent;
}

places_left : (past most longer last : ℕ) → leb (past + most + most) last ≡ true → longer ≤ past + most →
    longer + most ≤ last
places_left past most longer last next within = omega (arith, leb-true (past + most + most) last next, within)

-- What is kept beside the node of the next epoch, which has committed nothing there.
pub kept_next : (domain : List ℕ) (old : EpochValue) (cut first_cut : Cut) (kept standing : Standing)
    (longer : PastValue) (node : NodeValue) (id n view : ℕ) → IsKept old cut kept →
    old.past.length < longer.length → longer.length ≤ old.past.length + old.most → has_next old ≡ true →
    ((most : ℕ) → 1 ≤ most → IsCut most [] first_cut) → node ≡ node_in_view domain id n view → n ≡ old.node.n →
    standing ≡ standing_after longer.replacements id old.token →
    IsKept (record {
      epoch = old.epoch + 1;
      past = longer;
      most = old.most;
      token = old.token;
      node = node;
    }) first_cut standing
kept_next domain old cut first_cut kept standing longer node id n view k more within next none is n_is stands =
    record {
      place = record {
        epoch_within = omega (arith, k.place.epoch_within, more);
        places_within = places_left old.past.length old.most longer.length LAST_PLACE next within;
        least = k.place.least;
        most_within = k.place.most_within;
        group = subst (λ (m : ℕ). IsGroup m) (sym (ap (λ (x : NodeValue). x.n) is ∙ n_is)) k.place.group;
      };
      cut_is = subst (λ (es : List Entry). IsCut old.most es first_cut)
          (sym (ap (λ (x : NodeValue). committed_entries x.saved) is)) (none old.most k.place.least);
      standing_is = stands
          ∙ ap (λ (i : ℕ). standing_after longer.replacements i old.token) (sym (ap (λ (x : NodeValue). x.id) is));
    }
