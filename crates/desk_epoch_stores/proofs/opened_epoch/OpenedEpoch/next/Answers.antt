use Rattle.std.proofs.Common.{◌≡◌, ◌+◌, ◌≤◌, length, ap, true, arith, leb, leb-true}
use Rattle.std.proofs.lemmas.Bool.{and_parts}
use Rattle.desk_types.specs.declared.limits.TheConstants.{LAST_PLACE}
use Rattle.desk_log.specs.SavedValue.{committed_entries}
use Rattle.desk_epoch_node.specs.Ends.{reaches_end}
use Rattle.desk_epoch_node.specs.Replacements.{ends_epoch}
use Rattle.desk_epoch_node.proofs.Cuts.{cut_least, cut_length_most}
use Rattle.desk_epoch_stores.proofs.opened_epoch.OpenedEpoch.next.Goals as goal

pub followed_by-followed-requires : goal.followed_by-followed-requires
followed_by-followed-requires g c =
    let self = c.args.self in
    omega (
      arith,
      self.places.places_within,
      ap length c.committed.ensures,
      cut_length_most ends_epoch self.most (committed_entries self.saved),
    )

pub open-requires : goal.open-requires
open-requires g c =
    let self = c.args.self in
    let log = committed_entries self.saved in
    let over = and_parts (reaches_end self.most log) (leb (self.past.length + self.most + self.most) LAST_PLACE)
    c.requires.over in
    let most = cut_length_most ends_epoch self.most log in
    let least = cut_least ends_epoch self.most log self.places.least over.0 in
    let within = leb-true (self.past.length + self.most + self.most) LAST_PLACE over.1 in
    let count = ap length c.committed.ensures in
    record {
      places = record {
        epoch_within = omega (arith, self.places.epoch_within, least, count, c.in-Ok.ensures.length);
        places_within = omega (arith, within, most, count, c.in-Ok.ensures.length);
        least = self.places.least;
        most_within = self.places.most_within;
      };
    }
