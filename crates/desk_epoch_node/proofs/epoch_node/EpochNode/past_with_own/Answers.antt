use Rattle.std.proofs.Common.{◌≡◌, ◌≤◌, true, rules, arith}
use Rattle.desk_types.specs.declared.limits.TheConstants.{LAST_PLACE}
use Rattle.desk_log.specs.SavedValue.{committed_entries}
use Rattle.desk_epoch_node.specs.Ends.{reaches_end}
use Rattle.desk_epoch_node.proofs.Cuts.{cut_commits, cut_most, cut_places, cut_some}
use Rattle.desk_epoch_node.proofs.epoch_node.EpochNode.past_with_own.Goals as goal

pub past_with_cut-requires-clause-places : goal.past_with_cut-requires-clause-places
past_with_cut-requires-clause-places c =
    let e = c.self.inside in
    cut_places e.past.length e.most LAST_PLACE (committed_entries e.node.saved) e.cut c.self.invariant.cut_is
    (search rules)

pub past_with_cut-requires-clause-within : goal.past_with_cut-requires-clause-within
past_with_cut-requires-clause-within c =
    let e = c.self.inside in
    let within : e.cut.count ≤ e.node.saved.commit =
    cut_commits e.most e.node.saved e.cut c.self.invariant.cut_is in
    search (rules, arith, within)

pub returns-clause-longer : goal.returns-clause-longer
returns-clause-longer c =
    let e = c.self.inside in
    let ended : reaches_end e.most (committed_entries e.node.saved) ≡ true = search rules in
    let some : 1 ≤ e.cut.count =
    cut_some e.most (committed_entries e.node.saved) e.cut c.self.invariant.cut_is c.self.invariant.place.least ended in
    search (rules, arith, some)

pub returns-clause-length : goal.returns-clause-length
returns-clause-length c =
    let e = c.self.inside in
    let most : e.cut.count ≤ e.most =
    cut_most e.most (committed_entries e.node.saved) e.cut c.self.invariant.cut_is in
    search (rules, arith, most)
