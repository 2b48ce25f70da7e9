use Rattle.std.proofs.Common.{◌≡◌, ◌≤◌, length, rules, arith}
use Rattle.desk_types.specs.declared.limits.TheConstants.{LAST_VIEW, LOG_ENTRIES}
use Rattle.desk_log.specs.SavedValue.{committed_entries}
use Rattle.desk_epoch_node.specs.Ends.{cut_of}
use Rattle.desk_epoch_node.specs.Replacements.{ends_epoch}
use Rattle.desk_epoch_node.proofs.Cuts.{cut_length_most}
use Rattle.desk_epoch_node.proofs.epoch_node.EpochNode.ask.Goals as goal

pub new-requires : goal.new-requires
new-requires c =
    let e = c.self.inside in
    let token : c.said_token.result ≤ LAST_VIEW = omega (arith, c.said_token.ensures.within) in
    let same : c.committed.result ≡ length (cut_of e.most (committed_entries e.node.saved)) = search rules in
    let within : c.committed.result ≤ LOG_ENTRIES =
    omega (
      arith,
      same,
      cut_length_most ends_epoch e.most (committed_entries e.node.saved),
      c.self.invariant.place.most_within,
    ) in
    (token, within)
