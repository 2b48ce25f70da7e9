use Rattle.std.proofs.Common.{◌≡◌, true, rules}
use Rattle.std.proofs.lemmas.Bool.{and_from}
use Rattle.desk_log.specs.SavedValue.{committed_entries}
use Rattle.desk_epoch_node.specs.Ends.{reaches_end}
use Rattle.desk_epoch_node.specs.EpochValue.{committed_cut, has_next}
use Rattle.desk_epoch_node.proofs.Beginnings.{begins_next}
use Rattle.desk_epoch_node.proofs.epoch_node.EpochNode.begin_next.Goals as goal

pub returns-clause-begun : goal.returns-clause-begun
returns-clause-begun c =
    let old = c.args.self.now in
    let ended : reaches_end old.most (committed_entries old.node.saved) ≡ true = search rules in
    let next : has_next old ≡ true = search rules in (
      and_from _ _ ended next,
      c.in_ok-ended.ensures.node,
      λ past s. begins_next past (committed_cut old) old c.begin.new.self c.in_ok-past.past
          c.in_ok-ended.ended.packets.items (c.in_ok-past.ensures.stand past s) c.in_ok-ended.ensures.new
          c.in_ok-ended.ensures.packets,
    )
