use Rattle.std.proofs.Common.{rules, arith}
use Rattle.desk_epoch_node.proofs.Cuts.{cut_within_commit, cut_within_log}
use Rattle.desk_epoch_node.proofs.epoch_node.EpochNode.is_rest.Goals as goal

pub is_whole-requires-clause-base : goal.is_whole-requires-clause-base
is_whole-requires-clause-base c =
    let e = c.args.self.now in search (rules, arith, cut_within_log e.most e.node.saved)

pub keeps_committed-requires : goal.keeps_committed-requires
keeps_committed-requires c =
    let e = c.args.self.now in search (rules, arith, cut_within_commit e.most e.node.saved)
