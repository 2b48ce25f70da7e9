use Rattle.std.proofs.Common.{◌≡◌}
use Rattle.desk_epoch_node.specs.PastRows.{StandFor}
use Rattle.desk_epoch_stores.specs.Starting.{MayHoldLogs, MayHoldNoMore}
use Rattle.desk_epoch_opening.proofs.publishing.publish_epochs.Given as goal

abbrev pub invariant-loop-epoch : goal.invariant-loop-epoch
invariant-loop-epoch g l =
    (l.opened.epoch ≡ l.epoch)
    × (l.opened.most ≡ l.fn.most)
    × MayHoldNoMore g.T.EpochStores.may_hold l.fn.stores l.stores
    × StandFor l.writer.noted l.opened.past
    × MayHoldLogs (g.T.EpochStores.may_hold l.fn.stores) l.fn.most l.opened.epoch l.writer.noted
    × g.T.EpochStores.may_hold l.fn.stores l.opened.epoch l.opened.saved
