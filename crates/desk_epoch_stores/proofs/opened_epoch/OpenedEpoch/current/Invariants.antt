use Rattle.std.proofs.Common.{◌≡◌, ℕ}
use Rattle.desk_log.specs.SavedValue.{SavedValue}
use Rattle.desk_epoch_stores.proofs.Logs.{StandsForLogs}
use Rattle.desk_epoch_stores.proofs.opened_epoch.OpenedEpoch.current.Given as goal

abbrev pub invariant-loop-epoch : goal.invariant-loop-epoch
invariant-loop-epoch g l =
    (l.opened.epoch ≡ l.epoch)
    × (l.opened.most ≡ l.fn.most)
    × ((e : ℕ) → (s : SavedValue) → g.T.EpochStores.may_hold l.stores e s → g.T.EpochStores.may_hold l.fn.stores e s)
    × StandsForLogs (g.T.EpochStores.may_hold l.fn.stores) l.fn.most l.opened.epoch l.opened.past
    × g.T.EpochStores.may_hold l.fn.stores l.opened.epoch l.opened.saved
