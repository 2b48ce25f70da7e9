use Rattle.desk_epochs.proofs.DeskNeverStuck as desk
use Rattle.desk_epochs.proofs.NeverStuck as stuck
use Rattle.desk_epochs.proofs.laws.never_stuck.Goals as goal

pub returns-clause-goes_on : goal.returns-clause-goes_on
returns-clause-goes_on c = stuck.epoch_never_stuck

pub returns-clause-over_epochs : goal.returns-clause-over_epochs
returns-clause-over_epochs c = desk.epochs_never_stuck
