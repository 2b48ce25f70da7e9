use Rattle.desk_epochs.proofs.OneLog as one
use Rattle.desk_epochs.proofs.laws.one_log.Goals as goal

pub returns : goal.returns
returns c = record { one = one.epochs_are_one_log }
