use Rattle.desk_types.proofs.Cut.{split_at-SplitsAt}
use Rattle.desk_types.proofs.laws.splitting.Goals as goal

pub returns : goal.returns
returns c = record { parts = split_at-SplitsAt }
