use Rattle.desk_follow.proofs.Placed.{board_place}
use Rattle.desk_follow.proofs.laws.board_place.Goals as goal

pub returns : goal.returns
returns c = λ client at incidents units fits. board_place client at incidents units fits
