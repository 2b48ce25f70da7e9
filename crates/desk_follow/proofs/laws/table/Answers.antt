use Rattle.desk_follow.proofs.Reported.{course_is}
use Rattle.desk_follow.proofs.laws.table.Goals as goal

pub returns : goal.returns
returns c = λ nodes outcome few. course_is nodes outcome few
