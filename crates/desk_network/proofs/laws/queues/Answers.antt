use Rattle.desk_network.specs.Putting.{queue_ends}
use Rattle.desk_network.proofs.PutInTurn.{all_put}
use Rattle.desk_network.proofs.laws.queues.Goals as goal

pub returns-clause-put : goal.returns-clause-put
returns-clause-put g c = λ old new packets took. took

pub returns-clause-all : goal.returns-clause-all
returns-clause-all g c = all_put _ queue_ends (λ old new packets took. took)
