use Rattle.desk_node.proofs.Said.{rows_stand, rows_say, same_heard, heard_same}
use Rattle.desk_node.proofs.laws.Goals as goal

pub returns-clause-rows : goal.returns-clause-rows
returns-clause-rows c = rows_stand

pub returns-clause-say : goal.returns-clause-say
returns-clause-say c = rows_say

pub returns-clause-same : goal.returns-clause-same
returns-clause-same c = λ n v ps qs. (same_heard n v ps qs, heard_same n v ps qs)
