use Rattle.std.proofs.Common.{◌≡◌, ◌+◌}
use Rattle.desk_node.specs.Answers.{answers_after}
use Rattle.desk_board.specs.PrefixBoard.{IsPrefixBoard}
use Rattle.desk_node.proofs.answer_board.next_answers.Given as goal

abbrev pub invariant-loop-done : goal.invariant-loop-done
invariant-loop-done l = record {
  prefix : IsPrefixBoard l.fn.board.domain l.board l.log;
  count : l.board.count ≡ l.fn.board.count + l.done;
  so_far : l.answers.items ≡ answers_after l.fn.board.domain l.log l.fn.board.count l.done;
}
