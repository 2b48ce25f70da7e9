use Rattle.std.proofs.Common.{◌≡◌, ◌≤◌}
use Rattle.desk_board.specs.PrefixBoard.{IsPrefixBoard}
use Rattle.desk_board.proofs.board.Board.advance.Given as goal

abbrev pub invariant-loop-executed : goal.invariant-loop-executed
invariant-loop-executed l = record {
  count : l.self.count ≡ l.executed;
  least : l.fn.self.count ≤ l.executed;
  follows : IsPrefixBoard l.fn.self.domain l.self l.log;
}
