-- A board that follows a log.
use Rattle.std.specs.Prelude.{◌≡◌, ◌≤◌, ℕ, List, length, take}
use Rattle.desk_types.specs.declared.command.Entry.{Entry}
use Rattle.desk_board.specs.BoardValue.{BoardValue}
use Rattle.desk_board.specs.Log.{board_of}

-- The board is that of the log's first entries, as many as it has executed.
pub record IsPrefixBoard (domain : List ℕ) (board : BoardValue) (log : List Entry) : Type 0 where
  pub domain_is : board.domain ≡ domain
  pub within : board.count ≤ length log
  pub board_is : board ≡ board_of domain (take board.count log)
