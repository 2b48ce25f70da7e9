use Rattle.std.proofs.Common.{map, ap}
use Rattle.desk_board.specs.BoardValue.{with_rows}
use Rattle.desk_board.specs.Tables.{row_in, board_in}
use Rattle.desk_board.proofs.Refusals.{refused_entry, refused_entry_err}
use Rattle.desk_board.proofs.tables.Tables.apply.Goals as goal

pub returns-in_ok-unless_of_memory-in-Err-clause-ok : goal.returns-in_ok-unless_of_memory-in-Err-clause-ok
returns-in_ok-unless_of_memory-in-Err-clause-ok c =
    let board = board_in c.args.self.now in
    let refused = c.in_ok-unless_of_memory-in-Err.ensures.ok in
    refused_entry c.refuse.result (board_in c.refuse.new.self) board _ (board_in c.perform.new.self) c.args.place
    c.args.entry.now c.in-Err.refusal c.in_ok-unless_of_memory-in-Err.field-0
    (ap (λ entries. with_rows (map row_in entries) c.args.self.now.count board) c.in_ok-reserve.ensures.entries)
    refused.0 refused.1 c.in-Err.ensures.settles c.refuse.ensures.ok

pub returns-in_ok-unless_of_memory-in-Err-clause-err : goal.returns-in_ok-unless_of_memory-in-Err-clause-err
returns-in_ok-unless_of_memory-in-Err-clause-err c =
    let board = board_in c.args.self.now in
    let refused = c.in_ok-unless_of_memory-in-Err.ensures.ok in
    refused_entry_err c.refuse.result (board_in c.refuse.new.self) board _ (board_in c.perform.new.self) c.args.place
    c.args.entry.now c.in-Err.refusal c.in_ok-unless_of_memory-in-Err.field-0
    (ap (λ entries. with_rows (map row_in entries) c.args.self.now.count board) c.in_ok-reserve.ensures.entries)
    refused.0 refused.1 c.in-Err.ensures.settles c.refuse.ensures.err
