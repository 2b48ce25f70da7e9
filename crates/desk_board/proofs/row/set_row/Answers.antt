use Rattle.std.proofs.Common.{◌∙◌, map, ap}
use Rattle.desk_board.specs.Tables.{row_in}
use Rattle.desk_board.proofs.RowEntries.{insert-with_row}
use Rattle.desk_board.proofs.row.set_row.Goals as goal

pub returns : goal.returns
returns c =
    let row = c.args.row in
    ap (map row_in) c.insert_within.ensures
    ∙ insert-with_row row.client (record { number = row.number; place = row.place; reply = row.reply })
    c.args.rows.now.entries
