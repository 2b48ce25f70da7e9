use Rattle.std.proofs.Common.{◌∙◌, ℕ, Option, ap}
use Rattle.std.specs.Option.{option_map}
use Rattle.desk_types.specs.declared.reply.Reply.{Reply}
use Rattle.desk_board.specs.declared.row.LatestRow.{LatestRow}
use Rattle.desk_board.specs.Tables.{last_in}
use Rattle.desk_board.proofs.RowEntries.{lookup-find, copied_map}
use Rattle.desk_board.proofs.row.row_of.Goals as goal

pub returns : goal.returns
returns c =
    copied_map last_in c.look_up.result
    ∙ ap (λ (o : Option LatestRow). option_map {U = ℕ × ℕ × Reply} last_in o) c.look_up.ensures
    ∙ lookup-find c.args.client c.args.rows.now.entries
