use Rattle.std.proofs.Common.{◌≡◌, List, IfOk, subst}
use Rattle.json.specs.Token.{Token}
use Rattle.desk_eido.proofs.Written.{row_is}
use Rattle.desk_eido.proofs.reply_writer.ReplyWriter.row.Goals as goal

pub returns : goal.returns
returns g c =
    subst (λ (ts : List Token). IfOk c.end_row.result (λ w. w ≡ ts))
    (row_is (g.T.Row.members c.args.item.now) c.args.self)
    (rw (c.in_ok-with_members.ensures, c.in_ok-begin_row.ensures) at c.end_row.ensures)
