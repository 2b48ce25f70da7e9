use Rattle.std.proofs.Common.{subst, OnOk}
use Rattle.std.specs.Io.KnownBytes.{Appends}
use Rattle.desk_output.specs.Prefixes.{AppendsPrefix}
use Rattle.desk_status.proofs.Lines.{down_is, up_is}
use Rattle.desk_status.proofs.printing.write_node.Goals as goal

pub returns-in-Down-clause-ok : goal.returns-in-Down-clause-ok
returns-in-Down-clause-ok g c =
    subst (λ t. OnOk c.write_parts.result (Appends (g.W.Write.contents c.args.writer.now)
    (g.W.Write.contents c.write_parts.new.writer) t)) (down_is c.args.greatest c.args.node _ c.in-Down.is)
    c.write_parts.ensures.ok

pub returns-in-Down-clause-printed : goal.returns-in-Down-clause-printed
returns-in-Down-clause-printed g c =
    subst (AppendsPrefix _ _) (down_is c.args.greatest c.args.node _ c.in-Down.is) c.write_parts.ensures.printed

pub returns-in-Up-clause-ok : goal.returns-in-Up-clause-ok
returns-in-Up-clause-ok g c =
    subst (λ t. OnOk c.write_parts-in-Up.result (Appends (g.W.Write.contents c.args.writer.now)
    (g.W.Write.contents c.write_parts-in-Up.new.writer) t))
    (up_is c.args.greatest c.args.node _ _ _ _ c.in-Up.is c.saturating_sub.ensures) c.write_parts-in-Up.ensures.ok

pub returns-in-Up-clause-printed : goal.returns-in-Up-clause-printed
returns-in-Up-clause-printed g c =
    subst (AppendsPrefix _ _) (up_is c.args.greatest c.args.node _ _ _ _ c.in-Up.is c.saturating_sub.ensures)
    c.write_parts-in-Up.ensures.printed
