use Rattle.std.proofs.Common.{subst, OnOk}
use Rattle.std.specs.Io.KnownBytes.{Appends}
use Rattle.desk_output.specs.Prefixes.{AppendsPrefix}
use Rattle.desk_output.proofs.Texts.{announced_is}
use Rattle.desk_output.proofs.printing.write_fault.Goals as goal

pub returns-clause-ok : goal.returns-clause-ok
returns-clause-ok g c =
    subst (λ t. OnOk c.write_parts.result (Appends (g.E.Write.contents c.args.errors.now)
    (g.E.Write.contents c.write_parts.new.writer) t)) (announced_is c.args.refusal.now c.number.result c.name.result.now
    c.number.ensures c.name.ensures) c.write_parts.ensures.ok

pub returns-clause-printed : goal.returns-clause-printed
returns-clause-printed g c =
    subst (AppendsPrefix _ _) (announced_is c.args.refusal.now c.number.result c.name.result.now c.number.ensures
    c.name.ensures) c.write_parts.ensures.printed
