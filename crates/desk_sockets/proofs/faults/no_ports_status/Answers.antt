use Rattle.std.proofs.Common.{◌≡◌, rules, subst}
use Rattle.desk_types.specs.declared.refusal.Refusal.TheVariants as refusals
use Rattle.desk_output.specs.Printing.{PrintsFirst}
use Rattle.desk_sockets.specs.Faults.{refused_fault}
use Rattle.desk_sockets.proofs.faults.no_ports_status.Goals.{in-InUse, in-NotBound}
use Rattle.desk_sockets.proofs.faults.no_ports_status.Goals as goal

pub returns-clause-printed : goal.returns-clause-printed
returns-clause-printed g c =
    let same : refusals.ReadFault ≡ refused_fault c.args.refused.now = elim c.match-refused.branch [
      | in-InUse w ↦ search rules
      | in-NotBound w ↦ search rules
    ] in
    subst (PrintsFirst (g.E.Write.contents c.args.errors.now) (g.E.Write.contents c.refusal_status_with.new.errors))
    same (_, c.refusal_status_with.ensures.printed)
