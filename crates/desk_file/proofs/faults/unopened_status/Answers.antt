use Rattle.std.proofs.Common.{◌≡◌, rules, subst}
use Rattle.desk_types.specs.declared.refusal.Refusal.TheVariants as refusals
use Rattle.desk_output.proofs.Texts.{reported_alone}
use Rattle.desk_output.specs.Printing.{PrintsFirst}
use Rattle.desk_file.specs.Faults.{unopened_fault}
use Rattle.desk_file.proofs.faults.unopened_status.Goals as goal

pub returns-in-None-clause-printed : goal.returns-in-None-clause-printed
returns-in-None-clause-printed g c =
    let same : refusals.WantOfMemory ≡ unopened_fault c.args.error.now = search rules in
    subst (PrintsFirst (g.E.Write.contents c.args.errors.now) (g.E.Write.contents c.refusal_status.new.errors)) same
    (reported_alone _ _ _ c.refusal_status.ensures.printed)
