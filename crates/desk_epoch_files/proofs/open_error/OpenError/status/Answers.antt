use Rattle.std.proofs.Common.{◌≡◌, ◌∙◌, ◌++◌, ap, codes, rules, subst}
use Rattle.desk_types.specs.declared.refusal.Refusal.TheVariants as refusals
use Rattle.desk_output.proofs.Texts.{prefix_longer, reported_alone}
use Rattle.desk_output.specs.Printing.{PrintsFirst, PrintsLine, printed_line}
use Rattle.desk_epoch_files.specs.Causes.{cause_refusal}
use Rattle.desk_epoch_files.proofs.open_error.OpenError.status.Goals as goal

pub returns-in_default-clause-printed : goal.returns-in_default-clause-printed
returns-in_default-clause-printed g c =
    subst (PrintsFirst (g.E.Write.contents c.args.errors.now) (g.E.Write.contents c.refusal_status.new.errors))
    c.refusal.ensures.value (reported_alone _ _ _ c.refusal_status.ensures.printed)

pub returns-in-NoMemory-clause-printed : goal.returns-in-NoMemory-clause-printed
returns-in-NoMemory-clause-printed g c =
    let same : refusals.WantOfMemory ≡ cause_refusal c.args.self.now.cause = search rules in
    subst (PrintsFirst (g.E.Write.contents c.args.errors.now)
    (g.E.Write.contents c.refusal_status-in-NoMemory.new.errors)) same
    (reported_alone _ _ _ c.refusal_status-in-NoMemory.ensures.printed)

pub returns-in_default-clause-missing : goal.returns-in_default-clause-missing
returns-in_default-clause-missing g c missing =
    let old = g.E.Write.contents c.args.errors.now in
    let new = g.E.Write.contents c.refusal_status.new.errors in
    prefix_longer old new (printed_line refusals.WrongFile) _
    (subst (PrintsLine old new) (c.refusal.ensures.value ∙ ap cause_refusal missing) c.refusal_status.ensures.printed)

pub returns-in-Missing-clause-printed : goal.returns-in-Missing-clause-printed
returns-in-Missing-clause-printed g c =
    let same : refusals.WrongFile ≡ cause_refusal c.args.self.now.cause = search rules in
    subst (PrintsFirst (g.E.Write.contents c.args.errors.now) (g.E.Write.contents c.missing_status.new.errors)) same
    (codes "desk: " ++ (c.as_str-in-Missing.result.now ++ codes " is missing\n"), c.missing_status.ensures.printed)
