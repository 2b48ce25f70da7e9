use Rattle.std.proofs.Common.{sym, ap, subst, ◌∙◌}
use Rattle.desk_lines.proofs.Splits.{lines_by, lines_of-split, lines_of-alone, IsShorter, split_at-shorter}
use Rattle.desk_lines.proofs.lines.first_line.Goals as goal

pub returns-in-Some-clause-lines : goal.returns-in-Some-clause-lines
returns-in-Some-clause-lines c =
    lines_of-split c.args.text.now c.requires ∙ ap (lines_by c.args.text.now) (sym c.in-Some.ensures)

pub returns-in-Some-clause-shorter : goal.returns-in-Some-clause-shorter
returns-in-Some-clause-shorter c =
    subst (IsShorter c.args.text.now) (sym c.in-Some.ensures) (split_at-shorter 10 c.args.text.now)

pub returns-in-None-clause-lines : goal.returns-in-None-clause-lines
returns-in-None-clause-lines c =
    lines_of-alone c.args.text.now _ _ c.requires c.in-None.ensures c.split_at.ensures.front c.split_at.ensures.back
