use Rattle.std.proofs.Common.{subst, sym}
use Rattle.desk_lines.proofs.Splits.{IsCut, split_at-cuts}
use Rattle.desk_send.proofs.ReplyLines.{ends_first, first_within, ends_nowhere}
use Rattle.desk_send.proofs.reply.through_newline.Goals as goal

pub returns-in-Some-clause-within : goal.returns-in-Some-clause-within
returns-in-Some-clause-within c =
    first_within _ _ _ (subst (IsCut c.args.bytes.now) (sym c.in-Some.ensures) (split_at-cuts c.args.bytes.now))

pub returns-in-Some-clause-ends : goal.returns-in-Some-clause-ends
returns-in-Some-clause-ends c =
    ends_first _ _ _ (subst (IsCut c.args.bytes.now) (sym c.in-Some.ensures) (split_at-cuts c.args.bytes.now))

pub returns-in-None-clause-ends : goal.returns-in-None-clause-ends
returns-in-None-clause-ends c =
    ends_nowhere _ (subst (IsCut c.args.bytes.now) (sym c.in-None.ensures) (split_at-cuts c.args.bytes.now))
