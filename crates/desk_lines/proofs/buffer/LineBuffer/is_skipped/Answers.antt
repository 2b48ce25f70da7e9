use Rattle.desk_lines.proofs.LinesSoFar.{skips_long, skips_short}
use Rattle.desk_lines.proofs.buffer.LineBuffer.is_skipped.Goals as goal

pub returns-then-not-self : goal.returns-then-not-self
returns-then-not-self c = λ line h. rw (c.is_blank.ensures, c.as_slice.ensures.value)
    (skips_short _ _ line c.if-not-self.true h)

pub returns-else-not-self : goal.returns-else-not-self
returns-else-not-self c = λ line h. rw c.if-not-self.false (skips_long _ _ line c.if-not-self.false h)
