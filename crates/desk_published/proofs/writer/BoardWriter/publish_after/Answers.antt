use Rattle.std.proofs.Common.{[], append-nil}
use Rattle.desk_published.specs.Writer.{published}
use Rattle.desk_published.proofs.PrefixEquations.{is_prefix, prefix_trans, prefix_more}
use Rattle.desk_published.proofs.writer.BoardWriter.publish_after.Goals as goal

pub publish_noted-requires-clause-noted : goal.publish_noted-requires-clause-noted
publish_noted-requires-clause-noted g c =
    is_prefix c.args.self.noted _ c.requires.noted

pub returns-then-not-wanted-clause-published : goal.returns-then-not-wanted-clause-published
returns-then-not-wanted-clause-published g c =
    let w = c.args.self in
    prefix_trans (published w.inner) w.noted _ (prefix_more (published w.inner) _ w.noted c.args.self.all)
    (is_prefix w.noted _ c.requires.noted)

pub returns-then-not-wanted-clause-grows : goal.returns-then-not-wanted-clause-grows
returns-then-not-wanted-clause-grows g c = ([], append-nil (published c.args.self.inner))

pub returns-then-not-wanted-clause-held : goal.returns-then-not-wanted-clause-held
returns-then-not-wanted-clause-held g c =
    let w = c.args.self in
    prefix_more (published w.inner) _ w.noted w.all

pub returns-clause-held : goal.returns-clause-held
returns-clause-held g c =
    let w = c.publish_noted.result.0 in
    prefix_more (published w.inner) _ w.noted w.all
