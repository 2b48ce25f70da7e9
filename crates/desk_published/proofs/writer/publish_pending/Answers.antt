use Rattle.std.proofs.Common.{◌++◌, length, refl, ap, sym, ◌∙◌, append-nil, arith}
use Rattle.left_right.specs.Sides.{view}
use Rattle.desk_published.specs.Writer.{published, pending}
use Rattle.desk_published.proofs.SeatSteps.{HaveSeenPrefixes-turn}
use Rattle.desk_published.proofs.AfterPublish.{fold_is-append, none_pending, published_is, seen_is}
use Rattle.desk_published.proofs.writer.publish_pending.Goals as goal

pub publish_as-requires : goal.publish_as-requires
publish_as-requires g c next is =
    let w = c.args.inner in
    HaveSeenPrefixes-turn _ _ (published w) next (pending w) (is ∙ fold_is-append (published w) (pending w))

pub returns-then-not-has_pending_operations : goal.returns-then-not-has_pending_operations
returns-then-not-has_pending_operations g c =
    let w = c.args.inner in
    let none = none_pending (pending w) c.if-not-has_pending_operations.ensures.1 in
    record {
      shows = c.requires.shows;
      published = (sym (ap (λ l. published w ++ l) none ∙ append-nil (published w)), none);
      nothing = λ _. refl;
    }

pub returns-clause-published : goal.returns-clause-published
returns-clause-published g c =
    let w = c.args.inner in
    let r = c.publish_as.result in
    published_is r.1 (published w) (published r.0) (pending w) (pending r.0) c.publish_as.ensures.values

pub returns-clause-shows : goal.returns-clause-shows
returns-clause-shows g c =
    let w = c.args.inner in
    let r = c.publish_as.result in
    seen_is r.1 (view w.desk.place) (view r.0.desk.place) (published w) (published r.0) (pending w) (pending r.0)
    c.requires.shows c.publish_as.ensures.rule c.publish_as.ensures.values

pub returns-clause-nothing : goal.returns-clause-nothing
returns-clause-nothing g c = λ none.
    absurd (omega (arith, ap length none, c.if-not-has_pending_operations.ensures.0 refl))
