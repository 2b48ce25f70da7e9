use Rattle.std.proofs.Common.{◌≡◌, ◌≢◌, ◌++◌, MatchBool, refl, subst, sym}
use Rattle.desk_published.specs.Writer.{followed_by, published}
use Rattle.desk_epoch_opening.proofs.PublishedEpochs.{all_noted, noted_first}
use Rattle.desk_epoch_opening.proofs.publishing.publish_part.Goals as goal

pub publish_after-requires-clause-noted : goal.publish_after-requires-clause-noted
publish_after-requires-clause-noted g c =
    noted_first c.noted_len-base.result c.args.writer.noted c.args.entries.now (sym c.noted_len-base.ensures)

pub returns-clause-noted : goal.returns-clause-noted
returns-clause-noted g c = λ is.
    let w = c.publish_after.result.0 in
    let all = followed_by c.noted_len-base.result c.args.writer.noted c.args.entries.now in
    let whole = subst (λ b. MatchBool b (published w.inner ≡ all) (published w.inner ≢ all)) is
    (c.publish_after.ensures.whole refl) in
    (all_noted c.noted_len-base.result c.args.writer.noted w.noted (published w.inner) c.args.entries.now
    (sym c.noted_len-base.ensures) c.publish_after.ensures.noted c.publish_after.ensures.held whole).0

pub returns-clause-shown : goal.returns-clause-shown
returns-clause-shown g c = λ is.
    let w = c.publish_after.result.0 in
    let all = followed_by c.noted_len-base.result c.args.writer.noted c.args.entries.now in
    let whole = subst (λ b. MatchBool b (published w.inner ≡ all) (published w.inner ≢ all)) is
    (c.publish_after.ensures.whole refl) in
    (all_noted c.noted_len-base.result c.args.writer.noted w.noted (published w.inner) c.args.entries.now
    (sym c.noted_len-base.ensures) c.publish_after.ensures.noted c.publish_after.ensures.held whole).1
