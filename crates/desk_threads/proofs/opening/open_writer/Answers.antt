use Rattle.std.proofs.Common.{◌≡◌, ◌≢◌, ◌∙◌, MatchBool, ap, refl, subst}
use Rattle.desk_log.specs.SavedValue.{SavedValue, committed_entries}
use Rattle.desk_published.specs.Writer.{EqualsPrefix, published}
use Rattle.desk_published.proofs.PrefixEquations.{is_front}
use Rattle.desk_threads.proofs.PublishedPrefixes.{shown_front, nothing_front}
use Rattle.desk_threads.proofs.opening.open_writer.Goals as goal

pub returns-then-whole-clause-front : goal.returns-then-whole-clause-front
returns-then-whole-clause-front g c =
    shown_front _ c.saved.result.now c.args.node.now.saved c.saved.ensures c.publish-writer.ensures.published

pub returns-then-whole-clause-noted : goal.returns-then-whole-clause-noted
returns-then-whole-clause-noted g c =
    subst (λ (s : SavedValue). EqualsPrefix c.publish-writer.result.0.noted (committed_entries s))
    c.saved.ensures c.publish-writer.ensures.noted

pub returns-then-whole-clause-shown : goal.returns-then-whole-clause-shown
returns-then-whole-clause-shown g c =
    let shown = published c.publish-writer.result.0.inner in
    let all = committed_entries c.saved.result.now in
    let whole : shown ≡ all =
    subst (λ b. MatchBool b (shown ≡ all) (shown ≢ all)) c.if-whole.true (c.publish-writer.ensures.whole refl) in
    whole ∙ ap (λ (s : SavedValue). committed_entries s) c.saved.ensures

pub publish-writer-requires : goal.publish-writer-requires
publish-writer-requires g c =
    nothing_front _ (committed_entries c.saved.result.now) c.in_ok-writer.ensures.noted

pub returns-then-whole-clause-held : goal.returns-then-whole-clause-held
returns-then-whole-clause-held g c =
    is_front (published c.publish-writer.result.0.inner) c.publish-writer.result.0.noted c.publish-writer.ensures.held
