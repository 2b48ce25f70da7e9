use Rattle.std.proofs.Common.{◌≢◌, [], ◌∙◌, ap, append-nil, arith, length, refl, subst, sym, List}
use mathlib.Core.List.{IsPrefix}
use Rattle.desk_types.specs.declared.command.Entry.{Entry}
use Rattle.desk_published.specs.Writer.{EqualsPrefix, published}
use Rattle.desk_published.proofs.PrefixEquations.{is_prefix, length_followed}
use Rattle.desk_threads.proofs.Histories.{before_publish, after_publish, reported_next, forgets_nothing}
use Rattle.desk_threads.proofs.Histories.{forgets_published, reached_on, reported_lags, reported_within, shown_history}
use Rattle.desk_threads.proofs.PublishedPrefixes.{where_true, where_false}
use Rattle.desk_threads.proofs.publishing.publish_reported.Goals as goal

pub returns-then-count-eq0-clause-noted : goal.returns-then-count-eq0-clause-noted
returns-then-count-eq0-clause-noted g c =
    (forgets_nothing g.R.SavedReplica.saving c.args.replica.now _ c.reported-count.result.now c.args.writer.noted
    c.reported-count.ensures c.if-count-eq0.true
    (g.met.R.SavedReplica.forgotten_on c.args.replica.now _ c.forget_reported.ensures) c.requires.noted).0

pub returns-then-count-eq0-clause-shown : goal.returns-then-count-eq0-clause-shown
returns-then-count-eq0-clause-shown g c =
    let shown = published c.args.writer.inner in
    let history = (forgets_nothing g.R.SavedReplica.saving c.args.replica.now _ c.reported-count.result.now
    c.args.writer.noted c.reported-count.ensures c.if-count-eq0.true
    (g.met.R.SavedReplica.forgotten_on c.args.replica.now _ c.forget_reported.ensures) c.requires.noted).1 in
    is_prefix shown _ (subst (λ (list : List Entry). EqualsPrefix shown list) history c.requires.shown)

pub returns-then-count-eq0-clause-grows : goal.returns-then-count-eq0-clause-grows
returns-then-count-eq0-clause-grows g c = ([], append-nil (published c.args.writer.inner))

pub publish_after-writer-requires-clause-past : goal.publish_after-writer-requires-clause-past
publish_after-writer-requires-clause-past g c =
    (before_publish g.R.SavedReplica.saving c.args.replica.now c.past_len.result c.reported.result.now
    c.args.writer.noted c.past_len.ensures
    (reported_next g.R.SavedReplica.saving c.args.replica.now c.reported.result.now c.reported.ensures
    (λ none. c.if-count-eq0.false
    (ap length (c.reported-count.ensures ∙ sym c.reported.ensures) ∙ none))) c.requires.noted).0

pub publish_after-writer-requires-clause-noted : goal.publish_after-writer-requires-clause-noted
publish_after-writer-requires-clause-noted g c =
    (before_publish g.R.SavedReplica.saving c.args.replica.now c.past_len.result c.reported.result.now
    c.args.writer.noted c.past_len.ensures
    (reported_next g.R.SavedReplica.saving c.args.replica.now c.reported.result.now c.reported.ensures
    (λ none. c.if-count-eq0.false
    (ap length (c.reported-count.ensures ∙ sym c.reported.ensures) ∙ none))) c.requires.noted).1

pub returns-then-not-whole-clause-noted : goal.returns-then-not-whole-clause-noted
returns-then-not-whole-clause-noted g c =
    (after_publish g.R.SavedReplica.saving c.args.replica.now c.past_len.result c.reported.result.now
    c.args.writer.noted c.publish_after-writer.result.0.noted c.past_len.ensures
    (reported_next g.R.SavedReplica.saving c.args.replica.now c.reported.result.now c.reported.ensures
    (λ none. c.if-count-eq0.false
    (ap length (c.reported-count.ensures ∙ sym c.reported.ensures) ∙ none))) c.requires.noted
    c.publish_after-writer.ensures.past c.publish_after-writer.ensures.noted).0

pub returns-then-not-whole-clause-shown : goal.returns-then-not-whole-clause-shown
returns-then-not-whole-clause-shown g c =
    let list = c.reported.result.now in
    let some : length list ≢ 0 = λ none. c.if-count-eq0.false
    (ap length (c.reported-count.ensures ∙ sym c.reported.ensures) ∙ none) in
    let s = g.R.SavedReplica.saving in
    let noted = c.args.writer.noted in
    let now = c.publish_after-writer.result.0.noted in
    let p = after_publish s c.args.replica.now c.past_len.result list noted now c.past_len.ensures
    (reported_next s c.args.replica.now list c.reported.ensures some) c.requires.noted
    c.publish_after-writer.ensures.past c.publish_after-writer.ensures.noted in
    reported_within s c.args.replica.now c.past_len.result list noted now
    (published c.publish_after-writer.result.0.inner) c.past_len.ensures c.reported.ensures p.1
    c.publish_after-writer.ensures.published

pub returns-then-not-whole-clause-lags : goal.returns-then-not-whole-clause-lags
returns-then-not-whole-clause-lags g c = λ _.
    let list = c.reported.result.now in
    let some : length list ≢ 0 = λ none. c.if-count-eq0.false
    (ap length (c.reported-count.ensures ∙ sym c.reported.ensures) ∙ none) in
    let s = g.R.SavedReplica.saving in
    let noted = c.args.writer.noted in
    let now = c.publish_after-writer.result.0.noted in
    let p = after_publish s c.args.replica.now c.past_len.result list noted now c.past_len.ensures
    (reported_next s c.args.replica.now list c.reported.ensures some) c.requires.noted
    c.publish_after-writer.ensures.past c.publish_after-writer.ensures.noted in
    reported_lags s c.args.replica.now c.past_len.result list noted now
    (published c.publish_after-writer.result.0.inner) c.past_len.ensures c.reported.ensures p.1
    c.publish_after-writer.ensures.published
    (where_false c.publish_after-writer.result.1 _ _ (c.publish_after-writer.ensures.whole refl) c.if-not-whole.true)

pub returns-clause-noted : goal.returns-clause-noted
returns-clause-noted g c =
    let list = c.reported.result.now in
    let some : length list ≢ 0 = λ none. c.if-count-eq0.false
    (ap length (c.reported-count.ensures ∙ sym c.reported.ensures) ∙ none) in
    let s = g.R.SavedReplica.saving in
    let noted = c.args.writer.noted in
    let now = c.publish_after-writer.result.0.noted in
    let p = after_publish s c.args.replica.now c.past_len.result list noted now c.past_len.ensures
    (reported_next s c.args.replica.now list c.reported.ensures some) c.requires.noted
    c.publish_after-writer.ensures.past c.publish_after-writer.ensures.noted in
    (forgets_published s c.args.replica.now _ c.past_len.result list noted now
    (published c.publish_after-writer.result.0.inner) c.past_len.ensures c.reported.ensures
    (g.met.R.SavedReplica.forgotten_on c.args.replica.now _ c.forget_reported-2.ensures) c.requires.noted p.0 p.1
    (where_true c.publish_after-writer.result.1 _ _ (c.publish_after-writer.ensures.whole refl) c.if-not-whole.false)
    c.publish_after-writer.ensures.held).0

pub returns-clause-shown : goal.returns-clause-shown
returns-clause-shown g c =
    let list = c.reported.result.now in
    let some : length list ≢ 0 = λ none. c.if-count-eq0.false
    (ap length (c.reported-count.ensures ∙ sym c.reported.ensures) ∙ none) in
    let s = g.R.SavedReplica.saving in
    let noted = c.args.writer.noted in
    let now = c.publish_after-writer.result.0.noted in
    let shown = published c.publish_after-writer.result.0.inner in
    let p = after_publish s c.args.replica.now c.past_len.result list noted now c.past_len.ensures
    (reported_next s c.args.replica.now list c.reported.ensures some) c.requires.noted
    c.publish_after-writer.ensures.past c.publish_after-writer.ensures.noted in
    let f = forgets_published s c.args.replica.now _ c.past_len.result list noted now shown c.past_len.ensures
    c.reported.ensures (g.met.R.SavedReplica.forgotten_on c.args.replica.now _ c.forget_reported-2.ensures)
    c.requires.noted p.0 p.1
    (where_true c.publish_after-writer.result.1 _ _ (c.publish_after-writer.ensures.whole refl) c.if-not-whole.false)
    c.publish_after-writer.ensures.held in
    subst (λ (w : List Entry). IsPrefix shown w) f.1
    (reported_within s c.args.replica.now c.past_len.result list noted now shown c.past_len.ensures
    c.reported.ensures p.1 c.publish_after-writer.ensures.published)

pub returns-then-count-eq0-clause-held : goal.returns-then-count-eq0-clause-held
returns-then-count-eq0-clause-held g c = is_prefix (published c.args.writer.inner) c.args.writer.noted c.requires.held

pub returns-then-count-eq0-clause-history : goal.returns-then-count-eq0-clause-history
returns-then-count-eq0-clause-history g c =
    sym (forgets_nothing g.R.SavedReplica.saving c.args.replica.now _ c.reported-count.result.now c.args.writer.noted
    c.reported-count.ensures c.if-count-eq0.true
    (g.met.R.SavedReplica.forgotten_on c.args.replica.now _ c.forget_reported.ensures) c.requires.noted).1
    ∙ shown_history g.R.SavedReplica.saving c.args.replica.now (published c.args.writer.inner) c.args.writer.noted
    c.requires.reached c.requires.held

pub returns-then-count-eq0-clause-reached : goal.returns-then-count-eq0-clause-reached
returns-then-count-eq0-clause-reached g c =
    omega (
      arith,
      c.requires.reached,
      (g.met.R.SavedReplica.forgotten_on c.args.replica.now _ c.forget_reported.ensures).base,
      ap length c.reported-count.ensures,
      c.if-count-eq0.true,
    )

pub returns-then-not-whole-clause-history : goal.returns-then-not-whole-clause-history
returns-then-not-whole-clause-history g c =
    let list = c.reported.result.now in
    let some : length list ≢ 0 = λ none. c.if-count-eq0.false
    (ap length (c.reported-count.ensures ∙ sym c.reported.ensures) ∙ none) in
    let s = g.R.SavedReplica.saving in
    let noted = c.args.writer.noted in
    let now = c.publish_after-writer.result.0.noted in
    let p = after_publish s c.args.replica.now c.past_len.result list noted now c.past_len.ensures
    (reported_next s c.args.replica.now list c.reported.ensures some) c.requires.noted
    c.publish_after-writer.ensures.past c.publish_after-writer.ensures.noted in
    sym p.1
    ∙ shown_history s c.args.replica.now (published c.args.writer.inner) noted c.requires.reached c.requires.held

pub returns-then-not-whole-clause-reached : goal.returns-then-not-whole-clause-reached
returns-then-not-whole-clause-reached g c =
    reached_on (g.R.SavedReplica.saving.base c.args.replica.now) (published c.args.writer.inner)
    (published c.publish_after-writer.result.0.inner) c.requires.reached c.publish_after-writer.ensures.grows

pub returns-clause-history : goal.returns-clause-history
returns-clause-history g c =
    let list = c.reported.result.now in
    let some : length list ≢ 0 = λ none. c.if-count-eq0.false
    (ap length (c.reported-count.ensures ∙ sym c.reported.ensures) ∙ none) in
    let s = g.R.SavedReplica.saving in
    let noted = c.args.writer.noted in
    let now = c.publish_after-writer.result.0.noted in
    let p = after_publish s c.args.replica.now c.past_len.result list noted now c.past_len.ensures
    (reported_next s c.args.replica.now list c.reported.ensures some) c.requires.noted
    c.publish_after-writer.ensures.past c.publish_after-writer.ensures.noted in
    let f = forgets_published s c.args.replica.now _ c.past_len.result list noted now
    (published c.publish_after-writer.result.0.inner) c.past_len.ensures c.reported.ensures
    (g.met.R.SavedReplica.forgotten_on c.args.replica.now _ c.forget_reported-2.ensures) c.requires.noted p.0 p.1
    (where_true c.publish_after-writer.result.1 _ _ (c.publish_after-writer.ensures.whole refl) c.if-not-whole.false)
    c.publish_after-writer.ensures.held in
    sym (p.1 ∙ f.1)
    ∙ shown_history s c.args.replica.now (published c.args.writer.inner) noted c.requires.reached c.requires.held

pub returns-clause-reached : goal.returns-clause-reached
returns-clause-reached g c =
    let list = c.reported.result.now in
    let noted = c.args.writer.noted in
    omega (
      arith,
      ap length (where_true c.publish_after-writer.result.1 _ _ (c.publish_after-writer.ensures.whole refl)
          c.if-not-whole.false),
      length_followed c.past_len.result noted list (omega (arith, c.past_len.ensures, c.requires.noted.past_noted)),
      c.past_len.ensures,
      ap length c.reported.ensures,
      (g.met.R.SavedReplica.forgotten_on c.args.replica.now _ c.forget_reported-2.ensures).base,
    )
