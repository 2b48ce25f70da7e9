use Rattle.std.proofs.Common.{◌≡◌, ◌≢◌, ◌∙◌, [], List, MatchBool, append-nil, inl, inr, refl, subst, sym}
use mathlib.Core.List.{IsPrefix}
use Rattle.desk_types.specs.declared.command.Entry.{Entry}
use Rattle.desk_published.specs.Writer.{published}
use Rattle.desk_published.proofs.PrefixEquations.{is_prefix, prefix_trans}
use Rattle.desk_threads.proofs.Histories.{before_publish, after_publish, cut_next, reached_on, shown_history}
use Rattle.desk_threads.proofs.PublishedPrefixes.{where_true, where_false}
use Rattle.desk_threads.proofs.publishing.publish_committed.Goals as goal

pub returns-then-not-wanted-clause-grows : goal.returns-then-not-wanted-clause-grows
returns-then-not-wanted-clause-grows g c = ([], append-nil (published c.args.writer.inner))

pub returns-then-not-wanted-clause-shown : goal.returns-then-not-wanted-clause-shown
returns-then-not-wanted-clause-shown g c = is_prefix (published c.args.writer.inner) _ c.requires.shown

pub returns-then-not-wanted-clause-forgets : goal.returns-then-not-wanted-clause-forgets
returns-then-not-wanted-clause-forgets g c = inl refl

pub returns-then-not-forgot-clause-forgets : goal.returns-then-not-forgot-clause-forgets
returns-then-not-forgot-clause-forgets g c =
    inl (where_false c.publish_reported-writer.result.1 _ _ c.publish_reported-writer.ensures.forgets
    c.if-not-forgot.true)

pub returns-then-not-forgot-clause-whole : goal.returns-then-not-forgot-clause-whole
returns-then-not-forgot-clause-whole g c = λ _. c.publish_reported-writer.ensures.lags c.if-not-forgot.true

pub publish_after-requires-clause-past : goal.publish_after-requires-clause-past
publish_after-requires-clause-past g c =
    let s = g.R.SavedReplica.saving in
    let r = c.publish_reported-writer.new.replica in
    let none = (g.met.R.SavedReplica.forgotten_on c.args.replica.now r
    (where_true c.publish_reported-writer.result.1 _ _ c.publish_reported-writer.ensures.forgets
    c.if-not-forgot.false)).reported in
    let noted = c.publish_reported-writer.result.0.noted in
    (before_publish s r c.past_len.result c.committed.result.now noted c.past_len.ensures
    (cut_next s r c.committed.result.now noted c.past_len.result none c.committed.ensures c.past_len.ensures).0
    c.publish_reported-writer.ensures.noted).0

pub publish_after-requires-clause-noted : goal.publish_after-requires-clause-noted
publish_after-requires-clause-noted g c =
    let s = g.R.SavedReplica.saving in
    let r = c.publish_reported-writer.new.replica in
    let none = (g.met.R.SavedReplica.forgotten_on c.args.replica.now r
    (where_true c.publish_reported-writer.result.1 _ _ c.publish_reported-writer.ensures.forgets
    c.if-not-forgot.false)).reported in
    let noted = c.publish_reported-writer.result.0.noted in
    (before_publish s r c.past_len.result c.committed.result.now noted c.past_len.ensures
    (cut_next s r c.committed.result.now noted c.past_len.result none c.committed.ensures c.past_len.ensures).0
    c.publish_reported-writer.ensures.noted).1

pub returns-clause-noted : goal.returns-clause-noted
returns-clause-noted g c =
    let s = g.R.SavedReplica.saving in
    let r = c.publish_reported-writer.new.replica in
    let none = (g.met.R.SavedReplica.forgotten_on c.args.replica.now r
    (where_true c.publish_reported-writer.result.1 _ _ c.publish_reported-writer.ensures.forgets
    c.if-not-forgot.false)).reported in
    let noted = c.publish_reported-writer.result.0.noted in
    (after_publish s r c.past_len.result c.committed.result.now noted c.publish_after.result.0.noted
    c.past_len.ensures
    (cut_next s r c.committed.result.now noted c.past_len.result none c.committed.ensures c.past_len.ensures).0
    c.publish_reported-writer.ensures.noted c.publish_after.ensures.past c.publish_after.ensures.noted).0

pub returns-clause-grows : goal.returns-clause-grows
returns-clause-grows g c =
    prefix_trans (published c.args.writer.inner) (published c.publish_reported-writer.result.0.inner)
    (published c.publish_after.result.0.inner) c.publish_reported-writer.ensures.grows c.publish_after.ensures.grows

pub returns-clause-forgets : goal.returns-clause-forgets
returns-clause-forgets g c =
    inr (where_true c.publish_reported-writer.result.1 _ _ c.publish_reported-writer.ensures.forgets
    c.if-not-forgot.false)

pub returns-clause-shown : goal.returns-clause-shown
returns-clause-shown g c =
    let s = g.R.SavedReplica.saving in
    let r = c.publish_reported-writer.new.replica in
    let none = (g.met.R.SavedReplica.forgotten_on c.args.replica.now r
    (where_true c.publish_reported-writer.result.1 _ _ c.publish_reported-writer.ensures.forgets
    c.if-not-forgot.false)).reported in
    let noted = c.publish_reported-writer.result.0.noted in
    let n = cut_next s r c.committed.result.now noted c.past_len.result none c.committed.ensures c.past_len.ensures in
    let p = after_publish s r c.past_len.result c.committed.result.now noted c.publish_after.result.0.noted
    c.past_len.ensures n.0 c.publish_reported-writer.ensures.noted c.publish_after.ensures.past
    c.publish_after.ensures.noted in
    subst (λ (w : List Entry). IsPrefix (published c.publish_after.result.0.inner) w) (n.1 ∙ p.1)
    c.publish_after.ensures.published

pub returns-clause-whole : goal.returns-clause-whole
returns-clause-whole g c = λ _.
    let s = g.R.SavedReplica.saving in
    let r = c.publish_reported-writer.new.replica in
    let none = (g.met.R.SavedReplica.forgotten_on c.args.replica.now r
    (where_true c.publish_reported-writer.result.1 _ _ c.publish_reported-writer.ensures.forgets
    c.if-not-forgot.false)).reported in
    let noted = c.publish_reported-writer.result.0.noted in
    let n = cut_next s r c.committed.result.now noted c.past_len.result none c.committed.ensures c.past_len.ensures in
    let p = after_publish s r c.past_len.result c.committed.result.now noted c.publish_after.result.0.noted
    c.past_len.ensures n.0 c.publish_reported-writer.ensures.noted c.publish_after.ensures.past
    c.publish_after.ensures.noted in
    let shown = published c.publish_after.result.0.inner in
    subst (λ (w : List Entry). MatchBool c.publish_after.result.1 (shown ≡ w) (shown ≢ w)) (n.1 ∙ p.1)
    (c.publish_after.ensures.whole refl)

pub returns-then-not-wanted-clause-held : goal.returns-then-not-wanted-clause-held
returns-then-not-wanted-clause-held g c = is_prefix (published c.args.writer.inner) c.args.writer.noted c.requires.held

pub returns-then-not-wanted-clause-history : goal.returns-then-not-wanted-clause-history
returns-then-not-wanted-clause-history g c =
    shown_history g.R.SavedReplica.saving c.args.replica.now (published c.args.writer.inner) c.args.writer.noted
    c.requires.reached c.requires.held

pub returns-clause-reached : goal.returns-clause-reached
returns-clause-reached g c =
    reached_on (g.R.SavedReplica.saving.base c.publish_reported-writer.new.replica)
    (published c.publish_reported-writer.result.0.inner) (published c.publish_after.result.0.inner)
    c.publish_reported-writer.ensures.reached c.publish_after.ensures.grows

pub returns-clause-history : goal.returns-clause-history
returns-clause-history g c =
    let s = g.R.SavedReplica.saving in
    let r = c.publish_reported-writer.new.replica in
    let none = (g.met.R.SavedReplica.forgotten_on c.args.replica.now r
    (where_true c.publish_reported-writer.result.1 _ _ c.publish_reported-writer.ensures.forgets
    c.if-not-forgot.false)).reported in
    let noted = c.publish_reported-writer.result.0.noted in
    let n = cut_next s r c.committed.result.now noted c.past_len.result none c.committed.ensures c.past_len.ensures in
    let p = after_publish s r c.past_len.result c.committed.result.now noted c.publish_after.result.0.noted
    c.past_len.ensures n.0 c.publish_reported-writer.ensures.noted c.publish_after.ensures.past
    c.publish_after.ensures.noted in
    sym p.1 ∙ c.publish_reported-writer.ensures.history
