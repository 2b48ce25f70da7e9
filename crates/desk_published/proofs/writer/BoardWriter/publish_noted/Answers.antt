use Rattle.std.proofs.Common.{◌∙◌, ap, sym, length}
use Rattle.desk_published.specs.Writer.{as_list, followed_by, published, pending}
use Rattle.desk_published.proofs.PrefixEquations.{all_after, grows_after, whole_is, prefix_trans, prefix_more}
use Rattle.desk_published.proofs.PrefixEquations.{length_followed}
use Rattle.desk_published.proofs.writer.BoardWriter.publish_noted.Goals as goal

pub invariant_of-result : goal.invariant_of-result
invariant_of-result g c =
    let w = c.note_after.new.self in
    let n = c.publish_pending-inner.result in
    record {
      shows = c.publish_pending-inner.ensures.shows;
      all = all_after n.1 w.noted (published w.inner) (published n.0) (pending w.inner) (pending n.0)
          (as_list w.refused) w.all c.publish_pending-inner.ensures.published;
    }

pub returns-clause-grows : goal.returns-clause-grows
returns-clause-grows g c =
    let w = c.note_after.new.self in
    let n = c.publish_pending-inner.result in
    rw (← c.note_after.ensures.desk)
    (grows_after n.1 (published w.inner) (published n.0) (pending w.inner) (pending n.0)
    c.publish_pending-inner.ensures.published)

pub returns-clause-published : goal.returns-clause-published
returns-clause-published g c =
    let w = c.note_after.new.self in
    let n = c.publish_pending-inner.result in
    let all = all_after n.1 w.noted (published w.inner) (published n.0) (pending w.inner) (pending n.0)
    (as_list w.refused) w.all c.publish_pending-inner.ensures.published in
    prefix_trans (published n.0) w.noted _ (prefix_more (published n.0) _ w.noted all) c.note_after.ensures.noted

pub returns-clause-whole : goal.returns-clause-whole
returns-clause-whole g c =
    let w = c.note_after.new.self in
    let n = c.publish_pending-inner.result in
    let list = followed_by c.args.base c.args.self.noted c.args.entries.now in
    let all = all_after n.1 w.noted (published w.inner) (published n.0) (pending w.inner) (pending n.0)
    (as_list w.refused) w.all c.publish_pending-inner.ensures.published in
    let shown = prefix_trans (published n.0) w.noted list (prefix_more (published n.0) _ w.noted all)
    c.note_after.ensures.noted in
    whole_is _ c.len.result _ (published n.0) list (sym c.reaches-whole.ensures)
    (c.len.ensures ∙ ap length (c.history.ensures ∙ c.published.ensures)) shown
    (length_followed c.args.base c.args.self.noted c.args.entries.now c.requires.past)
