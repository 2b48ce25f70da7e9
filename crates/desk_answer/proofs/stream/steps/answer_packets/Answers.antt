use Rattle.std.proofs.Common.{[], ◌∷◌, Ok, Err}
use Rattle.std.proofs.KnownBytes.{Appends-nil, Appends-trans}
use Rattle.std.proofs.lemmas.Result.{err_from_is_err_and}
use Rattle.std.specs.Vec.Iter.{into_iter_items}
use Rattle.desk_frames.proofs.Receiving.{parts_of, first_more}
use Rattle.desk_answer.specs.AnswerFile.{IsEither}
use Rattle.desk_answer.proofs.FileAfterAnswers.{followed_nothing, followed_more, left_more}
use Rattle.desk_answer.proofs.SentInOrder.{prefix_after, sent_nothing, sent_more, but_last_more}
use Rattle.desk_answer.proofs.StepsInOrder.{same_refl, same_trans}
use Rattle.desk_answer.proofs.stream.steps.answer_packets.Goals as goal

pub loop-packet-init : goal.loop-packet-init
loop-packet-init g c = record {
  sent = sent_nothing _ c.args.node.now (Appends-nil _);
  file = followed_nothing g.S.Store c.args.file.now c.args.node.now.saved tt c.requires.last;
  same = same_refl c.args.node.now;
}

pub loop-packet-preserved : goal.loop-packet-preserved
loop-packet-preserved g c = record {
  sent = sent_more _ _ _ (Appends-trans _ _ _) c.args.node.now c.loop-packet.node c.loop-packet.yielded
      c.loop-packet.invariant.sent c.answer_packet.new.node (c.in-Some.packet ∷ []) c.in_ok-answer_packet.ensures.ok;
  file = followed_more g.S.Store c.args.file.now c.loop-packet.file c.answer_packet.new.file
      c.loop-packet.node.saved c.answer_packet.new.node.saved tt c.loop-packet.invariant.file (Ok tt)
      c.in_ok-answer_packet.ensures.file;
  same = same_trans c.args.node.now c.loop-packet.node c.answer_packet.new.node c.loop-packet.invariant.same
      c.answer_packet.ensures.same;
}

pub returns-in_err-answer_packet-clause-cut_short : goal.returns-in_err-answer_packet-clause-cut_short
returns-in_err-answer_packet-clause-cut_short g c =
    let p = err_from_is_err_and c.from_residual.result c.from_residual.ensures.1 in
    rw (p.1, p.2) (λ send.
    first_more _ _ c.args.packets.items c.loop-packet.yielded (c.in-Some.packet ∷ []) (into_iter_items c.next.new.self)
    (parts_of c.args.packets.items c.into_iter-packet-iterator.result c.loop-packet.yielded
    c.loop-packet.packet-iterator c.in-Some.packet c.next.new.self
    c.into_iter-packet-iterator.ensures.into_iter_gives.0 c.loop-packet.yielded_by c.in-Some.ensures.steps)
    (sent_more _ _ _ (prefix_after _ _ _) c.args.node.now c.loop-packet.node c.loop-packet.yielded
    c.loop-packet.invariant.sent c.answer_packet.new.node) (c.in_err-answer_packet.ensures.cut_short send))

pub returns-in_err-answer_packet-clause-unsaved : goal.returns-in_err-answer_packet-clause-unsaved
returns-in_err-answer_packet-clause-unsaved g c =
    let p = err_from_is_err_and c.from_residual.result c.from_residual.ensures.1 in
    rw (p.1, p.2) (λ store.
    let at = c.in_err-answer_packet.ensures.unsaved store in (
      at.0,
      first_more _ _ c.args.packets.items c.loop-packet.yielded (c.in-Some.packet ∷ [])
          (into_iter_items c.next.new.self)
          (parts_of c.args.packets.items c.into_iter-packet-iterator.result c.loop-packet.yielded
          c.loop-packet.packet-iterator c.in-Some.packet c.next.new.self
          c.into_iter-packet-iterator.ensures.into_iter_gives.0 c.loop-packet.yielded_by c.in-Some.ensures.steps)
          (but_last_more _ _ _ (Appends-trans _ _ _) c.args.node.now c.loop-packet.node c.loop-packet.yielded
          c.loop-packet.invariant.sent at.0 c.answer_packet.new.node) at.1,
      left_more g.S.Store c.args.file.now c.loop-packet.file c.answer_packet.new.file c.loop-packet.node.saved
          c.answer_packet.new.node.saved tt c.loop-packet.invariant.file
          (IsEither at.0.saved c.answer_packet.new.node.saved) c.in_err-answer_packet.ensures.file.clean at.2,
    ))

pub returns-in_err-answer_packet-clause-file : goal.returns-in_err-answer_packet-clause-file
returns-in_err-answer_packet-clause-file g c =
    let p = err_from_is_err_and c.from_residual.result c.from_residual.ensures.1 in
    rw (p.1, p.2) (followed_more g.S.Store c.args.file.now c.loop-packet.file c.answer_packet.new.file
    c.loop-packet.node.saved c.answer_packet.new.node.saved tt c.loop-packet.invariant.file
    (Err c.in_err-answer_packet.field-0.0) c.in_err-answer_packet.ensures.file)
