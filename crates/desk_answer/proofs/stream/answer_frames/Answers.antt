use Rattle.std.proofs.Common.{inl, [], Ok, Err, refl, sym, ap, subst, lit<}
use Rattle.std.proofs.KnownBytes.{Appends-nil, Appends-trans}
use Rattle.std.proofs.lemmas.Result.{err_from_is_err_and}
use Rattle.desk_frames.specs.Reading.{ReaderState}
use Rattle.desk_frames.specs.Stream.{Holds}
use Rattle.desk_frames.proofs.Receiving.{received_nothing, received_more, fewer_left, come_packets, come_refused}
use Rattle.desk_answer.proofs.EarlyEnds.{ended_by_read, ended_by_packets, not_stored}
use Rattle.desk_answer.proofs.FileAfterAnswers.{followed_nothing, followed_more, followed_still}
use Rattle.desk_answer.proofs.SentInOrder.{sent_nothing, sent_more}
use Rattle.desk_answer.proofs.StepsInOrder.{same_refl, same_trans}
use Rattle.desk_answer.proofs.stream.answer_frames.Goals as goal

pub pieces-init : goal.pieces-init
pieces-init g c = record {
  read = (
    [],
    subst (λ (s : ReaderState). Holds s.standing []) (sym c.requires.start) (refl, inl (lit< tt)),
    received_nothing _ _ (sent_nothing _ c.args.node.now (Appends-nil _)),
  );
  waiting = ap (λ (s : ReaderState). s.waiting) c.requires.start;
  file = followed_nothing g.S.Store c.args.file.now c.args.node.now.saved tt c.requires.last;
  same = same_refl c.args.node.now;
}

pub returns-in_err-packets-clause-err : goal.returns-in_err-packets-clause-err
returns-in_err-packets-clause-err g c =
    let p = err_from_is_err_and c.from_residual.result c.from_residual.ensures.1 in
    let i = c.pieces.invariant in
    let r = c.in_err-packets.field-0.0 in
    rw (p.1, p.2) (ended_by_read g.S.Store r _ _ _ _ _ c.args.node.now c.pieces.node c.args.file.now c.pieces.file
    i.read.0 i.read.2
    (come_refused _ _ c.pieces.frames c.read_packets.new.reader i.read.0 i.read.1 c.spellings.ensures.lengths r
    (c.in_err-packets.ensures.read i.waiting)))

pub returns-in_err-packets-clause-file : goal.returns-in_err-packets-clause-file
returns-in_err-packets-clause-file g c =
    let p = err_from_is_err_and c.from_residual.result c.from_residual.ensures.1 in
    let i = c.pieces.invariant in
    let r = c.in_err-packets.field-0.0 in
    let refused = come_refused _ _ c.pieces.frames c.read_packets.new.reader i.read.0 i.read.1
    c.spellings.ensures.lengths r (c.in_err-packets.ensures.read i.waiting) in
    rw (p.1, p.2) (followed_still g.S.Store c.args.file.now c.pieces.file c.pieces.node.saved tt i.file (Err r)
    (not_stored r refused.which))

pub returns-in_err-answer_packets-in-Some-clause-err : goal.returns-in_err-answer_packets-in-Some-clause-err
returns-in_err-answer_packets-in-Some-clause-err g c =
    let p = err_from_is_err_and c.from_residual-in_err-answer_packets-in-Some.result
    c.from_residual-in_err-answer_packets-in-Some.ensures.1 in
    let i = c.pieces.invariant in
    let h = c.in_err-answer_packets-in-Some.ensures in
    let come = come_packets _ _ c.pieces.frames c.read_packets.new.reader i.read.0 i.read.1 c.in-Some.packets.items
    (rw c.in-Some.is at (c.in_ok-packets.ensures.read i.waiting)) in
    rw (p.1, p.2) (ended_by_packets g.S.Store c.in_err-answer_packets-in-Some.field-0.0 _ _ _ _ _ _
    c.args.node.now c.pieces.node c.answer_packets.new.node c.args.file.now c.pieces.file c.answer_packets.new.file
    i.read.0 come.0 c.in-Some.packets.items i.read.2 come.1 i.file h.fault h.cut_short h.unsaved
    h.file.clean)

pub returns-in_err-answer_packets-in-Some-clause-file : goal.returns-in_err-answer_packets-in-Some-clause-file
returns-in_err-answer_packets-in-Some-clause-file g c =
    let p = err_from_is_err_and c.from_residual-in_err-answer_packets-in-Some.result
    c.from_residual-in_err-answer_packets-in-Some.ensures.1 in
    rw (p.1, p.2) (followed_more g.S.Store c.args.file.now c.pieces.file c.answer_packets.new.file c.pieces.node.saved
    c.answer_packets.new.node.saved tt c.pieces.invariant.file (Err c.in_err-answer_packets-in-Some.field-0.0)
    c.in_err-answer_packets-in-Some.ensures.file)

pub pieces-preserved : goal.pieces-preserved
pieces-preserved g c =
    let i = c.pieces.invariant in
    let h = c.in_ok-answer_packets-in-Some.ensures in
    let come = come_packets _ _ c.pieces.frames c.read_packets.new.reader i.read.0 i.read.1 c.in-Some.packets.items
    (rw c.in-Some.is at (c.in_ok-packets.ensures.read i.waiting)) in
    record {
      read = (
        come.0,
        come.2,
        received_more _ _ _ _ _ _ i.read.0 come.0 c.in-Some.packets.items
            (λ ps qs done. sent_more _ _ _ (Appends-trans _ _ _) c.args.node.now c.pieces.node ps done
            c.answer_packets.new.node qs) i.read.2 come.1 h.ok,
      );
      waiting = come.3;
      file = followed_more g.S.Store c.args.file.now c.pieces.file c.answer_packets.new.file c.pieces.node.saved
          c.answer_packets.new.node.saved tt i.file (Ok tt) h.file;
      same = same_trans c.args.node.now c.pieces.node c.answer_packets.new.node i.same c.answer_packets.ensures.same;
    }

pub pieces-smaller : goal.pieces-smaller
pieces-smaller g c =
    let i = c.pieces.invariant in
    fewer_left c.pieces.frames c.read_packets.new.reader (c.read_packets.ensures.counted i.waiting)
    (c.in_ok-packets.ensures.most i.waiting)
