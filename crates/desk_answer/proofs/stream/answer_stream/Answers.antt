use Rattle.std.proofs.Common.{refl}
use Rattle.std.proofs.lemmas.Result.{err_from_is_err_and}
use Rattle.desk_saved.proofs.SameFile.{preserved_still}
use Rattle.desk_answer.proofs.UnansweredPackets.{ended_before}
use Rattle.desk_answer.proofs.FileAfterAnswers.{preserved_alone, closed_never, stopped_never}
use Rattle.desk_answer.proofs.StepsInOrder.{same_refl}
use Rattle.desk_answer.proofs.stream.answer_stream.Goals as goal

pub returns-in_err-frames-clause-err : goal.returns-in_err-frames-clause-err
returns-in_err-frames-clause-err g c =
    let p = err_from_is_err_and c.from_residual.result c.from_residual.ensures.1 in
    rw (p.1, p.2) (ended_before g.S.Store _ _ c.args.node.now c.args.file.now)

pub returns-in_err-frames-clause-preserved : goal.returns-in_err-frames-clause-preserved
returns-in_err-frames-clause-preserved g c = λ stored.
    let file = c.args.file.now in
    preserved_alone g.S.Store file file c.args.node.now.saved
    (λ open_ trees leaves. g.met.S.Store.settled _ trees open_ leaves) (preserved_still g.S.Store file) refl
    c.requires.last

pub returns-clause-preserved : goal.returns-clause-preserved
returns-clause-preserved g c = λ stored.
    let f = c.answer_frames.ensures.file in
    preserved_alone g.S.Store c.args.file.now c.answer_frames.new.file c.answer_frames.new.node.saved
    (λ open_ trees leaves. g.met.S.Store.settled _ trees open_ leaves) (f.rows stored) f.owner_is (f.last stored)

pub returns-in_err-frames-clause-end : goal.returns-in_err-frames-clause-end
returns-in_err-frames-clause-end g c =
    let p = err_from_is_err_and c.from_residual.result c.from_residual.ensures.1 in
    rw p.1 tt

pub returns-in_err-frames-clause-ok : goal.returns-in_err-frames-clause-ok
returns-in_err-frames-clause-ok g c =
    let p = err_from_is_err_and c.from_residual.result c.from_residual.ensures.1 in
    rw p.1 tt

pub returns-in_err-frames-clause-same_node : goal.returns-in_err-frames-clause-same_node
returns-in_err-frames-clause-same_node g c = same_refl c.args.node.now

pub returns-in_err-frames-clause-same_owner : goal.returns-in_err-frames-clause-same_owner
returns-in_err-frames-clause-same_owner g c = refl

pub returns-in_err-frames-clause-clean : goal.returns-in_err-frames-clause-clean
returns-in_err-frames-clause-clean g c = λ late. late

pub returns-in_err-frames-clause-closed : goal.returns-in_err-frames-clause-closed
returns-in_err-frames-clause-closed g c =
    let p = err_from_is_err_and c.from_residual.result c.from_residual.ensures.1 in
    closed_never c.from_residual.result _ p.0 p.1 p.2

pub returns-in_err-frames-clause-stopped : goal.returns-in_err-frames-clause-stopped
returns-in_err-frames-clause-stopped g c =
    let p = err_from_is_err_and c.from_residual.result c.from_residual.ensures.1 in
    stopped_never c.from_residual.result _ p.0 p.1 p.2

pub returns-in_err-frames-clause-running : goal.returns-in_err-frames-clause-running
returns-in_err-frames-clause-running g c = λ stored. refl

pub returns-in_err-frames-clause-last : goal.returns-in_err-frames-clause-last
returns-in_err-frames-clause-last g c = λ stored. c.requires.last

pub returns-in_err-frames-clause-rows : goal.returns-in_err-frames-clause-rows
returns-in_err-frames-clause-rows g c = λ stored. preserved_still g.S.Store c.args.file.now

pub returns-clause-end : goal.returns-clause-end
returns-clause-end g c = c.answer_frames.ensures.end

pub returns-clause-ok : goal.returns-clause-ok
returns-clause-ok g c = c.answer_frames.ensures.ok

pub returns-clause-err : goal.returns-clause-err
returns-clause-err g c = c.answer_frames.ensures.err

pub returns-clause-same_node : goal.returns-clause-same_node
returns-clause-same_node g c = c.answer_frames.ensures.same

pub returns-clause-same_owner : goal.returns-clause-same_owner
returns-clause-same_owner g c = c.answer_frames.ensures.file.owner_is

pub returns-clause-clean : goal.returns-clause-clean
returns-clause-clean g c = c.answer_frames.ensures.file.clean

pub returns-clause-closed : goal.returns-clause-closed
returns-clause-closed g c = c.answer_frames.ensures.file.closed

pub returns-clause-stopped : goal.returns-clause-stopped
returns-clause-stopped g c = c.answer_frames.ensures.file.stopped

pub returns-clause-running : goal.returns-clause-running
returns-clause-running g c = c.answer_frames.ensures.file.running

pub returns-clause-last : goal.returns-clause-last
returns-clause-last g c = c.answer_frames.ensures.file.last

pub returns-clause-rows : goal.returns-clause-rows
returns-clause-rows g c = c.answer_frames.ensures.file.rows
