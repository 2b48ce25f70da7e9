use Rattle.std.proofs.Common.{[], ◌∷◌}
use Rattle.std.proofs.lemmas.Result.{err_from_is_err_and, IfErr-weaker}
use Rattle.desk_answer.proofs.FileAfterAnswers.{followed_refused, followed_still}
use Rattle.desk_answer.proofs.UnansweredPackets.{send_no_store, some_refused, stopped_once}
use Rattle.desk_answer.proofs.stream.steps.answer_packet.Goals as goal

pub returns-in_err-packets-clause-cut_short : goal.returns-in_err-packets-clause-cut_short
returns-in_err-packets-clause-cut_short g c =
    let p = err_from_is_err_and c.from_residual.result c.from_residual.ensures.1 in
    let r = c.in_err-packets.field-0.0 in
    rw (p.1, p.2) (some_refused c.args.node.now c.step_saved.new.node (c.args.packet ∷ []) _ r
    c.in_err-packets.ensures.fault (λ want. (c.in_err-packets.ensures.refused want).0))

pub returns-in_err-packets-clause-unsaved : goal.returns-in_err-packets-clause-unsaved
returns-in_err-packets-clause-unsaved g c =
    let p = err_from_is_err_and c.from_residual.result c.from_residual.ensures.1 in
    rw (p.1, p.2) (λ store.
    let h = c.in_err-packets.ensures.unsaved store in (
      c.args.node.now,
      stopped_once c.args.node.now c.step_saved.new.node c.args.packet h.0 _ h.1,
      h.2,
    ))

pub returns-in_err-packets-clause-file : goal.returns-in_err-packets-clause-file
returns-in_err-packets-clause-file g c =
    let p = err_from_is_err_and c.from_residual.result c.from_residual.ensures.1 in
    rw (p.1, p.2) (followed_refused g.S.Store c.args.file.now c.step_saved.new.file c.step_saved.new.node.saved
    c.in_err-packets.field-0.0 c.in_err-packets.ensures.file)

pub returns-clause-file : goal.returns-clause-file
returns-clause-file g c =
    followed_still g.S.Store c.args.file.now c.step_saved.new.file c.step_saved.new.node.saved _
    c.in_ok-packets.ensures.file c.send.result
    (IfErr-weaker c.send.result _ _ (λ r h store. send_no_store r h store) c.send.ensures.fault)
