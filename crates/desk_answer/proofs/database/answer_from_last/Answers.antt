use Rattle.std.proofs.Common.{◌≡◌, [], ap, ◌∙◌, Bool, false, IsTrue}
use Rattle.std.proofs.lemmas.Result.{IfErr-weaker}
use Rattle.desk_types.specs.declared.refusal.Refusal.TheVariants as refusals
use Rattle.desk_types.specs.Refusal.{IsWritingFault}
use Rattle.desk_frames.proofs.Receiving.{received_as}
use Rattle.desk_node.specs.NodeValue.{node_from}
use Rattle.desk_saved.proofs.SameFile.{preserved_still}
use Rattle.desk_answer.proofs.UnansweredPackets.{send_no_store}
use Rattle.desk_answer.proofs.DatabaseRuns.{answers_of_sent, answers_but_last, nothing_part}
use Rattle.desk_answer.proofs.DatabaseRuns.{on_ok_stored, on_fault_stored, always_if_err, no_frame_in_store}
use Rattle.desk_answer.proofs.DatabaseRuns.{no_read_in_store}
use Rattle.desk_answer.proofs.database.answer_from_last.Goals as goal

pub returns-in_err-last-clause-cut_short : goal.returns-in_err-last-clause-cut_short
returns-in_err-last-clause-cut_short g c = always_if_err IsWritingFault c.from_residual.result (
  [],
  nothing_part
      c.args.owner c.args.file.now.last (g.R.Read.remaining c.args.reader.now) (g.W.Write.contents c.args.writer.now),
)

pub returns-clause-ok : goal.returns-clause-ok
returns-clause-ok g c =
    let start : c.from_saved-node.result ≡ node_from c.args.owner c.args.file.now.last =
    c.from_saved-node.ensures ∙ ap (node_from c.args.owner) c.in_ok-last.ensures.saved in
    on_ok_stored c.answer_stream-answered.result
    (λ stored h. received_as _ _ _ _ _
    (answers_of_sent _ _ _ _ start _ _ (c.answer_stream-answered.ensures.last stored)) h)
    c.answer_stream-answered.ensures.ok

pub returns-clause-frame_fault : goal.returns-clause-frame_fault
returns-clause-frame_fault g c =
    let start : c.from_saved-node.result ≡ node_from c.args.owner c.args.file.now.last =
    c.from_saved-node.ensures ∙ ap (node_from c.args.owner) c.in_ok-last.ensures.saved in
    on_fault_stored (λ r. r ≡ refusals.FrameFault) no_frame_in_store c.answer_stream-answered.result
    (λ stored r h. (
      h.0,
      h.1,
      received_as _ _ _ _ _
          (answers_of_sent _ _ _ _ start _ _ (c.answer_stream-answered.ensures.last stored)) h.2,
    ))
    (IfErr-weaker c.answer_stream-answered.result _ _ (λ r h. h.frame_fault) c.answer_stream-answered.ensures.err)

pub returns-clause-read_fault : goal.returns-clause-read_fault
returns-clause-read_fault g c =
    let start : c.from_saved-node.result ≡ node_from c.args.owner c.args.file.now.last =
    c.from_saved-node.ensures ∙ ap (node_from c.args.owner) c.in_ok-last.ensures.saved in
    on_fault_stored (λ r. r ≡ refusals.ReadFault) no_read_in_store c.answer_stream-answered.result
    (λ stored r h. (
      h.0,
      h.1,
      received_as _ _ _ _ _
          (answers_of_sent _ _ _ _ start _ _ (c.answer_stream-answered.ensures.last stored)) h.2,
    ))
    (IfErr-weaker c.answer_stream-answered.result _ _ (λ r h. h.read_fault) c.answer_stream-answered.ensures.err)

pub returns-clause-unsaved : goal.returns-clause-unsaved
returns-clause-unsaved g c =
    let start : c.from_saved-node.result ≡ node_from c.args.owner c.args.file.now.last =
    c.from_saved-node.ensures ∙ ap (node_from c.args.owner) c.in_ok-last.ensures.saved in
    IfErr-weaker c.answer_stream-answered.result _ _
    (λ r h e. let it = h e in
    (_, _, _, received_as _ _ _ _ _ (answers_but_last _ _ _ _ start it.0 _) it.2, it.3))
    (IfErr-weaker c.answer_stream-answered.result _ _ (λ r h. h.unsaved) c.answer_stream-answered.ensures.err)

pub returns-clause-cut_short : goal.returns-clause-cut_short
returns-clause-cut_short g c =
    let start : c.from_saved-node.result ≡ node_from c.args.owner c.args.file.now.last =
    c.from_saved-node.ensures ∙ ap (node_from c.args.owner) c.in_ok-last.ensures.saved in
    on_fault_stored IsWritingFault send_no_store c.answer_stream-answered.result
    (λ stored r h. (
      h.0,
      received_as _ _ _ _ _
          (answers_of_sent _ _ _ _ start _ _ (c.answer_stream-answered.ensures.last stored)) h.1,
    ))
    (IfErr-weaker c.answer_stream-answered.result _ _ (λ r h. h.cut_short) c.answer_stream-answered.ensures.err)

pub returns-in_err-last-clause-rows : goal.returns-in_err-last-clause-rows
returns-in_err-last-clause-rows g c stored = preserved_still g.S.Store c.args.file.now

pub returns-clause-fault : goal.returns-clause-fault
returns-clause-fault g c =
    IfErr-weaker c.answer_stream-answered.result _ _ (λ r h. h.fault) c.answer_stream-answered.ensures.err

-- what runs has not stopped
runs_yet : (stopped : Bool) → stopped ≡ false → IsTrue stopped → ⊥
runs_yet stopped runs ended = cc

pub returns-clause-running : goal.returns-clause-running
returns-clause-running g c =
    IfErr-weaker c.answer_stream-answered.result _ _ (λ r closed is. runs_yet _ c.requires.running (closed is))
    c.answer_stream-answered.ensures.closed
