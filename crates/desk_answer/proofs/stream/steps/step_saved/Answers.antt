use Rattle.std.proofs.Common.{map, ◌≡◌, ℕ, Err, inl, inr, refl, sym, ap, subst, ◌∙◌}
use Rattle.std.proofs.lemmas.Result.{err_from_is_err_and}
use Rattle.desk_types.specs.declared.packet.Message.{Message}
use Rattle.desk_types.specs.declared.refusal.Refusal.TheVariants as refusals
use Rattle.desk_log.specs.SavedValue.{SavedValue}
use Rattle.desk_node.specs.NodeValue.{NodeValue}
use Rattle.desk_answer.specs.AnswerFile.{LeavesFile, IsEither}
use Rattle.desk_log.proofs.KnownPrefix.{front_after, memory_no_store}
use Rattle.desk_saved.proofs.SameFile.{preserved_by_save}
use Rattle.desk_answer.proofs.FileAfterAnswers.{saved_once, refused_once, left_by_save, store_refusal}
use Rattle.desk_answer.proofs.FileAfterAnswers.{unsaved_never, followed_nothing, followed_still}
use Rattle.desk_answer.proofs.StepsInOrder.{stepped_once}
use Rattle.desk_answer.proofs.stream.steps.step_saved.Goals as goal

pub save_after-requires-clause-within : goal.save_after-requires-clause-within
save_after-requires-clause-within g c =
    (front_after c.commit-before.result c.saved.result.now c.args.node.now.saved c.args.file.now.last
    c.step.new.self.saved c.saved-2.result.now c.commit-before.ensures.value c.commit-before.ensures.within
    c.saved.ensures c.requires.last c.saved-2.ensures c.step.ensures.committed).0

pub save_after-requires-clause-same : goal.save_after-requires-clause-same
save_after-requires-clause-same g c =
    (front_after c.commit-before.result c.saved.result.now c.args.node.now.saved c.args.file.now.last
    c.step.new.self.saved c.saved-2.result.now c.commit-before.ensures.value c.commit-before.ensures.within
    c.saved.ensures c.requires.last c.saved-2.ensures c.step.ensures.committed).1

pub returns-in_err-save_after-clause-unsaved : goal.returns-in_err-save_after-clause-unsaved
returns-in_err-save_after-clause-unsaved g c =
    let p = err_from_is_err_and c.from_residual-in_err-save_after.result
    c.from_residual-in_err-save_after.ensures.1 in
    let node = c.args.node.now in
    let file = c.args.file.now in
    let new = c.save_after.new.self in
    rw p.1 (λ _. (
      map (λ (sent : ℕ × Message). sent.1) c.in_ok-packets.field-0.packets.items,
      stepped_once node c.step.new.self c.args.packet c.in_ok-packets.field-0.packets.items
          c.in_ok-packets.field-0.answers.items c.in_ok-packets.ensures.step c.step.ensures.same,
      subst (λ (s : SavedValue). LeavesFile g.S.Store file new (IsEither node.saved s)) c.saved-2.ensures
          (left_by_save g.S.Store file new node.saved c.saved-2.result.now c.save_after.ensures.same_own
          c.save_after.ensures.clean (λ open_ trees leaves. g.met.S.Store.settled _ trees open_ leaves) c.requires.last
          (λ t. (c.save_after.ensures.stopped t).1) c.save_after.ensures.stop),
    ))

pub returns-in_err-save_after-clause-file : goal.returns-in_err-save_after-clause-file
returns-in_err-save_after-clause-file g c =
    let p = err_from_is_err_and c.from_residual-in_err-save_after.result
    c.from_residual-in_err-save_after.ensures.1 in
    let r = c.in_err-save_after.field-0.0 in
    rw (p.1, p.2) (refused_once g.S.Store c.args.file.now c.save_after.new.self c.args.node.now.saved
    c.step.new.self.saved c.save_after.ensures.same_own c.save_after.ensures.clean r
    (λ t. let e = (c.in_err-save_after.ensures.stopped t).0 in let is : r ≡ refusals.NodeStopped = cc in is)
    c.in_err-save_after.ensures.fault)

pub returns-clause-file : goal.returns-clause-file
returns-clause-file g c =
    let h = c.in_ok-save_after.ensures.last in
    saved_once g.S.Store c.args.file.now c.save_after.new.self c.args.node.now.saved c.step.new.self.saved
    c.save_after.ensures.same_own c.save_after.ensures.clean c.in_ok-packets.field-0.packets
    (h.0 ∙ c.saved-2.ensures, h.1, h.2) (preserved_by_save g.S.Store _ _ _ _ c.in_ok-save_after.ensures)

pub returns-clause-ok : goal.returns-clause-ok
returns-clause-ok g c =
    stepped_once c.args.node.now c.step.new.self c.args.packet c.in_ok-packets.field-0.packets.items
    c.in_ok-packets.field-0.answers.items c.in_ok-packets.ensures.step c.step.ensures.same

pub returns-clause-same : goal.returns-clause-same
returns-clause-same g c = c.step.ensures.same

pub returns-clause-fault : goal.returns-clause-fault
returns-clause-fault g c = tt

pub returns-clause-refused : goal.returns-clause-refused
returns-clause-refused g c = tt

pub returns-clause-unsaved : goal.returns-clause-unsaved
returns-clause-unsaved g c = tt

pub returns-in_err-save_after-clause-ok : goal.returns-in_err-save_after-clause-ok
returns-in_err-save_after-clause-ok g c =
    let p = err_from_is_err_and c.from_residual-in_err-save_after.result
    c.from_residual-in_err-save_after.ensures.1 in
    rw p.1 tt

pub returns-in_err-save_after-clause-same : goal.returns-in_err-save_after-clause-same
returns-in_err-save_after-clause-same g c = c.step.ensures.same

pub returns-in_err-save_after-clause-refused : goal.returns-in_err-save_after-clause-refused
returns-in_err-save_after-clause-refused g c =
    let p = err_from_is_err_and c.from_residual-in_err-save_after.result
    c.from_residual-in_err-save_after.ensures.1 in
    let r = c.in_err-save_after.field-0.0 in
    rw (p.1, p.2) (λ (e : r ≡ refusals.WantOfMemory). absurd (memory_no_store r e (store_refusal
    c.args.file.now.stopped r
    (λ t. let e = (c.in_err-save_after.ensures.stopped t).0 in let is : r ≡ refusals.NodeStopped = cc in is)
    (λ f. (c.in_err-save_after.ensures.fault f).0))))

pub returns-in_err-save_after-clause-fault : goal.returns-in_err-save_after-clause-fault
returns-in_err-save_after-clause-fault g c =
    let p = err_from_is_err_and c.from_residual-in_err-save_after.result
    c.from_residual-in_err-save_after.ensures.1 in
    let r = c.in_err-save_after.field-0.0 in
    rw (p.1, p.2) (inr (store_refusal c.args.file.now.stopped r
    (λ t. let e = (c.in_err-save_after.ensures.stopped t).0 in let is : r ≡ refusals.NodeStopped = cc in is)
    (λ f. (c.in_err-save_after.ensures.fault f).0)))

pub returns-in_err-packets-clause-ok : goal.returns-in_err-packets-clause-ok
returns-in_err-packets-clause-ok g c =
    let p = err_from_is_err_and c.from_residual.result c.from_residual.ensures.1 in
    rw p.1 tt

pub returns-in_err-packets-clause-same : goal.returns-in_err-packets-clause-same
returns-in_err-packets-clause-same g c = c.step.ensures.same

pub returns-in_err-packets-clause-refused : goal.returns-in_err-packets-clause-refused
returns-in_err-packets-clause-refused g c =
    let p = err_from_is_err_and c.from_residual.result c.from_residual.ensures.1 in
    rw p.1 (λ e. (c.in_err-packets.ensures.err, refl))

pub returns-in_err-packets-clause-fault : goal.returns-in_err-packets-clause-fault
returns-in_err-packets-clause-fault g c =
    let p = err_from_is_err_and c.from_residual.result c.from_residual.ensures.1 in
    rw p.1 (inl p.2)

pub returns-in_err-packets-clause-unsaved : goal.returns-in_err-packets-clause-unsaved
returns-in_err-packets-clause-unsaved g c =
    let p = err_from_is_err_and c.from_residual.result c.from_residual.ensures.1 in
    unsaved_never c.from_residual.result _ p.0 p.1 p.2

pub returns-in_err-packets-clause-file : goal.returns-in_err-packets-clause-file
returns-in_err-packets-clause-file g c =
    let p = err_from_is_err_and c.from_residual.result c.from_residual.ensures.1 in
    let file = c.args.file.now in
    rw p.1 (followed_still g.S.Store file file c.step.new.self.saved (tt {0})
    (followed_nothing g.S.Store file c.step.new.self.saved (tt {0})
    (c.requires.last ∙ sym (ap (λ (n : NodeValue). n.saved) c.in_err-packets.ensures.err)))
    (Err p.0) (memory_no_store p.0 p.2))
