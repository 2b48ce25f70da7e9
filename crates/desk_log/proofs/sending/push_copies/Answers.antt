use Rattle.std.proofs.Common.{◌∙◌, sym, ap, append-nil}
use Rattle.desk_log.specs.Change.{to_others}
use Rattle.desk_log.proofs.OtherNodes.{copies_but_own, copies_one_more, copies_all, before_copies}
use Rattle.desk_log.proofs.sending.push_copies.Goals as goal
use Rattle.desk_log.proofs.sending.push_copies.Goals.{then-j-member+in_ok-push_copy, else-j-member}

pub loop-j-init : goal.loop-j-init
loop-j-init c = sym (append-nil c.args.packets.now.items)

pub loop-j-preserved : goal.loop-j-preserved
loop-j-preserved c = elim c.if-j-member.branch [
  | then-j-member+in_ok-push_copy w ↦
      copies_one_more _ _ _ _ c.loop-j.packets.items _ w.if-j-member.true c.loop-j.invariant
      (ap (λ v. v.items) w.packets-is ∙ w.in_ok-push_copy.ensures.ok)
  | else-j-member w ↦
      copies_but_own _ _ _ _ _ w.if-j-member.false (ap (λ v. v.items) w.packets-is ∙ c.loop-j.invariant)
]

pub returns-in_err-push_copy-clause-err : goal.returns-in_err-push_copy-clause-err
returns-in_err-push_copy-clause-err c =
    before_copies c.from_residual.result _ _ _ _ c.loop-j.invariant c.in_err-push_copy.ensures.err

pub returns-clause-ok : goal.returns-clause-ok
unfolding to_others
returns-clause-ok c = copies_all _ _ _ _ _ _ c.loop-j-test.false c.loop-j.auto.j-end c.loop-j.invariant
