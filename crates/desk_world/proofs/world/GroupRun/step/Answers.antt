use Rattle.std.proofs.Common.{rules}
use Rattle.std.proofs.lemmas.Option.{slice_get-get_or}
use Rattle.std.proofs.lemmas.Result.{IfOk-weaker}
use Rattle.desk_world.proofs.Groups.{acts_preserved}
use Rattle.desk_world.proofs.world.GroupRun.step.Goals as goal

pub returns : goal.returns
returns c = IfOk-weaker c.keep.result _ _
    (λ output preserved domain n. acts_preserved domain n c.args.node c.args.self.now c.index_mut-member.result.now
    c.args.event
    c.step.new.self _ _ c.keep.new.self output (search (rules, slice_get-get_or)) c.in_ok-step.ensures.step
    c.in_ok-step.ensures.same (rw (← c.id-id.ensures, ← c.self.view_is) preserved))
    c.keep.ensures
