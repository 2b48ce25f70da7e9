use Rattle.std.proofs.Common.{rules, refl, ◌∙◌}
use Rattle.desk_published.specs.Writer.{published}
use Rattle.desk_threads.proofs.KeeperRuns.{on_ok, if_ok, on_err, if_err, stays_then, stays_same}
use Rattle.desk_threads.proofs.KeeperTurns.{turns_none, turns_then, turns_to_end, turns_to_turn, end_ran}
use Rattle.desk_threads.proofs.KeeperTurns.{end_run_out}
use Rattle.desk_threads.specs.Runs.{stand}
use Rattle.desk_threads.proofs.keeper.Keeper.run_turns.Goals as goal

pub loop-init : goal.loop-init
loop-init g c = (
  turns_none g.O.Out g.R.Replica g.R.SavedReplica.saving _ _ _,
  λ works. (
    works,
    stays_same g.R.SavedReplica.saving _ _
        (λ r. g.met.R.SavedReplica.followed_keeps r r (g.met.R.Replica.follows_still r)) refl
        (c.args.self.last works),
  ),
  refl,
  refl,
)

pub loop-preserved : goal.loop-preserved
loop-preserved g c = (
  turns_then g.O.Out g.R.Replica g.R.SavedReplica.saving _ _ _ _ _ _ _ c.loop.invariant.0
      (if_ok c.turn-back.result.1 _ _ c.in-Ok-true.is c.turn-back.ensures.went (search rules)),
  λ works.
      let r = c.loop.invariant.1 works in
      let s = on_ok c.turn-back.result.1 _ _ c.in-Ok-true.is (c.turn-back.ensures.saved r.0) in
      (s.0, stays_then g.R.SavedReplica.saving _ _ _ g.met.R.SavedReplica.keeps_further r.1 s.1),
  c.turn-back.ensures.same ∙ c.loop.invariant.2,
  on_ok c.turn-back.result.1 _ _ c.in-Ok-true.is c.turn-back.ensures.still ∙ c.loop.invariant.3,
)

pub returns-in-Ok-false-clause-did : goal.returns-in-Ok-false-clause-did
returns-in-Ok-false-clause-did g c =
    end_ran g.O.Out g.R.Replica g.R.SavedReplica.saving g.met.O.Out.takes_none
    g.met.O.Out.takes_then c.args.most _ _ _ _ _
    (turns_to_end g.O.Out g.R.Replica g.R.SavedReplica.saving _ _ _ _ _ _ _ _ c.loop.invariant.0
    (if_ok c.turn-back.result.1 _ _ c.in-Ok-false.is c.turn-back.ensures.turns (search rules)))

pub returns-in-Ok-false-clause-turns : goal.returns-in-Ok-false-clause-turns
returns-in-Ok-false-clause-turns g c =
    turns_to_end g.O.Out g.R.Replica g.R.SavedReplica.saving _ _ _ _ _ _ _ _ c.loop.invariant.0
    (if_ok c.turn-back.result.1 _ _ c.in-Ok-false.is c.turn-back.ensures.turns (search rules))

pub returns-in-Ok-false-clause-ends : goal.returns-in-Ok-false-clause-ends
returns-in-Ok-false-clause-ends g c =
    end_run_out g.O.Out g.R.Replica g.R.SavedReplica.saving c.args.most _ _ _ _ _
    (turns_to_end g.O.Out g.R.Replica g.R.SavedReplica.saving _ _ _ _ _ _ _ _ c.loop.invariant.0
    (if_ok c.turn-back.result.1 _ _ c.in-Ok-false.is c.turn-back.ensures.turns (search rules)))

pub returns-in-Ok-false-clause-saved : goal.returns-in-Ok-false-clause-saved
returns-in-Ok-false-clause-saved g c = λ works.
    let r = c.loop.invariant.1 works in
    let s = on_ok c.turn-back.result.1 _ _ c.in-Ok-false.is (c.turn-back.ensures.saved r.0) in
    (s.0, stays_then g.R.SavedReplica.saving _ _ _ g.met.R.SavedReplica.keeps_further r.1 s.1)

pub returns-in-Err-clause-failed : goal.returns-in-Err-clause-failed
returns-in-Err-clause-failed g c =
    turns_to_turn g.O.Out g.R.Replica g.R.SavedReplica.saving _ _ _ _ _ _
    (stand c.loop.keeper.replica c.loop.keeper.waiting (published c.loop.keeper.writer.inner)
    c.loop.keeper.all_published c.loop.out)
    _ c.loop.invariant.0 (if_err c.turn-back.result.1 _ _ c.in-Err.is c.turn-back.ensures.failed)

pub returns-in-Err-clause-first : goal.returns-in-Err-clause-first
returns-in-Err-clause-first g c = λ works.
    if_err c.turn-back.result.1 _ _ c.in-Err.is
    (c.turn-back.ensures.first (c.loop.invariant.3 ∙ works))

pub returns-in-Err-clause-after : goal.returns-in-Err-clause-after
returns-in-Err-clause-after g c = λ stopped.
    if_err c.turn-back.result.1 _ _ c.in-Err.is
    (c.turn-back.ensures.after (c.loop.invariant.3 ∙ stopped))

pub returns-in-Err-clause-stops : goal.returns-in-Err-clause-stops
returns-in-Err-clause-stops g c = on_err c.turn-back.result.1 _ _ c.in-Err.is c.turn-back.ensures.stops
