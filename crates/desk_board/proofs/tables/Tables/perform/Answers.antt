use Rattle.std.proofs.Common.{rules}
use Rattle.desk_board.specs.Execute.{refusal, effect, done}
use Rattle.desk_board.specs.Tables.{board_in}
use Rattle.desk_board.proofs.VerbResults.{settles_incidents, settles_units}
use Rattle.desk_board.proofs.tables.Tables.perform.Goals as goal

pub returns-in-AddCall-clause-settles : goal.returns-in-AddCall-clause-settles
unfolding refusal effect done
returns-in-AddCall-clause-settles c =
    rw c.in-AddCall.is (settles_incidents (board_in c.args.self.now) _ _ _ c.add_call.new.self c.add_call.result
    c.add_call.ensures.settles)

pub returns-in-Link-clause-settles : goal.returns-in-Link-clause-settles
unfolding refusal effect done
returns-in-Link-clause-settles c =
    rw c.in-Link.is (settles_incidents (board_in c.args.self.now) _ _ _ c.link.new.self c.link.result
    c.link.ensures.settles)

pub returns-in-Unlink-clause-settles : goal.returns-in-Unlink-clause-settles
unfolding refusal effect done
returns-in-Unlink-clause-settles c =
    rw c.in-Unlink.is (settles_incidents (board_in c.args.self.now) _ _ _ c.unlink.new.self c.unlink.result
    c.unlink.ensures.settles)

pub returns-in-Merge-clause-settles : goal.returns-in-Merge-clause-settles
unfolding refusal effect done
returns-in-Merge-clause-settles c =
    rw c.in-Merge.is c.merge.ensures.settles

pub returns-in-Clear-clause-settles : goal.returns-in-Clear-clause-settles
unfolding refusal effect done
returns-in-Clear-clause-settles c =
    rw c.in-Clear.is c.clear.ensures.settles

pub returns-in-Reopen-clause-settles : goal.returns-in-Reopen-clause-settles
unfolding refusal effect done
returns-in-Reopen-clause-settles c =
    rw c.in-Reopen.is (settles_incidents (board_in c.args.self.now) _ _ _ c.reopen.new.self c.reopen.result
    c.reopen.ensures.settles)

pub returns-in-Note-clause-settles : goal.returns-in-Note-clause-settles
unfolding refusal effect done
returns-in-Note-clause-settles c =
    rw c.in-Note.is (settles_incidents (board_in c.args.self.now) _ _ _ c.note.new.self c.note.result
    c.note.ensures.settles)

pub returns-in-SignOn-clause-settles : goal.returns-in-SignOn-clause-settles
unfolding refusal effect done
returns-in-SignOn-clause-settles c =
    rw c.in-SignOn.is (settles_units (board_in c.args.self.now) _ _ _ c.sign_on.new.self c.sign_on.result
    c.sign_on.ensures.settles)

pub returns-in-SignOff-clause-settles : goal.returns-in-SignOff-clause-settles
unfolding refusal effect done
returns-in-SignOff-clause-settles c =
    rw c.in-SignOff.is c.sign_off.ensures.settles

pub returns-in-Assign-clause-settles : goal.returns-in-Assign-clause-settles
unfolding refusal effect done
returns-in-Assign-clause-settles c =
    rw c.in-Assign.is c.assign.ensures.settles

pub returns-in-SetStatus-clause-settles : goal.returns-in-SetStatus-clause-settles
unfolding refusal effect done
returns-in-SetStatus-clause-settles c =
    rw c.in-SetStatus.is (settles_units (board_in c.args.self.now) _ _ _ c.set_status.new.self c.set_status.result
    c.set_status.ensures.settles)

pub returns-in-Release-clause-settles : goal.returns-in-Release-clause-settles
unfolding refusal effect done
returns-in-Release-clause-settles c =
    rw c.in-Release.is (settles_units (board_in c.args.self.now) _ _ _ c.release.new.self c.release.result
    c.release.ensures.settles)

pub returns-in-StandBy-clause-settles : goal.returns-in-StandBy-clause-settles
unfolding refusal effect done
returns-in-StandBy-clause-settles c =
    rw c.in-StandBy.is c.stand_by.ensures.settles

pub returns-in-StandDown-clause-settles : goal.returns-in-StandDown-clause-settles
unfolding refusal effect done
returns-in-StandDown-clause-settles c =
    rw c.in-StandDown.is (settles_units (board_in c.args.self.now) _ _ _ c.stand_down.new.self c.stand_down.result
    c.stand_down.ensures.settles)

pub returns-in-Open-clause-settles : goal.returns-in-Open-clause-settles
unfolding refusal effect done
returns-in-Open-clause-settles c = rw c.in-Open.is (search rules)

pub returns-in-Split-clause-settles : goal.returns-in-Split-clause-settles
unfolding refusal effect done
returns-in-Split-clause-settles c = rw c.in-Split.is (search rules)

pub returns-in-Replace-clause-settles : goal.returns-in-Replace-clause-settles
unfolding refusal effect done
returns-in-Replace-clause-settles c = rw c.in-Replace.is (search rules)
