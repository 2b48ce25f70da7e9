use Rattle.std.proofs.Common.{FitsSigned, rules}
use Rattle.std.specs.Int.{w64}
use Rattle.std.proofs.lemmas.Int.{to_z-of_z}
use Rattle.desk_types.proofs.command.Command.copy.Goals as goal

pub returns-in-Open : goal.returns-in-Open
returns-in-Open c =
    let m = c.in-Open in
    let range : FitsSigned w64 m.at = search rules in
    rw m.is (rw (to_z-of_z w64 m.at range) at c.copy_open.ensures)

pub returns-in-AddCall : goal.returns-in-AddCall
returns-in-AddCall c =
    let m = c.in-AddCall in
    let range : FitsSigned w64 m.at = search rules in
    rw m.is (rw (to_z-of_z w64 m.at range) at c.copy_add_call.ensures)

pub returns-in_ok-incident-in-Link : goal.returns-in_ok-incident-in-Link
returns-in_ok-incident-in-Link c =
    let m = c.in-Link in
    let range : FitsSigned w64 m.at = search rules in
    let same = c.in_ok-incident-in-Link.ensures in
    rw (m.is, to_z-of_z w64 m.at range, same.0, same.1)

pub returns-in_ok-incident-in-Unlink : goal.returns-in_ok-incident-in-Unlink
returns-in_ok-incident-in-Unlink c =
    let m = c.in-Unlink in
    let range : FitsSigned w64 m.at = search rules in
    let same = c.in_ok-incident-in-Unlink.ensures in
    rw (m.is, to_z-of_z w64 m.at range, same.0, same.1)

pub returns-in_ok-incident-in-Merge : goal.returns-in_ok-incident-in-Merge
returns-in_ok-incident-in-Merge c =
    let m = c.in-Merge in
    let range : FitsSigned w64 m.at = search rules in
    let same = c.in_ok-incident-in-Merge.ensures in
    rw (m.is, to_z-of_z w64 m.at range, same.0, same.1)

pub returns-in-Split : goal.returns-in-Split
returns-in-Split c =
    let m = c.in-Split in
    let range : FitsSigned w64 m.at = search rules in
    rw m.is (rw (to_z-of_z w64 m.at range) at c.copy_split.ensures)

pub returns-in_ok-copy-in-Clear : goal.returns-in_ok-copy-in-Clear
returns-in_ok-copy-in-Clear c =
    let m = c.in-Clear in
    let range : FitsSigned w64 m.at = search rules in
    rw (m.is, to_z-of_z w64 m.at range, c.in_ok-copy-in-Clear.ensures)

pub returns-in_ok-copy-in-Reopen : goal.returns-in_ok-copy-in-Reopen
returns-in_ok-copy-in-Reopen c =
    let m = c.in-Reopen in
    let range : FitsSigned w64 m.at = search rules in
    rw (m.is, to_z-of_z w64 m.at range, c.in_ok-copy-in-Reopen.ensures)

pub returns-in-Note : goal.returns-in-Note
returns-in-Note c =
    let m = c.in-Note in
    let range : FitsSigned w64 m.at = search rules in
    rw m.is (rw (to_z-of_z w64 m.at range) at c.copy_note.ensures)

pub returns-in_ok-copy-in-SignOn : goal.returns-in_ok-copy-in-SignOn
returns-in_ok-copy-in-SignOn c =
    let m = c.in-SignOn in
    let range : FitsSigned w64 m.at = search rules in
    rw (m.is, to_z-of_z w64 m.at range, c.in_ok-copy-in-SignOn.ensures)

pub returns-in_ok-copy-in-SignOff : goal.returns-in_ok-copy-in-SignOff
returns-in_ok-copy-in-SignOff c =
    let m = c.in-SignOff in
    let range : FitsSigned w64 m.at = search rules in
    rw (m.is, to_z-of_z w64 m.at range, c.in_ok-copy-in-SignOff.ensures)

pub returns-in-Assign : goal.returns-in-Assign
returns-in-Assign c =
    let m = c.in-Assign in
    let range : FitsSigned w64 m.at = search rules in
    rw m.is (rw (to_z-of_z w64 m.at range) at c.copy_assign.ensures)

pub returns-in_ok-copy-in-SetStatus : goal.returns-in_ok-copy-in-SetStatus
returns-in_ok-copy-in-SetStatus c =
    let m = c.in-SetStatus in
    let range : FitsSigned w64 m.at = search rules in
    rw (m.is, to_z-of_z w64 m.at range, c.in_ok-copy-in-SetStatus.ensures)

pub returns-in_ok-copy-in-Release : goal.returns-in_ok-copy-in-Release
returns-in_ok-copy-in-Release c =
    let m = c.in-Release in
    let range : FitsSigned w64 m.at = search rules in
    rw (m.is, to_z-of_z w64 m.at range, c.in_ok-copy-in-Release.ensures)

pub returns-in-StandBy : goal.returns-in-StandBy
returns-in-StandBy c =
    let m = c.in-StandBy in
    let range : FitsSigned w64 m.at = search rules in
    rw m.is (rw (to_z-of_z w64 m.at range) at c.copy_stand_by.ensures)

pub returns-in_ok-copy-in-StandDown : goal.returns-in_ok-copy-in-StandDown
returns-in_ok-copy-in-StandDown c =
    let m = c.in-StandDown in
    let range : FitsSigned w64 m.at = search rules in
    rw (m.is, to_z-of_z w64 m.at range, c.in_ok-copy-in-StandDown.ensures)

pub returns-in-Replace : goal.returns-in-Replace
returns-in-Replace c =
    let m = c.in-Replace in
    let range : FitsSigned w64 m.at = search rules in
    rw (m.is, to_z-of_z w64 m.at range)
