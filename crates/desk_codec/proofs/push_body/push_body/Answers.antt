use Rattle.std.proofs.Common.{FitsSigned, rules}
use Rattle.std.specs.Int.{w64}
use Rattle.std.proofs.lemmas.Int.{to_z-of_z}
use Rattle.desk_codec.specs.Spelling.{body_spelling}
use Rattle.desk_codec.proofs.push_body.push_body.Goals as goal

pub returns-in-Open : goal.returns-in-Open
unfolding body_spelling
returns-in-Open c =
    let m = c.in-Open in
    let range : FitsSigned w64 m.at = search rules in
    rw m.is (rw (to_z-of_z w64 m.at range) at c.push_open.ensures)

pub returns-in-AddCall : goal.returns-in-AddCall
unfolding body_spelling
returns-in-AddCall c =
    let m = c.in-AddCall in
    let range : FitsSigned w64 m.at = search rules in
    rw m.is (rw (to_z-of_z w64 m.at range) at c.push_of_incident_and_call.ensures)

pub returns-in-Link : goal.returns-in-Link
unfolding body_spelling
returns-in-Link c =
    let m = c.in-Link in
    let range : FitsSigned w64 m.at = search rules in
    rw m.is (rw (to_z-of_z w64 m.at range) at c.push_of_two_incidents.ensures)

pub returns-in-Unlink : goal.returns-in-Unlink
unfolding body_spelling
returns-in-Unlink c =
    let m = c.in-Unlink in
    let range : FitsSigned w64 m.at = search rules in
    rw m.is (rw (to_z-of_z w64 m.at range) at c.push_of_two_incidents-in-Unlink.ensures)

pub returns-in-Merge : goal.returns-in-Merge
unfolding body_spelling
returns-in-Merge c =
    let m = c.in-Merge in
    let range : FitsSigned w64 m.at = search rules in
    rw m.is (rw (to_z-of_z w64 m.at range) at c.push_of_two_incidents-in-Merge.ensures)

pub returns-in-Split : goal.returns-in-Split
unfolding body_spelling
returns-in-Split c =
    let m = c.in-Split in
    let range : FitsSigned w64 m.at = search rules in
    rw m.is (rw (to_z-of_z w64 m.at range) at c.push_split.ensures)

pub returns-in-Clear : goal.returns-in-Clear
unfolding body_spelling
returns-in-Clear c =
    let m = c.in-Clear in
    let range : FitsSigned w64 m.at = search rules in
    rw m.is (rw (to_z-of_z w64 m.at range) at c.push_of_incident.ensures)

pub returns-in-Reopen : goal.returns-in-Reopen
unfolding body_spelling
returns-in-Reopen c =
    let m = c.in-Reopen in
    let range : FitsSigned w64 m.at = search rules in
    rw m.is (rw (to_z-of_z w64 m.at range) at c.push_of_incident-in-Reopen.ensures)

pub returns-in-Note : goal.returns-in-Note
unfolding body_spelling
returns-in-Note c =
    let m = c.in-Note in
    let range : FitsSigned w64 m.at = search rules in
    rw m.is (rw (to_z-of_z w64 m.at range) at c.push_note.ensures)

pub returns-in-SignOn : goal.returns-in-SignOn
unfolding body_spelling
returns-in-SignOn c =
    let m = c.in-SignOn in
    let range : FitsSigned w64 m.at = search rules in
    rw m.is (rw (to_z-of_z w64 m.at range) at c.push_of_unit.ensures)

pub returns-in-SignOff : goal.returns-in-SignOff
unfolding body_spelling
returns-in-SignOff c =
    let m = c.in-SignOff in
    let range : FitsSigned w64 m.at = search rules in
    rw m.is (rw (to_z-of_z w64 m.at range) at c.push_of_unit-in-SignOff.ensures)

pub returns-in-Assign : goal.returns-in-Assign
unfolding body_spelling
returns-in-Assign c =
    let m = c.in-Assign in
    let range : FitsSigned w64 m.at = search rules in
    rw m.is (rw (to_z-of_z w64 m.at range) at c.push_of_unit_and_incident.ensures)

pub returns-in-SetStatus : goal.returns-in-SetStatus
unfolding body_spelling
returns-in-SetStatus c =
    let m = c.in-SetStatus in
    let range : FitsSigned w64 m.at = search rules in
    rw m.is (rw (to_z-of_z w64 m.at range) at c.push_set_status.ensures)

pub returns-in-Release : goal.returns-in-Release
unfolding body_spelling
returns-in-Release c =
    let m = c.in-Release in
    let range : FitsSigned w64 m.at = search rules in
    rw m.is (rw (to_z-of_z w64 m.at range) at c.push_of_unit-in-Release.ensures)

pub returns-in-StandBy : goal.returns-in-StandBy
unfolding body_spelling
returns-in-StandBy c =
    let m = c.in-StandBy in
    let range : FitsSigned w64 m.at = search rules in
    rw m.is (rw (to_z-of_z w64 m.at range) at c.push_of_unit_and_incident-in-StandBy.ensures)

pub returns-in-StandDown : goal.returns-in-StandDown
unfolding body_spelling
returns-in-StandDown c =
    let m = c.in-StandDown in
    let range : FitsSigned w64 m.at = search rules in
    rw m.is (rw (to_z-of_z w64 m.at range) at c.push_of_unit-in-StandDown.ensures)

pub returns-in-Replace : goal.returns-in-Replace
unfolding body_spelling
returns-in-Replace c =
    let m = c.in-Replace in
    let range : FitsSigned w64 m.at = search rules in
    rw m.is (rw (to_z-of_z w64 m.at range) at c.push_replace.ensures)
