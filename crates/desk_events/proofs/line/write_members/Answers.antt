use Rattle.desk_events.proofs.Written.{wrote_members, wrote_text, link_down_is, refused_is}
use Rattle.desk_events.proofs.line.write_members.Goals as goal

pub returns-in-Ports : goal.returns-in-Ports
returns-in-Ports g c =
    wrote_members _ _ _ _ _ c.in-Ports.is c.write_parts.ensures.ok

pub returns-in-LinkUp : goal.returns-in-LinkUp
returns-in-LinkUp g c =
    wrote_members _ _ _ _ _ c.in-LinkUp.is c.write_parts-in-LinkUp.ensures.ok

pub returns-in-LinkDown : goal.returns-in-LinkDown
returns-in-LinkDown g c =
    wrote_members _ _ _ _ _ c.in-LinkDown.is (wrote_text _ _ _ _ _ (link_down_is _ _ _ c.word.ensures)
    c.write_parts-in-LinkDown.ensures.ok)

pub returns-in-Epoch : goal.returns-in-Epoch
returns-in-Epoch g c =
    wrote_members _ _ _ _ _ c.in-Epoch.is c.write_parts-in-Epoch.ensures.ok

pub returns-in-View : goal.returns-in-View
returns-in-View g c =
    wrote_members _ _ _ _ _ c.in-View.is c.write_parts-in-View.ensures.ok

pub returns-in-Behind : goal.returns-in-Behind
returns-in-Behind g c =
    wrote_members _ _ _ _ _ c.in-Behind.is c.write_parts-in-Behind.ensures.ok

pub returns-in-Level : goal.returns-in-Level
returns-in-Level g c =
    wrote_members _ _ _ _ _ c.in-Level.is c.write_parts-in-Level.ensures.ok

pub returns-in-SlowSave : goal.returns-in-SlowSave
returns-in-SlowSave g c =
    wrote_members _ _ _ _ _ c.in-SlowSave.is c.write_parts-in-SlowSave.ensures.ok

pub returns-in-Refused : goal.returns-in-Refused
returns-in-Refused g c =
    wrote_members _ _ _ _ _ c.in-Refused.is (wrote_text _ _ _ _ _
    (refused_is _ _ _ _ c.word-in-Refused.ensures c.word-in-Refused-2.ensures) c.write_parts-in-Refused.ensures.ok)

pub returns-in-End : goal.returns-in-End
returns-in-End g c =
    wrote_members _ _ _ _ _ c.in-End.is c.write_parts-in-End.ensures.ok
