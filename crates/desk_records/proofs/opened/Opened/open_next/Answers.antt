use Rattle.std.proofs.Common.{is_some, ap}
use Rattle.desk_records.proofs.Opening.{end_left}
use Rattle.desk_records.proofs.opened.Opened.open_next.Goals as goal

pub returns-in-None-clause-end : goal.returns-in-None-clause-end
returns-in-None-clause-end g c = λ _.
    let ended = c.in_ok-hold_record.ensures.end (ap is_some c.in-None.is) in
    let self = c.hold_record.new.self in
    end_left self.key.block.value self.count self.room.items self.from self.until self.held
    (g.R.Read.remaining self.inner) c.hold_record.ensures.given ended.0 ended.1
