use Rattle.desk_follow.proofs.Trying.{noted}
use Rattle.desk_follow.proofs.try_log.TryLog.note.Goals as goal

pub returns-clause-tried : goal.returns-clause-tried
returns-clause-tried c = λ text h.
    rw (← c.self.view_is) (noted c.self.inside.entries.items c.and-entries.result.items c.args.line.now
    (record { node = c.args.node; is_keyed = c.args.is_keyed; reply = c.args.reply }) text c.and-entries.ensures h)
