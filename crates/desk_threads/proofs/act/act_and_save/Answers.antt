use Rattle.std.proofs.Common.{ap, length}
use Rattle.desk_threads.proofs.act.act_and_save.Goals as goal

pub save-requires : goal.save-requires
save-requires g c =
    (c.args.replica.now, c.requires, c.do_item.ensures.follows, ap length c.committed.ensures)
