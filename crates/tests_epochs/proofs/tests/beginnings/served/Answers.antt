use Rattle.std.proofs.Common.{List, length, ap}
use Rattle.desk_types.specs.declared.command.Entry.{Entry}
use Rattle.tests_epochs.proofs.tests.beginnings.served.Goals as goal

pub save-requires : goal.save-requires
save-requires c = (
  c.args.running.replica,
  c.args.running.saved,
  c.do_item.ensures.follows,
  ap (λ (entries : List Entry). length entries) c.committed.ensures,
)
