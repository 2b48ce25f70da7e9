use Rattle.desk_epoch_files.proofs.epoch_files.open_state.Goals as goal

pub returns-in-Ok-clause-opened : goal.returns-in-Ok-clause-opened
returns-in-Ok-clause-opened g c = record {
  asked = c.is_of_epoch.new.connection;
  marked = λ clean. c.in-Ok-true.ensures.marked clean c.in-Ok-true.field-0-test;
  opened = c.in-Ok.ensures.opened;
}
