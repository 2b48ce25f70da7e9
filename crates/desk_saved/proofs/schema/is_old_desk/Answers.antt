use Rattle.desk_saved.proofs.schema.is_old_desk.Goals as goal

pub returns : goal.returns
returns g c = rw c.schema.ensures.value at c.has_old_tables.ensures
