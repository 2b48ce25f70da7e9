use Rattle.desk_saved.proofs.schema.is_desk.Goals as goal

pub returns-clause-desk : goal.returns-clause-desk
returns-clause-desk g c = rw c.schema.ensures.value at c.is_desk_schema.ensures
