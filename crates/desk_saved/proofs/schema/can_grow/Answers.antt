use Rattle.desk_saved.proofs.schema.can_grow.Goals as goal

pub returns : goal.returns
returns g c = rw c.schema.ensures.value at c.has_room_for_clients.ensures
