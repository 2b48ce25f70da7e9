use Rattle.desk_follow.proofs.node_stream.open_stream.Goals as goal

pub returns-clause-sealed : goal.returns-clause-sealed
returns-clause-sealed g c = λ within. rw (← c.node_address.ensures.port within) c.dialled.ensures.sealed
