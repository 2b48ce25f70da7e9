use Rattle.desk_connections.proofs.links.KeyedPeer.open.Goals as goal

pub returns-in-Ok-dial : goal.returns-in-Ok-dial
returns-in-Ok-dial g c = (_, c.in-Ok-dial.ensures.sealed)
