use Rattle.std.proofs.Common.{inl}
use Rattle.desk_connections.proofs.connections.take_keyed.Goals as goal

pub returns : goal.returns
returns g c = inl (_, (_, c.in-Ok.ensures.admitted), c.take_admitted.ensures)
