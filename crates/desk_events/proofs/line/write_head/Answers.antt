use Rattle.desk_events.proofs.line.write_head.Goals as goal

pub returns : goal.returns
returns g c = c.write_parts.ensures.ok
