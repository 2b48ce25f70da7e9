use Rattle.desk_metrics.proofs.text.write_bucket.Goals as goal

pub returns : goal.returns
returns g c = c.write_parts.ensures.ok
