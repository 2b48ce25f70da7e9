use Rattle.std.specs.Prelude.{flat_map}
use Rattle.desk_metrics.specs.Metrics.{refused_head, refused_line}
use Rattle.desk_metrics.proofs.Written.{followed}
use Rattle.desk_metrics.proofs.text.write_refused.Goals as goal

pub returns : goal.returns
returns g c =
    followed _ _ _ refused_head (flat_map refused_line c.args.rows.now) _ c.in_ok-write_parts.ensures.ok
    c.write_statuses.ensures
