use Rattle.std.proofs.Common.{◌++◌}
use Rattle.desk_metrics.specs.Metrics.{up_head, up_line, place_head, place_line, samples_from}
use Rattle.desk_metrics.proofs.Written.{followed}
use Rattle.desk_metrics.proofs.text.write_nodes.Goals as goal

pub returns : goal.returns
returns g c =
    let ups = samples_from up_line 0 c.args.places.now in
    let places = samples_from place_line 0 c.args.places.now in
    followed _ _ _ up_head (ups ++ (place_head ++ places)) _ c.in_ok-write_parts.ensures.ok
    (followed _ _ _ ups (place_head ++ places) _ c.in_ok-write_ups.ensures
    (followed _ _ _ place_head places _ c.in_ok-write_parts-2.ensures.ok c.write_places.ensures))
