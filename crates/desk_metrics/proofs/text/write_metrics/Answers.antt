use Rattle.std.proofs.Common.{◌++◌}
use Rattle.desk_metrics.specs.Metrics.{nodes_text, commands_text, latency_text, connections_text, refused_text}
use Rattle.desk_metrics.proofs.Written.{followed}
use Rattle.desk_metrics.proofs.text.write_metrics.Goals as goal

pub returns : goal.returns
returns g c =
    let counts = c.args.counts.now in
    let nodes = nodes_text c.args.places.now in
    let commands = commands_text counts in
    let latency = latency_text counts.latency in
    let connections = connections_text counts.connections in
    let refused = refused_text counts.statuses in
    followed _ _ _ nodes (commands ++ (latency ++ (connections ++ refused))) _ c.in_ok-write_nodes.ensures
    (followed _ _ _ commands (latency ++ (connections ++ refused)) _ c.in_ok-write_commands.ensures
    (followed _ _ _ latency (connections ++ refused) _ c.in_ok-write_latency.ensures
    (followed _ _ _ connections refused _ c.in_ok-write_connections.ensures c.write_refused.ensures)))
