use Rattle.std.proofs.Common.{◌+◌, ◌∙◌}
use Rattle.desk_types.specs.declared.limits.TheConstants.{SESSION_PORTS}
use Rattle.desk_connections.specs.Ports.{IsPeersEndpoint, IsSessionsEndpoint}
use Rattle.desk_connections.proofs.Keyed.{bound_by, first_fits}
use Rattle.desk_connections.proofs.ports.NodePorts.with_keys.Goals as goal

pub returns-clause-bound : goal.returns-clause-bound
returns-clause-bound c fits =
    let owner = c.args.owner.now in
    let first = c.args.first in
    let port = first + owner.id in
    let peers = c.of_peers-of_port.ensures in
    let sessions = c.of_sessions-of_port.ensures in (
      bound_by _ _ (IsPeersEndpoint owner.id owner.n owner.domain port) c.with_key-peers.ensures.endpoint (
        peers.role,
        (
          peers.nodes.0,
          peers.nodes.1,
          peers.nodes.2 ∙ c.peer_port-port.ensures (first_fits (first + owner.id) fits),
        ),
        cc,
      ),
      bound_by _ _ (IsSessionsEndpoint (first + owner.id + SESSION_PORTS)) c.with_key-sessions.ensures.endpoint
          (sessions.role, (sessions.nodes.0, sessions.nodes.1, sessions.nodes.2 ∙ c.session_port.ensures fits)),
    )
