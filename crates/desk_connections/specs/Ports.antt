-- The ports of nodes, and which of them a refusal names.
use Rattle.std.specs.Prelude.{◌≡◌, ◌⊎◌, ◌+◌, ◌<◌, ℕ, ⊤, List, [], ◌∷◌, Option, IfSome, option_map}
use Rattle.sha2.specs.Sha256.{sha256}
use Rattle.desk_admission.specs.declared.endpoint.Endpoint.{Endpoint}
use Rattle.desk_admission.specs.declared.endpoint.TheConstants.{CLIENT}
use Rattle.desk_admission.specs.declared.endpoint.Role.TheVariants as roles
use Rattle.desk_admission.specs.declared.streams.KeyedPort.{KeyedPort}
use Rattle.desk_key.specs.declared.key.Key.{Key}
use Rattle.desk_types.specs.declared.owner.Owner.{Owner}
use Rattle.desk_types.specs.declared.limits.TheConstants.{SESSION_PORTS}
use Rattle.desk_connections.specs.declared.ports.NodePorts.{NodePorts}
use Rattle.desk_connections.specs.declared.ports.PortRefused.{PortRefused}
use Rattle.desk_connections.specs.declared.ports.PortRefused.TheVariants.{InUse, NotBound, WantOfMemory}

-- The port is one of the two of a node, in a group with this first port.
abbrev pub IsPortOf : ℕ → ℕ → ℕ → Type 0
IsPortOf first id port = (port ≡ first + id) ⊎ (port ≡ first + id + SESSION_PORTS)

-- These are bound to the two of a node, that for the other nodes and that for sessions.
abbrev pub HasPortsOf : ℕ → ℕ → NodePorts → Type 0
HasPortsOf first id ports =
    (ports.peers.port.value ≡ first + id) × (ports.sessions.port.value ≡ first + id + SESSION_PORTS)

-- the key of who is let in at a port, where it has one
abbrev pub port_key : Option KeyedPort → Option Key
port_key keyed = option_map (λ k. k.key) keyed

-- The handshake calls it the port of this node for the others, in a group of so many nodes that has this domain.
abbrev pub IsPeersEndpoint : ℕ → ℕ → List ℕ → ℕ → Endpoint → Type 0
IsPeersEndpoint id n domain port endpoint =
    (endpoint.role ≡ roles.Peer)
    × ((endpoint.node ≡ id) × (endpoint.nodes ≡ n) × (endpoint.port ≡ port))
    × (endpoint.domain ≡ sha256 domain)

-- It calls it a port at which a client is served, whichever node's and group's it is.
abbrev pub IsSessionsEndpoint : ℕ → Endpoint → Type 0
IsSessionsEndpoint port endpoint =
    (endpoint.role ≡ roles.Session) × ((endpoint.node ≡ CLIENT) × (endpoint.nodes ≡ 0) × (endpoint.port ≡ port))

-- It calls both ports of a node so, where they have keys.
abbrev pub BindsPortsOf : ℕ → Owner → NodePorts → Type 0
BindsPortsOf first owner ports =
    IfSome ports.peers.keyed (λ k. IsPeersEndpoint owner.id owner.n owner.domain (first + owner.id) k.endpoint)
    × IfSome ports.sessions.keyed (λ k. IsSessionsEndpoint (first + owner.id + SESSION_PORTS) k.endpoint)

-- The port is one of those of a group of n nodes.
abbrev pub IsPortOfGroup : ℕ → ℕ → ℕ → Type 0
IsPortOfGroup first n port = (id : ℕ) × (id < n) × IsPortOf first id port

-- What is refused is one of these ports, or memory.
abbrev pub RefusesOneOf : (ℕ → Type 0) → PortRefused → Type 0
RefusesOneOf ports (InUse port) = ports port
RefusesOneOf ports (NotBound port) = ports port
RefusesOneOf ports WantOfMemory = ⊤

-- These are bound to the ports of nodes, one node after the other, from the one with this number on.
abbrev pub ArePortsFrom : ℕ → ℕ → List NodePorts → Type 0
ArePortsFrom first id [] = ⊤
ArePortsFrom first id (ports ∷ more) = HasPortsOf first id ports × ArePortsFrom first (id + 1) more
