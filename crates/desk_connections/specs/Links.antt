-- The links to other nodes, and what is announced of them.
use Rattle.std.specs.Prelude.{◌≡◌, ◌≢◌, ◌⊎◌, ℕ, List, Option, None, Some}
use Rattle.desk_key.specs.Hmac.{key_block}
use Rattle.desk_admission.specs.Handshake.{hello_bytes}
use Rattle.desk_admission.specs.Streams.{SealsToward}
use Rattle.desk_admission.specs.declared.exchange.NotAdmitted.{NotAdmitted}
use Rattle.desk_admission.specs.declared.exchange.NotAdmitted.TheVariants as not_admitted
use Rattle.desk_admission.specs.declared.streams.KeyedPort.{KeyedPort}
use Rattle.desk_events.specs.declared.event.Event.{Event}
use Rattle.desk_events.specs.declared.event.Event.TheVariants as events
use Rattle.desk_events.specs.declared.event.Why.{Why}
use Rattle.desk_events.specs.declared.event.Why.TheVariants as whys
use Rattle.desk_connections.specs.declared.links.PeerAddress.{PeerAddress}
use Rattle.desk_connections.specs.declared.links.PeerConnector.{PeerConnector}
use Rattle.desk_connections.specs.declared.links.PeerConnector.TheVariants as connectors
use Rattle.desk_connections.specs.declared.links.LinkState.{LinkState}
use Rattle.desk_connections.specs.declared.links.LinkState.TheVariants as states

-- what is announced of a link to this node that is so
abbrev pub link_event : ℕ → LinkState → Event
link_event to states.Up = events.LinkUp to
link_event to (states.Down why) = events.LinkDown to why

-- It is announced of a link that is so, and nothing where that was announced last.
abbrev pub IsLinkNews : Option LinkState → ℕ → LinkState → Option Event → Type 0
IsLinkNews announced to state news =
    ((announced ≡ Some state) × (news ≡ None)) ⊎ ((announced ≢ Some state) × (news ≡ Some (link_event to state)))

-- Records go by this key to a port after a handshake, in which it was dialled by the node of this number.
abbrev pub IsSealedTo : KeyedPort → ℕ → List ℕ → Type 0
IsSealedTo port from sealing =
    (nonce : List ℕ) × SealsToward (key_block port.key.bytes) (hello_bytes port.endpoint from nonce) sealing

-- What connects to the peer at an address is open only where that has no key. Else it has the key, and the number of
-- the node that dials.
abbrev pub ConnectsTo : {R : Type 0} → PeerAddress → PeerConnector R → Type 0
ConnectsTo address (connectors.Open peer) =
    (address.keyed ≡ None) × (peer.host ≡ address.host) × (peer.port ≡ address.port)
ConnectsTo address (connectors.Keyed peer) =
    (address.keyed ≡ Some peer.keyed) × (peer.host ≡ address.host) × (peer.from ≡ address.from)

-- what is announced of a handshake that came to nothing
abbrev pub why_of : NotAdmitted → Why
why_of not_admitted.Broken = whys.Handshake
why_of not_admitted.OtherEndpoint = whys.Endpoint
why_of not_admitted.NoProof = whys.Key
