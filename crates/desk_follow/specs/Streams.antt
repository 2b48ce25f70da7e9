-- The connections to the nodes of a group.
use Rattle.std.specs.Prelude.{◌≡◌, ℕ, Bool, List, Option, None, Some, IfSome, slice_index_or}
use Rattle.desk_key.specs.Hmac.{key_block}
use Rattle.desk_key.specs.declared.key.Key.{Key}
use Rattle.desk_admission.specs.Handshake.{hello_bytes}
use Rattle.desk_admission.specs.Streams.{SealsToward}
use Rattle.desk_admission.specs.declared.endpoint.Endpoint.{Endpoint}
use Rattle.desk_admission.specs.declared.endpoint.Role.TheVariants as roles
use Rattle.desk_admission.specs.declared.endpoint.TheConstants.{CLIENT}
use Rattle.desk_status.specs.declared.answers.NodeAnswer.{NodeAnswer}
use Rattle.desk_status.specs.declared.answers.NodeAnswer.TheVariants as answers
use Rattle.desk_follow.specs.Places.{shown_place}
use Rattle.desk_follow.specs.Tries.{Try, RepliesOver, GrowsByTry}

-- the connection that is open to a node, if one is
abbrev pub stream_at : {S : Type 0} → List (Option S) → ℕ → Option S
stream_at streams node = slice_index_or streams node None

-- Records go by the second key to the port for sessions that a client dialled: it comes of a handshake under the first.
abbrev pub IsSealedUnder : Key → ℕ → List ℕ → Type 0
IsSealedUnder key port sealing =
    (endpoint : Endpoint) × (nonce : List ℕ) × (endpoint.role ≡ roles.Session) × (endpoint.port ≡ port)
    × SealsToward (key_block key.bytes) (hello_bytes endpoint CLIENT nonce) sealing

-- Both directions of a connection after a handshake: the second key of what goes out, what records have carried out
-- under it, and what records will carry in, where that is known.
pub record RecordTraffic : Type 0 where
  pub sealing : List ℕ
  pub sent : Option (List ℕ)
  pub left : Option (List ℕ)

-- Where there is a key, records go by one that comes of a handshake under it, with this port for sessions.
abbrev pub IsSealedFor : Option Key → ℕ → Option RecordTraffic → Type 0
IsSealedFor key port keyed = IfSome key (λ k. IfSome keyed (λ traffic. IsSealedUnder k port traffic.sealing))

-- After a handshake the line went out as a request by records, and the reply is the next line that they carried in.
abbrev pub CarriesReply : Option RecordTraffic → Option RecordTraffic → List ℕ → List ℕ → Type 0
CarriesReply None new line reply = new ≡ None
CarriesReply (Some old) None line reply = ⊥
CarriesReply (Some old) (Some new) line reply = RepliesOver old.sent new.sent old.left line reply

-- the place that a node reported, where it is up
abbrev pub reported_place : NodeAnswer → Option ℕ
reported_place answers.Down = None
reported_place (answers.Up place milliseconds) = Some place

-- The line went out as a request, and the next line that came tells this place.
abbrev pub RepliesPlace : Option (List ℕ) → Option (List ℕ) → Option (List ℕ) → List ℕ → ℕ → Type 0
RepliesPlace old new left line place =
    (reply : List ℕ) × RepliesOver old new left line reply × (shown_place reply ≡ Some place)

-- After a handshake the line went out as a request by records, and the next line that they carried in tells this place.
abbrev pub CarriesPlace : Option RecordTraffic → Option RecordTraffic → List ℕ → ℕ → Type 0
CarriesPlace old new line place = (reply : List ℕ) × CarriesReply old new line reply × (shown_place reply ≡ Some place)

-- The tries grow by one, in which a node was asked this line, after a handshake or not. Its reply tells this place.
abbrev pub AnswersShow : List Try → List Try → ℕ → Bool → List ℕ → ℕ → Type 0
AnswersShow old new node is_keyed line place =
    (reply : List ℕ) × GrowsByTry old new node is_keyed line (Some reply) × (shown_place reply ≡ Some place)
