-- The handshake by which both ends of a connection show that they hold the key. The key is a block of HMAC.
use Rattle.std.specs.Prelude.{◌≡◌, ◌&&◌, ◌==◌, ℕ, Bool, true, not, nat_lt, List, [], ◌∷◌, ◌++◌, codes, Option}
use Rattle.std.specs.Prelude.{slice_index_or}
use Rattle.std.specs.Int.{w16, to_be_bytes}
use Rattle.std.specs.Io.KnownBytes.{Appends, Consumes}
use Rattle.desk_output.specs.Prefixes.{AppendsPrefix}
use Rattle.desk_key.specs.Hmac.{key_block, tag_under}
use Rattle.desk_admission.specs.declared.admission.TheConstants.{FROM_BYTE}
use Rattle.desk_admission.specs.declared.endpoint.Endpoint.{Endpoint}
use Rattle.desk_admission.specs.declared.endpoint.Role.{Role}
use Rattle.desk_admission.specs.declared.endpoint.Role.TheVariants as roles

-- the byte of a role in a hello
abbrev pub role_byte : Role → ℕ
role_byte roles.Peer = 1
role_byte roles.Session = 2

-- who may dial for a role: another node of the group, or a client
abbrev pub may_dial_as : Role → ℕ → ℕ → ℕ → Bool
may_dial_as roles.Peer node nodes from = nat_lt from nodes && not (from == node)
may_dial_as roles.Session node nodes from = from == 255

-- who may dial an endpoint
abbrev pub may_dial : Endpoint → ℕ → Bool
may_dial endpoint from = may_dial_as endpoint.role endpoint.node endpoint.nodes from

-- what a hello says before its nonce: that it is one, of version 1, for which role, who dials, which node of how many
-- is dialled, at which port, and the digest of the domain
abbrev pub hello_front : Endpoint → ℕ → List ℕ
hello_front endpoint from = codes "desk-key"
    ++ (1 ∷ role_byte endpoint.role ∷ from ∷ endpoint.node ∷ endpoint.nodes ∷ 0 ∷ [])
    ++ to_be_bytes w16 endpoint.port ++ endpoint.domain

-- the hello of an end that dials
abbrev pub hello_bytes : Endpoint → ℕ → List ℕ → List ℕ
hello_bytes endpoint from nonce = hello_front endpoint from ++ nonce

-- the number that a hello names as who dials
abbrev pub named_in : List ℕ → ℕ
named_in hello = slice_index_or hello FROM_BYTE 0

-- It is the hello of whom it names, who may dial this endpoint.
pub record IsHelloFor (endpoint : Endpoint) (hello : List ℕ) : Type 0 where
  pub nonce : List ℕ
  pub hello_is : hello ≡ hello_bytes endpoint (named_in hello) nonce
  pub dials : may_dial endpoint (named_in hello) ≡ true

-- the tag of a label, a hello, and the nonce of the end that was dialled
abbrev pub labelled_tag : List ℕ → ℕ → List ℕ → List ℕ → List ℕ
labelled_tag block label hello nonce = tag_under block ((label ∷ []) ++ hello ++ nonce)

-- the proof of the end that was dialled
abbrev pub acceptor_proof : List ℕ → List ℕ → List ℕ → List ℕ
acceptor_proof block hello nonce = labelled_tag block 1 hello nonce

-- the proof of the end that dials
abbrev pub initiator_proof : List ℕ → List ℕ → List ℕ → List ℕ
initiator_proof block hello nonce = labelled_tag block 2 hello nonce

-- the challenge: the nonce of the end that was dialled, and its proof
abbrev pub challenge_bytes : List ℕ → List ℕ → List ℕ → List ℕ
challenge_bytes block hello nonce = nonce ++ acceptor_proof block hello nonce

-- the key of the records toward the end that was dialled
abbrev pub toward_acceptor : List ℕ → List ℕ → List ℕ → List ℕ
toward_acceptor block hello nonce = key_block (labelled_tag block 3 hello nonce)

-- the key of the records toward the end that dials
abbrev pub toward_initiator : List ℕ → List ℕ → List ℕ → List ℕ
toward_initiator block hello nonce = key_block (labelled_tag block 4 hello nonce)

-- A hello for this endpoint came, and a prefix of the challenge to it was sent.
pub record HasChallenged (block : List ℕ) (endpoint : Endpoint) (nonce : List ℕ) (input old new : Option (List ℕ)) :
    Type 0 where
  pub hello : List ℕ
  pub left : Option (List ℕ)
  pub heard : Consumes input left hello
  pub is_for : IsHelloFor endpoint hello
  pub sent : AppendsPrefix old new (challenge_bytes block hello nonce)

-- The challenge to the hello came, and the hello and its proof were sent; the keys are those of the end that dials.
pub record HasProved (block hello : List ℕ) (input left old new : Option (List ℕ)) (receiving sending : List ℕ) :
    Type 0 where
  pub nonce : List ℕ
  pub heard : Consumes input left (challenge_bytes block hello nonce)
  pub sent : Appends old new (hello ++ initiator_proof block hello nonce)
  pub receiving_is : receiving ≡ toward_initiator block hello nonce
  pub sending_is : sending ≡ toward_acceptor block hello nonce

-- The challenge to the hello came, and a prefix of the hello and its proof was sent.
pub record HasAnswered (block hello : List ℕ) (input left old new : Option (List ℕ)) : Type 0 where
  pub nonce : List ℕ
  pub heard : Consumes input left (challenge_bytes block hello nonce)
  pub sent : AppendsPrefix old new (hello ++ initiator_proof block hello nonce)
