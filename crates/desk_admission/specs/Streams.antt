-- Connections after a handshake.
use Rattle.std.specs.Prelude.{◌≡◌, ℕ, List, [], ◌++◌, Option}
use Rattle.std.specs.Io.KnownBytes.{Appends, Consumes}
use Rattle.desk_records.specs.Streams.{opened_bytes}
use Rattle.desk_admission.specs.Handshake.{IsHelloFor, named_in, challenge_bytes, initiator_proof}
use Rattle.desk_admission.specs.Handshake.{toward_acceptor, toward_initiator}
use Rattle.desk_admission.specs.declared.endpoint.Endpoint.{Endpoint}

-- What came began with a hello for this endpoint, which names this number as who dials, and the proof of it under the
-- key. What is given of the rest was carried by right records of this connection and direction.
pub record IsAdmitted (block : List ℕ) (endpoint : Endpoint) (nonce : List ℕ) (from : ℕ)
    (came given : Option (List ℕ)) : Type 0 where
  pub hello : List ℕ
  pub left : Option (List ℕ)
  pub heard : Consumes came left (hello ++ initiator_proof block hello nonce)
  pub is_for : IsHelloFor endpoint hello
  pub from_is : from ≡ named_in hello
  pub given_is : given ≡ opened_bytes (toward_acceptor block hello nonce) 0 [] [] left

-- A hello for this endpoint came, and the challenge to it was sent, and nothing else. What is sealed then goes by the
-- key of this connection toward the end that dialled.
pub record HasSentChallenge (block : List ℕ) (endpoint : Endpoint) (nonce : List ℕ)
    (came old new : Option (List ℕ)) (sealing : List ℕ) : Type 0 where
  pub hello : List ℕ
  pub left : Option (List ℕ)
  pub heard : Consumes came left hello
  pub is_for : IsHelloFor endpoint hello
  pub sent : Appends old new (challenge_bytes block hello nonce)
  pub sealing_is : sealing ≡ toward_initiator block hello nonce

-- What came began with the challenge to the hello, whose proof is under the key. What is given of the rest was carried
-- by right records of this connection and direction. The hello and its own proof were sent, and nothing else. What is
-- sealed then goes by the key of this connection toward the end that was dialled.
pub record IsChallenged (block hello : List ℕ) (came given old new : Option (List ℕ)) (sealing : List ℕ) :
    Type 0 where
  pub nonce : List ℕ
  pub left : Option (List ℕ)
  pub heard : Consumes came left (challenge_bytes block hello nonce)
  pub given_is : given ≡ opened_bytes (toward_initiator block hello nonce) 0 [] [] left
  pub sent : Appends old new (hello ++ initiator_proof block hello nonce)
  pub sealing_is : sealing ≡ toward_acceptor block hello nonce

-- Records go by this key to the end that was dialled with the hello.
abbrev pub SealsToward : List ℕ → List ℕ → List ℕ → Type 0
SealsToward block hello key = (nonce : List ℕ) × (key ≡ toward_acceptor block hello nonce)
