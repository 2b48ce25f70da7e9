-- Connections that come to a port with a key.
use Rattle.std.specs.Prelude.{◌⊎◌, ℕ, List, Option, Some, IsSomeAnd}
use Rattle.desk_key.specs.Hmac.{key_block}
use Rattle.desk_admission.specs.Streams.{IsAdmitted}
use Rattle.desk_admission.specs.declared.streams.KeyedPort.{KeyedPort}
use Rattle.desk_mailbox.specs.declared.item.Item.{Item}
use Rattle.desk_peers.specs.Incoming.{HasPutOnlyOf}

-- What came began with a hello for the port, from the end of this number, and the proof of it under the key.
abbrev pub HasShownKeyFrom : ℕ → KeyedPort → List ℕ → Option (List ℕ) → Type 0
HasShownKeyFrom from port nonce came =
    (given : Option (List ℕ)) × IsAdmitted (key_block port.key.bytes) port.endpoint nonce from came given

-- the same, from some end
abbrev pub HasShownKey : KeyedPort → List ℕ → Option (List ℕ) → Type 0
HasShownKey port nonce came = (from : ℕ) × HasShownKeyFrom from port nonce came

-- Who came has shown the key, and nothing was put but packets that come from the end of his number.
abbrev pub HasPutOwnOnly : KeyedPort → List ℕ → Option (List ℕ) → List Item → List Item → Type 0
HasPutOwnOnly port nonce came old new =
    (from : ℕ) × HasShownKeyFrom from port nonce came × HasPutOnlyOf (Some from) old new

-- Either there was a nonce for who came, and he has shown that he holds the key, or this is so.
abbrev pub HasShownKeyOr : Type 0 → KeyedPort → Option (List ℕ) → Option (List ℕ) → Type 0
HasShownKeyOr else port nonce came = IsSomeAnd nonce (λ n. HasShownKey port n came) ⊎ else
