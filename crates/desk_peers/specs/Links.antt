-- What the connections to another node carry.
use Rattle.std.specs.Prelude.{◌≡◌, ◌⊎◌, ⊤, ℕ, Bool, true, false, List, [], ◌∷◌, ◌++◌, Option, None, Some, MatchOption}
use Rattle.std.specs.Prelude.{if◌then◌else◌, IfSome}
use Rattle.std.specs.Io.KnownBytes.{Appends}
use Rattle.desk_codec.specs.Spelling.{frame_spelling}
use Rattle.desk_output.specs.Prefixes.{AppendsPrefix}
use Rattle.desk_types.specs.declared.epoch_packet.EpochPacket.{EpochPacket}
use Rattle.desk_peers.specs.Headers.{header_of, header_spelling}
use Rattle.desk_peers.specs.declared.header.EpochHeader.{EpochHeader}

-- what the closed connections carried, in order, and the header of the open one with what it holds, where it is known
pub record LinkState : Type 0 where
  pub closed : Option (List (List ℕ))
  pub current : Option (EpochHeader × Option (List ℕ))

-- A new connection holds nothing, where it is known what connections carry.
abbrev pub StartsEmpty : Option (List (List ℕ)) → Option (List ℕ) → Type 0
StartsEmpty None contents = ⊤
StartsEmpty (Some closed) contents = contents ≡ Some []

-- A connection was closed: where it is known afterwards what the closed ones carried, it was known before, and what
-- this one held came after it.
abbrev pub Closes : Option (List (List ℕ)) → Option (List ℕ) → Option (List (List ℕ)) → Type 0
Closes old contents None = ⊤
Closes old contents (Some after) = (before : List (List ℕ)) × (text : List ℕ)
    × (old ≡ Some before) × (contents ≡ Some text) × (after ≡ before ++ text ∷ [])

-- what goes over a connection for a packet: its header, where the connection is new, and its frame
abbrev pub text_for : ℕ → Bool → EpochPacket → List ℕ
text_for places is_new p = (if is_new then header_spelling places (header_of p) else []) ++ frame_spelling p.packet

-- The text was written whole to a connection of this header that held this, and it stays open; or a prefix was
-- written, and the connection is closed.
abbrev pub IsSentOver : EpochHeader → List ℕ → Option (List (List ℕ)) → Option (List ℕ) → Bool → LinkState →
    Type 0
IsSentOver h text closed held true new = (after : Option (List ℕ)) × Appends held after text
    × (new ≡ record { closed = closed; current = Some (h, after) })
IsSentOver h text closed held false new = (after : Option (List ℕ)) × AppendsPrefix held after text
    × Closes closed after new.closed × (new.current ≡ None)

-- The link was ended, and its connection closed if there was one.
abbrev pub EndsLink : LinkState → Option (List (List ℕ)) → Type 0
EndsLink link closed = MatchOption link.current (closed ≡ link.closed) (λ c. Closes link.closed c.1 closed)

-- The open connection, if there is one, is of this header.
abbrev pub IsUnder : EpochHeader → LinkState → Type 0
IsUnder h link = IfSome link.current (λ c. c.0 ≡ h)

-- The link is as it was, or its connection was closed; it has none of another header.
abbrev pub IsReadyFor : EpochHeader → LinkState → LinkState → Type 0
IsReadyFor h old ready = IsUnder h ready × ((ready ≡ old) ⊎ ((ready.current ≡ None) × EndsLink old ready.closed))

-- The packet's frame was written over the open connection, which is of its header; or its header and its frame over a
-- new one; or none could be made.
abbrev pub IsSentOnce : ℕ → EpochPacket → LinkState → Bool → LinkState → Type 0
IsSentOnce places p old sent new =
    ((held : Option (List ℕ)) × (old.current ≡ Some (header_of p, held))
    × IsSentOver (header_of p) (text_for places false p) old.closed held sent new)
    ⊎ ((held : Option (List ℕ)) × (old.current ≡ None) × StartsEmpty old.closed held
    × IsSentOver (header_of p) (text_for places true p) old.closed held sent new)
    ⊎ ((sent ≡ false) × (old.current ≡ None) × (new ≡ old))

-- The same over the open connection, or over a new one once that was closed.
abbrev pub IsSent : ℕ → EpochPacket → LinkState → Bool → LinkState → Type 0
IsSent places p old sent new = (ready : LinkState) × IsReadyFor (header_of p) old ready
    × IsSentOnce places p ready sent new
