-- What goes to a node and comes back.
use Rattle.std.specs.Prelude.{◌≡◌, ◌⊎◌, ℕ, Bool, true, List, [], ◌∷◌, ◌++◌, length, take, flat_map, nat_lt, All}
use Rattle.std.specs.Prelude.{if◌then◌else◌, Option}
use Rattle.std.specs.Io.KnownBytes.{Appends, Consumes}
use mathlib.Core.List.{IsPrefix}
use Rattle.desk_types.specs.declared.limits.TheConstants.{LINE_BYTES}
use Rattle.desk_types.specs.declared.refusal.Refusal.{Refusal}
use Rattle.desk_types.specs.declared.refusal.Refusal.TheVariants as refusals
use Rattle.desk_output.specs.Prefixes.{AppendsPrefix}
use Rattle.desk_lines.specs.Lines.{spoken}
use Rattle.desk_output.specs.Joined.{joined}
use Rattle.desk_lines.specs.Served.{AppendsAlmost, Stops}
use Rattle.desk_send.specs.declared.fault.NodeFault.{NodeFault}
use Rattle.desk_send.specs.Replies.{IsReplyLine, ReadsNone}

-- A connection: the bytes that were sent to the node and those that it will give, where they are known, and whether the
-- node failed.
pub record Traffic : Type 0 where
  pub sent : Option (List ℕ)
  pub left : Option (List ℕ)
  pub is_broken : Bool

-- What is sent for a line: the line and a newline. Of a line that is too long it is as many bytes as a line may
-- have, and a space, which is too long as well.
abbrev pub request : List ℕ → List ℕ
request line = if nat_lt LINE_BYTES (length line) then take LINE_BYTES line ++ 32 ∷ 10 ∷ [] else line ++ 10 ∷ []

-- The request went out, and the next line that the node gave is the reply.
pub record Exchanged (old : Traffic) (line reply : List ℕ) (new : Traffic) : Type 0 where
  pub asked : Appends old.sent new.sent (request line)
  pub reported : Consumes old.left new.left reply
  pub whole : IsReplyLine reply
  pub same : new.is_broken ≡ old.is_broken

-- A prefix of the request went out, and no reply line came.
pub record FailsExchange (old : Traffic) (line : List ℕ) (fault : NodeFault) (new : Traffic) : Type 0 where
  pub asked : AppendsPrefix old.sent new.sent (request line)
  pub reported : ReadsNone fault old.left new.left
  pub same : new.is_broken ≡ old.is_broken

-- what came where no reply did: at a fault of reading it is no reply line
abbrev pub ComesShort : Refusal → Option (List ℕ) → Option (List ℕ) → Type 0
ComesShort refusal old new =
    (came : List ℕ) × Consumes old new came × (refusal ≡ refusals.ReadFault → IsReplyLine came → ⊥)

-- A prefix of the request went out, and no reply came: the node failed, or memory was refused.
pub record GivesUp (old : Traffic) (line : List ℕ) (refusal : Refusal) (new : Traffic) : Type 0 where
  pub asked : AppendsPrefix old.sent new.sent (request line)
  pub reported : ComesShort refusal old.left new.left
  pub cause :
      ((refusal ≡ refusals.ReadFault) × (new.is_broken ≡ true))
      ⊎ ((refusal ≡ refusals.WantOfMemory) × (new.is_broken ≡ old.is_broken))

-- The requests went out in order, and as many reply lines came, which are these.
pub record Conversed (old : Traffic) (lines replies : List (List ℕ)) (new : Traffic) : Type 0 where
  pub asked : Appends old.sent new.sent (flat_map (λ line. request line) lines)
  pub reported : Consumes old.left new.left (joined replies)
  pub whole : All IsReplyLine replies
  pub each : length replies ≡ length lines
  pub same : new.is_broken ≡ old.is_broken

-- The lines that are not skipped were sent, and the replies to them written.
abbrev pub Sent : Traffic → Option (List ℕ) → List (List ℕ) → Traffic → Option (List ℕ) → Type 0
Sent old out lines new out' =
    (replies : List (List ℕ)) × Conversed old (spoken lines) replies new × Appends out out' (joined replies)

-- The first lines were sent, and the replies to them written, the last in part where a write failed. The connection may
-- have given up at the next.
abbrev pub SentInPart : Refusal → Traffic → Option (List ℕ) → List (List ℕ) → Traffic → Option (List ℕ) → Type 0
SentInPart refusal old out lines new out' =
    (first asked replies : List (List ℕ)) × (last : Traffic) × IsPrefix (first ++ asked) lines
    × Conversed old (spoken first) replies last
    × Stops Exchanged GivesUp refusal (spoken asked) last new × AppendsAlmost refusal out out' replies
