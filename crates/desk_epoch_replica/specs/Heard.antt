-- The tokens that nodes say where they ask.
use Rattle.std.specs.Prelude.{ℕ, Bool, false, ◌&&◌, ◌==◌, nat_lt, if◌then◌else◌, List, length, slice_get, slice_set}
use Rattle.std.specs.Prelude.{Option, Some, None}
use Rattle.desk_types.specs.declared.epoch_packet.Purpose.{Purpose}
use Rattle.desk_types.specs.declared.epoch_packet.Purpose.TheVariants as purposes
use Rattle.desk_types.specs.declared.packet.Message.{Message}
use Rattle.desk_types.specs.declared.packet.Message.TheVariants.{GetState}
use Rattle.desk_epoch_replica.specs.declared.heard.HeardToken.{HeardToken}
use Rattle.desk_epoch_replica.specs.declared.limits.TheConstants.{HEARD_TICKS}
use Rattle.desk_epoch_replica.specs.Ticks.{one_more_up_to}

-- what is known of a node that has not asked
abbrev pub unheard : HeardToken
unheard = record { token = 0; ticks = HEARD_TICKS }

-- what is known of one that says a token now
abbrev pub said_now : ℕ → HeardToken
said_now token = record { token = token; ticks = 0 }

-- and of one that said it a tick more ago
abbrev pub one_tick_older : HeardToken → HeardToken
one_tick_older h = record { token = h.token; ticks = one_more_up_to HEARD_TICKS h.ticks }

-- the node that says a message, and the token that stands there in the place of a view, where a node can ask by it
abbrev pub asker_in : Message → Option (ℕ × ℕ)
asker_in (GetState from token base) = Some (from, token)
asker_in packet = None

-- the node that asks and the token that it says, where a packet is an ask
abbrev pub asker : Purpose → Message → Option (ℕ × ℕ)
asker purposes.Ask packet = asker_in packet
asker purposes.Step packet = None
asker purposes.Tell packet = None

-- What is known of each node, where one of the group may ask: of that one the token that it says.
abbrev pub tokens_heard_with : Option (ℕ × ℕ) → List HeardToken → List HeardToken
tokens_heard_with None heard = heard
tokens_heard_with (Some asked) heard =
    if nat_lt asked.0 (length heard) then slice_set heard asked.0 (said_now asked.1) else heard

-- whether a token was said within the last ticks, so many
abbrev pub is_heard : HeardToken → ℕ → Bool
is_heard h token = h.token == token && nat_lt h.ticks HEARD_TICKS

abbrev pub is_heard_in : Option HeardToken → ℕ → Bool
is_heard_in None token = false
is_heard_in (Some h) token = is_heard h token

-- whether a node said it
abbrev pub hears : List HeardToken → ℕ → ℕ → Bool
hears heard node token = is_heard_in (slice_get heard node) token
