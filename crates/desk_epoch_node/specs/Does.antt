-- What a node over epochs does.
use Rattle.std.specs.Prelude.{◌≡◌, ℕ, ◌+◌, Bool, true, false, ◌&&◌, nat_le, if◌then◌else◌, List, ◌++◌, length}
use Rattle.std.specs.Prelude.{take, drop, Option, Some, None}
use Rattle.desk_types.specs.declared.command.Entry.{Entry}
use Rattle.desk_types.specs.declared.limits.TheConstants.{LAST_TOKEN}
use Rattle.desk_types.specs.declared.outcome.Outcome.{Outcome}
use Rattle.desk_types.specs.declared.packet.Message.{Message}
use Rattle.desk_types.specs.declared.packet.Message.TheVariants.{GetState, NewState}
use Rattle.desk_log.specs.Change.{keeps_committed, to_others}
use Rattle.desk_log.specs.Entries.{IsLogPrefix}
use Rattle.desk_log.specs.Quorum.{primary}
use Rattle.desk_log.specs.SavedValue.{committed_entries, in_view, initial_saved}
use Rattle.desk_view_change.specs.Rules.{view_requests}
use Rattle.desk_node.specs.declared.event.Event.{Event}
use Rattle.desk_node.specs.Heard.{silence}
use Rattle.desk_node.specs.NodeValue.{NodeValue, DoesStep, IsSameNode}
use Rattle.desk_epoch_node.specs.declared.deed.Deed.{Deed}
use Rattle.desk_epoch_node.specs.declared.deed.Deed.TheVariants.{Ignore, Own, Answer, Refuse, Keep, Ask, AskAll, Tell}
use Rattle.desk_epoch_node.specs.declared.deed.Deed.TheVariants.{Take, Stop}
use Rattle.desk_epoch_node.specs.declared.step.EpochStep.{EpochStep}
use Rattle.desk_epoch_node.specs.declared.step.EpochStep.TheVariants as steps
use Rattle.desk_epoch_node.specs.Ends.{is_whole, reaches_end}
use Rattle.desk_epoch_node.specs.EpochValue.{EpochValue, acts, committed_cut, has_next}
use Rattle.desk_epoch_node.specs.PastRows.{StandFor}

-- The node of the epoch does its step and stays the same node of the same group, and nothing else changes.
pub record DoesOwn (old : EpochValue) (event : Event) (new : EpochValue) (packets : List (ℕ × Message))
    (answers : List Outcome) : Type 0 where
  pub step : DoesStep old.node event new.node packets answers
  pub same : IsSameNode old.node new.node
  pub committed : IsLogPrefix (committed_entries old.node.saved) (committed_entries new.node.saved)
  pub epoch_is : new.epoch ≡ old.epoch
  pub past_is : new.past ≡ old.past
  pub most_is : new.most ≡ old.most
  pub token_is : new.token ≡ old.token

-- a first node in a view, which has heard nothing
abbrev pub node_in_view : List ℕ → ℕ → ℕ → ℕ → NodeValue
node_in_view domain id n view =
    record { domain = domain; id = id; n = n; saved = in_view view initial_saved; heard = silence n }

-- The first view in which the primary of the last view in which the node was normal leads again: so it counts for
-- nothing whom the node suspected since. Who does not act stays in the first one.
abbrev pub next_view : Bool → NodeValue → ℕ
next_view acting node = if acting then primary node.n node.saved.normal else 0

-- the node of the next epoch, which acts there or not
abbrev pub next_node : Bool → NodeValue → NodeValue
next_node acting node = node_in_view node.domain node.id node.n (next_view acting node)

-- what it sends first: it asks the others for its view, where that is not the first one
abbrev pub next_packets : Bool → NodeValue → List (ℕ × Message)
next_packets acting node = view_requests node.id node.n 0 (next_view acting node)

-- The node has one more past log, which is that of its epoch, and begins the next.
pub record BeginsAfter (past log : List Entry) (old new : EpochValue) (packets : List (ℕ × Message)) : Type 0 where
  pub epoch_is : new.epoch ≡ old.epoch + 1
  pub past_is : StandFor (past ++ log) new.past
  pub most_is : new.most ≡ old.most
  pub token_is : new.token ≡ old.token
  pub node_is : new.node ≡ next_node (acts new) old.node
  pub packets_are : packets ≡ next_packets (acts new) old.node

-- whether the node has committed the end of its epoch, and there is a next one
abbrev pub is_due : EpochValue → Bool
is_due e = reaches_end e.most (committed_entries e.node.saved) && has_next e

-- The log of the node's epoch, where these entries stand after a place of it.
abbrev pub whole_log : EpochValue → ℕ → List Entry → List Entry
whole_log e base entries = take base e.node.saved.log ++ entries

-- Whether these entries are the rest of the epoch's log, after a place within what the node has committed. No entry
-- that it has committed is another one there.
abbrev pub is_rest : EpochValue → ℕ → List Entry → Bool
is_rest e base entries =
    has_next e && nat_le base (length (committed_cut e)) && is_whole e.most (whole_log e base entries)
    && keeps_committed e.node.saved (whole_log e base entries)

-- the packet that tells the log of a past epoch after a place, where there is the place
abbrev pub past_log_packet : ℕ → List Entry → ℕ → Option Message
past_log_packet from log base =
    if nat_le base (length log) then Some (NewState from 0 base (length log) (drop base log)) else None

-- The step is that of the node of the epoch.
abbrev pub IsOwn : EpochValue → Event → EpochValue → EpochStep → Type 0
IsOwn old event new (steps.Own step) = DoesOwn old event new step.packets.items step.answers.items
IsOwn old event new step = ⊥

-- The node begins the next epoch after a log that it was sent.
abbrev pub IsBegun : List Entry → List Entry → EpochValue → EpochValue → EpochStep → Type 0
IsBegun past whole old new (steps.Began log packets) = (log ≡ whole) × BeginsAfter past whole old new packets.items
IsBegun past whole old new step = ⊥

-- The token that a node says where it asks. One that no replacement can name is said as 0.
abbrev pub said_token : ℕ → ℕ
said_token token = if nat_le token LAST_TOKEN then token else 0

-- the packet by which a node asks for what it lacks of its epoch
abbrev pub asking_packet : EpochValue → Message
asking_packet e = GetState e.node.id (said_token e.token) (length (committed_cut e))

-- the packets by which it asks all others
abbrev pub asking_packets : EpochValue → List (ℕ × Message)
asking_packets e = to_others e.node.id e.node.n (asking_packet e)

-- The node asks all others, and stays as it is.
abbrev pub IsAskAll : EpochValue → EpochValue → EpochStep → Type 0
IsAskAll old new (steps.AskAll packets) = (packets.items ≡ asking_packets old) × (new ≡ old)
IsAskAll old new step = ⊥

-- The node stays as it is.
abbrev pub Only : EpochStep → EpochValue → EpochValue → EpochStep → Type 0
Only asked old new step = (step ≡ asked) × (new ≡ old)

-- Entries after a place begin the next epoch where they are the rest of the log of this one.
abbrev pub IsTaken : Bool → List Entry → List Entry → EpochValue → EpochValue → EpochStep → Type 0
IsTaken true past whole old new step = IsBegun past whole old new step
IsTaken false past whole old new step = Only steps.Nothing old new step

-- The node, whose past logs are these entries, does what is asked of it.
abbrev pub DoesDeed : List Entry → Deed → EpochValue → EpochValue → EpochStep → Type 0
DoesDeed past Ignore old new step = Only steps.Nothing old new step
DoesDeed past (Own event) old new step = IsOwn old event new step
DoesDeed past (Answer client number place) old new step = Only (steps.Known client number place) old new step
DoesDeed past (Refuse client number refusal) old new step = Only (steps.Refused client number refusal) old new step
DoesDeed past (Keep entry) old new step = Only (steps.Deferred entry) old new step
DoesDeed past (Ask to) old new step = Only (steps.Ask to (asking_packet old)) old new step
DoesDeed past AskAll old new step = IsAskAll old new step
DoesDeed past (Tell to epoch base) old new step = Only (steps.Tell to epoch base) old new step
DoesDeed past (Take base entries) old new step =
    IsTaken (is_rest old base entries) past (whole_log old base entries) old new step
DoesDeed past Stop old new step = Only steps.Replaced old new step
