-- What an item answers, and what the sessions that wait hear of it.
use Rattle.std.specs.Prelude.{◌≡◌, ℕ, Bool, if◌then◌else◌, List, [], map}
use Rattle.std.specs.List.{AllZip}
use Rattle.desk_types.specs.declared.command.Entry.{Entry}
use Rattle.desk_types.specs.declared.outcome.Outcome.{Outcome}
use Rattle.desk_types.specs.declared.packet.Message.{Message}
use Rattle.desk_mailbox.specs.declared.item.Item.{Item}
use Rattle.desk_mailbox.specs.declared.item.Item.TheVariants as items
use Rattle.desk_node.specs.declared.event.Event.TheVariants as events
use Rattle.desk_node.specs.Heard.{Says}
use Rattle.desk_node.specs.Rules.{node_step}
use Rattle.desk_replica.specs.declared.answer.Answer.{Answer}
use Rattle.desk_replica.specs.Answers.{session_answers}
use Rattle.desk_replica.specs.EpochPackets.{is_first_step}
use Rattle.desk_threads.specs.Keeper.{KeeperState, suspects, tick_event}
use Rattle.desk_threads.specs.OwnedValue.{OwnedValue, state_of}
use Rattle.desk_threads.specs.Waiting.{SessionValue, after_stop, HearsAll, Tells}

-- what the node answers at an item; nothing at a packet that it drops
abbrev pub item_answers : List ℕ → ℕ → ℕ → KeeperState → Item → List Outcome
item_answers domain i n k (items.Request session entry) = (node_step domain i n k.node (events.Request entry)).answers
item_answers domain i n k (items.Packet p) =
    if is_first_step p then (node_step domain i n k.node (events.Packet p.packet)).answers else []
item_answers domain i n k items.Tick =
    (node_step domain i n k.node (tick_event (suspects i n k.node.saved k.ticks))).answers
item_answers domain i n k items.Stop = []

-- These are the node's answers at the item, whichever packets say what the node held.
abbrev pub Answers : OwnedValue → Item → List Outcome → Type 0
Answers old item answers =
    (received : List Message) → Says old.node.n old.node.saved.view received old.node.heard →
    answers ≡ item_answers old.node.domain old.node.id old.node.n (state_of old received) item

-- These are the node's answers at the item, as the sessions hear them.
abbrev pub AnswersSessions : OwnedValue → Item → List Answer → Type 0
AnswersSessions old item answers =
    (outcomes : List Outcome) × Answers old item outcomes × (answers ≡ session_answers 0 outcomes)

-- the sessions, which wait on where the keeper goes on, and else are to hear that it stops
abbrev pub waiting_on : Bool → List SessionValue → List SessionValue
waiting_on goes_on list = if goes_on then list else map after_stop list

-- The sessions got what can be reported of them, where these entries are published.
abbrev pub AreInformed : List Entry → List SessionValue → List SessionValue → Type 0
AreInformed list old new = AllZip (Tells list) old new

-- The sessions heard these answers, and then got what can be reported of these published entries.
abbrev pub HearAndAreInformed : List Entry → List Answer → List SessionValue → List SessionValue → Type 0
HearAndAreInformed list answers old new =
    (mid : List SessionValue) × AllZip (HearsAll answers) old mid × AreInformed list mid new
