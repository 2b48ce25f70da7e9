-- A group of nodes over epochs, and what happens in it.
use Rattle.std.specs.Prelude.{◌≡◌, ◌≢◌, ◌<◌, ℕ, ◌+◌, true, List, [], ◌∷◌, ◌++◌, map, slice_get, Option, Some, None}
use Rattle.std.specs.Prelude.{Contains}
use Rattle.desk_types.specs.declared.command.Entry.{Entry}
use Rattle.desk_types.specs.declared.packet.Message.{Message}
use Rattle.desk_types.specs.EpochPackets.{packet_under}
use Rattle.desk_log.specs.SavedValue.{initial_saved}
use Rattle.desk_node.specs.Heard.{silence}
use Rattle.desk_node.specs.NodeValue.{node_from}
use Rattle.desk_world.specs.declared.world_event.WorldEvent.{WorldEvent}
use Rattle.desk_world.specs.declared.world_event.WorldEvent.TheVariants as happens
use Rattle.desk_world.specs.World.{World, packet_at}
use Rattle.desk_epochs.specs.Epochs.{joined_logs}
use Rattle.desk_epoch_node.specs.declared.event.EpochEvent.{EpochEvent}
use Rattle.desk_epoch_node.specs.declared.event.EpochEvent.TheVariants as comes
use Rattle.desk_types.specs.declared.epoch_packet.EpochPacket.{EpochPacket}
use Rattle.desk_types.specs.declared.epoch_packet.Purpose.TheVariants as purposes
use Rattle.desk_epoch_node.specs.declared.step.EpochStep.{EpochStep}
use Rattle.desk_epoch_node.specs.declared.step.EpochStep.TheVariants as steps
use Rattle.desk_epoch_node.specs.Deeds.{deed}
use Rattle.desk_epoch_node.specs.Does.{BeginsAfter, DoesDeed, is_due, node_in_view, past_log_packet}
use Rattle.desk_epoch_node.specs.EpochValue.{EpochValue, committed_cut}
use Rattle.desk_epoch_node.specs.PastRows.{StandFor}

-- the node of each number, the logs of past epochs that it keeps, and all packets that were ever sent, each with its
-- receiver
pub record EpochNodes : Type 0 where
  pub values : ℕ → EpochValue
  pub logs : ℕ → List (List Entry)
  pub sent : List (ℕ × EpochPacket)

-- What happens: something comes to a node; a node begins the next epoch where it is due; or it begins it in one of
-- these ways, but ends before it has saved or sent anything there, and is started again; or it ends at any other
-- moment, and is started again in its epoch.
pub data EpochAct : Type 0 where
  Meets : ℕ → EpochEvent → EpochAct
  Begins : ℕ → EpochAct
  BeginsAndEnds : ℕ → EpochAct
  MeetsAndEnds : ℕ → EpochEvent → EpochAct
  StartsAgain : ℕ → EpochAct

-- node i of n at first, where epochs end after so many entries: its token is 0
abbrev pub first_value : List ℕ → ℕ → ℕ → ℕ → EpochValue
first_value domain n most i = record {
  epoch = 0;
  past = record { rows = []; length = 0; replacements = [] };
  most = most;
  token = 0;
  node = record { domain = domain; id = i; n = n; saved = initial_saved; heard = silence n };
}

-- nodes at first, and no packet
abbrev pub first_epoch_nodes : List ℕ → ℕ → ℕ → EpochNodes
first_epoch_nodes domain n most =
    record { values = λ i. first_value domain n most i; logs = λ i. []; sent = [] }

-- A packet that comes to node i was sent to it before.
abbrev pub WasSentBefore : List (ℕ × EpochPacket) → ℕ → EpochEvent → Type 0
WasSentBefore sent i (comes.Request entry) = Unit {0}
WasSentBefore sent i (comes.Packet p) = Contains sent (i, p)
WasSentBefore sent i comes.Resend = Unit {0}
WasSentBefore sent i comes.Suspect = Unit {0}
WasSentBefore sent i comes.Restart = Unit {0}

-- a packet of an epoch's rules, with its receiver
abbrev pub in_epoch : ℕ → ℕ × Message → ℕ × EpochPacket
in_epoch epoch s = (s.0, packet_under epoch purposes.Step s.1)

-- the packet that tells a past epoch's log after a place, where there are the log and the place
abbrev pub past_packet : ℕ → ℕ → Option (List Entry) → Option Message
past_packet from base None = None
past_packet from base (Some log) = past_log_packet from log base

-- the packet as one that tells a node of an epoch
abbrev pub telling_packets : ℕ → ℕ → Option Message → List (ℕ × EpochPacket)
telling_packets to epoch None = []
telling_packets to epoch (Some packet) =
    (to, record { epoch = epoch; purpose = purposes.Tell; packet = packet }) ∷ []

-- a packet that asks for what a node lacks of an epoch, with its receiver
abbrev pub asking_in : ℕ → ℕ × Message → ℕ × EpochPacket
asking_in epoch s = (s.0, record { epoch = epoch; purpose = purposes.Ask; packet = s.1 })

-- what a node with these past logs sends by a step
abbrev pub epoch_packets_of : EpochValue → List (List Entry) → EpochStep → List (ℕ × EpochPacket)
epoch_packets_of old logs steps.Nothing = []
epoch_packets_of old logs (steps.Own step) = map (in_epoch old.epoch) step.packets.items
epoch_packets_of old logs (steps.Known client number place) = []
epoch_packets_of old logs (steps.Refused client number refusal) = []
epoch_packets_of old logs (steps.Deferred entry) = []
epoch_packets_of old logs (steps.Ask to packet) =
    (to, record { epoch = old.epoch; purpose = purposes.Ask; packet = packet }) ∷ []
epoch_packets_of old logs (steps.AskAll packets) = map (asking_in old.epoch) packets.items
epoch_packets_of old logs (steps.Tell to epoch base) =
    telling_packets to epoch (past_packet old.node.id base (slice_get logs epoch))
epoch_packets_of old logs (steps.Began log packets) = map (in_epoch (old.epoch + 1)) packets.items
epoch_packets_of old logs steps.Replaced = []

-- the past logs of a node after a step: a log that it was sent is put last
abbrev pub logs_after : List (List Entry) → EpochStep → List (List Entry)
logs_after logs steps.Nothing = logs
logs_after logs (steps.Own step) = logs
logs_after logs (steps.Known client number place) = logs
logs_after logs (steps.Refused client number refusal) = logs
logs_after logs (steps.Deferred entry) = logs
logs_after logs (steps.Ask to packet) = logs
logs_after logs (steps.AskAll packets) = logs
logs_after logs (steps.Tell to epoch base) = logs
logs_after logs steps.Replaced = logs
logs_after logs (steps.Began log packets) = logs ++ log ∷ []

-- what `EpochNode::step` promises of a node whose past logs are these entries
abbrev pub MakesEpochStep : List Entry → EpochValue → EpochEvent → EpochValue → EpochStep → Type 0
MakesEpochStep past old event new step = DoesDeed past (deed past old event) old new step

-- By the step the node begins the next epoch.
abbrev pub BeginsByStep : EpochStep → Type 0
BeginsByStep (steps.Began log packets) = Unit {0}
BeginsByStep step = ⊥

-- what `EpochNode::begin_next` promises of a node whose past logs are these entries, where it begins an epoch
pub record BeginsWhereDue (past : List Entry) (old new : EpochValue) (packets : List (ℕ × Message)) : Type 0 where
  pub due : is_due old ≡ true
  pub begins : BeginsAfter past (committed_cut old) old new packets

-- the node that is started again in an epoch of which it has saved nothing
abbrev pub started_again : EpochValue → EpochValue
started_again e = record {
  epoch = e.epoch;
  past = e.past;
  most = e.most;
  token = e.token;
  node = node_in_view e.node.domain e.node.id e.node.n 0;
}

-- The node is started again in its epoch: it goes on from the state that it saved last, has heard nothing since, and
-- keeps of these past logs what it read anew.
pub record StartsInEpoch (past : List Entry) (old new : EpochValue) : Type 0 where
  pub epoch_is : new.epoch ≡ old.epoch
  pub past_is : StandFor past new.past
  pub most_is : new.most ≡ old.most
  pub token_is : new.token ≡ old.token
  pub node_is :
      new.node
      ≡ node_from (record { id = old.node.id; n = old.node.n; domain = old.node.domain }) old.node.saved

-- Node i is this one now, with these past logs, and has sent these packets. No other node has changed.
pub record NodeBecomes (n i : ℕ) (old : EpochNodes) (value : EpochValue) (logs : List (List Entry))
    (packets : List (ℕ × EpochPacket)) (new : EpochNodes) : Type 0 where
  pub is_node : i < n
  pub value_is : new.values i ≡ value
  pub logs_are : new.logs i ≡ logs
  pub other_values : (j : ℕ) → j ≢ i → new.values j ≡ old.values j
  pub other_logs : (j : ℕ) → j ≢ i → new.logs j ≡ old.logs j
  pub sent_is : new.sent ≡ old.sent ++ packets

-- What happens leads from a group to another.
abbrev pub ActLeads : ℕ → EpochNodes → EpochAct → EpochNodes → Type 0
ActLeads n old (Meets i event) new =
    (value : EpochValue) × (step : EpochStep) × WasSentBefore old.sent i event
    × MakesEpochStep (joined_logs (old.logs i)) (old.values i) event value step
    × NodeBecomes n i old value (logs_after (old.logs i) step) (epoch_packets_of (old.values i) (old.logs i) step) new
ActLeads n old (Begins i) new =
    (value : EpochValue) × (packets : List (ℕ × Message)) × BeginsWhereDue (joined_logs (old.logs i)) (old.values i)
    value packets
    × NodeBecomes n i old value (old.logs i ++ committed_cut (old.values i) ∷ [])
    (map (in_epoch ((old.values i).epoch + 1)) packets) new
ActLeads n old (BeginsAndEnds i) new =
    (value : EpochValue) × (packets : List (ℕ × Message)) × BeginsWhereDue (joined_logs (old.logs i)) (old.values i)
    value packets
    × NodeBecomes n i old (started_again value) (old.logs i ++ committed_cut (old.values i) ∷ []) [] new
ActLeads n old (MeetsAndEnds i event) new =
    (value : EpochValue) × (step : EpochStep) × WasSentBefore old.sent i event
    × MakesEpochStep (joined_logs (old.logs i)) (old.values i) event value step × BeginsByStep step
    × NodeBecomes n i old (started_again value) (logs_after (old.logs i) step) [] new
ActLeads n old (StartsAgain i) new =
    (value : EpochValue) × StartsInEpoch (joined_logs (old.logs i)) (old.values i) value
    × NodeBecomes n i old value (old.logs i) [] new

-- An event of an epoch's world is one at the node of a number. (A packet's delivery is at its receiver.)
abbrev pub IsAt : ℕ → World → WorldEvent → Type 0
IsAt number w (happens.Request i entry) = i ≡ number
IsAt number w (happens.Deliver k) = (sent : ℕ × Message) → packet_at w.packets k ≡ Some sent → sent.0 ≡ number
IsAt number w (happens.Resend i) = i ≡ number
IsAt number w (happens.Suspect i) = i ≡ number
IsAt number w (happens.Restart i) = i ≡ number

-- So do acts, one after the other.
abbrev pub ActsLead : ℕ → EpochNodes → List EpochAct → EpochNodes → Type 0
ActsLead n old [] new = old ≡ new
ActsLead n old (act ∷ more) new = (mid : EpochNodes) × ActLeads n old act mid × ActsLead n mid more new

-- what node i has committed of all epochs
abbrev pub history_of : EpochNodes → ℕ → List Entry
history_of g i = joined_logs (g.logs i) ++ committed_cut (g.values i)
