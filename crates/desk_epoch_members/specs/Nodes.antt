-- A group of nodes over epochs, each a number with a token, and what happens in it.
use Rattle.std.specs.Prelude.{◌≡◌, ◌≢◌, ℕ, List, [], ◌∷◌}
use Rattle.desk_types.specs.declared.command.Entry.{Entry}
use Rattle.desk_types.specs.declared.epoch_packet.EpochPacket.{EpochPacket}
use Rattle.desk_epoch_node.specs.EpochValue.{EpochValue}
use Rattle.desk_epoch_group.specs.Group.{ActLeads, EpochAct, EpochNodes, first_value, history_of}

-- the node of each number and token, the logs of past epochs that it keeps, and all packets that were ever sent, each
-- with the number that it was sent to
pub record TokenNodes : Type 0 where
  pub values : ℕ → ℕ → EpochValue
  pub logs : ℕ → ℕ → List (List Entry)
  pub sent : List (ℕ × EpochPacket)

-- the node of n at first that has this number and this token
abbrev pub first_token_value : List ℕ → ℕ → ℕ → ℕ → ℕ → EpochValue
first_token_value domain n most number token = record {
  epoch = 0;
  past = (first_value domain n most number).past;
  most = most;
  token = token;
  node = (first_value domain n most number).node;
}

-- nodes at first, and no packet
abbrev pub first_token_nodes : List ℕ → ℕ → ℕ → TokenNodes
first_token_nodes domain n most = record {
  values = λ number token. first_token_value domain n most number token;
  logs = λ number token. [];
  sent = [];
}

-- the nodes that have a token, one of each number, and all packets
abbrev pub nodes_with : TokenNodes → ℕ → EpochNodes
nodes_with g token =
    record { values = λ number. g.values number token; logs = λ number. g.logs number token; sent = g.sent }

-- What happens to a node with the token leads from a group to another, as it does where all have that token: packets
-- that were sent to its number come to it, whoever has sent them. Nodes with other tokens have not changed.
pub record TokenActLeads (n token : ℕ) (old : TokenNodes) (act : EpochAct) (new : TokenNodes) : Type 0 where
  pub leads : ActLeads n (nodes_with old token) act (nodes_with new token)
  pub other_values : (i t : ℕ) → t ≢ token → new.values i t ≡ old.values i t
  pub other_logs : (i t : ℕ) → t ≢ token → new.logs i t ≡ old.logs i t

-- So do acts, one after the other, each with the token of the node to which it happens.
abbrev pub TokenActsLead : ℕ → TokenNodes → List (ℕ × EpochAct) → TokenNodes → Type 0
TokenActsLead n old [] new = old ≡ new
TokenActsLead n old (act ∷ more) new =
    (mid : TokenNodes) × TokenActLeads n act.0 old act.1 mid × TokenActsLead n mid more new

-- what the node of a number and a token has committed of all epochs
abbrev pub token_history : TokenNodes → ℕ → ℕ → List Entry
token_history g number token = history_of (nodes_with g token) number
