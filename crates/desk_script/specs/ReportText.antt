-- The lines that tell what a run of a group of nodes gave.
use Rattle.std.specs.Prelude.{ℕ, ◌+◌, List, [], ◌∷◌, ◌++◌, length, codes, decimal}
use Rattle.std.specs.List.{flat_map, enumerate_from}
use Rattle.desk_types.specs.Packet.{sender}
use Rattle.desk_types.specs.declared.outcome.Outcome.{Outcome}
use Rattle.desk_types.specs.declared.packet.Message.{Message}
use Rattle.desk_types.specs.declared.packet.Message.TheVariants.{Prepare, PrepareOk, Commit, StartViewChange}
use Rattle.desk_types.specs.declared.packet.Message.TheVariants.{DoViewChange, StartView, GetState, NewState}
use Rattle.desk_eido.specs.ReplyLine.{line_of}
use Rattle.desk_log.specs.SavedValue.{SavedValue}
use Rattle.desk_world.specs.Report.{OutputValue}

-- texts one after the other
abbrev pub joined_parts : List (List ℕ) → List ℕ
joined_parts [] = []
joined_parts (t ∷ []) = t
joined_parts (t ∷ u ∷ ts) = t ++ joined_parts (u ∷ ts)

-- what a message says; of its entries only how many they are
abbrev pub message_text : Message → List ℕ
message_text (Prepare from view place commit entry) =
    joined_parts (codes "Prepare view " ∷ decimal view ∷ codes " place " ∷ decimal place
    ∷ codes " commit " ∷ decimal commit ∷ [])
message_text (PrepareOk from view place) =
    joined_parts (codes "PrepareOk view " ∷ decimal view ∷ codes " place " ∷ decimal place ∷ [])
message_text (Commit from view commit) =
    joined_parts (codes "Commit view " ∷ decimal view ∷ codes " commit " ∷ decimal commit ∷ [])
message_text (StartViewChange from view) = joined_parts (codes "StartViewChange view " ∷ decimal view ∷ [])
message_text (DoViewChange from view normal commit log) =
    joined_parts (codes "DoViewChange view " ∷ decimal view ∷ codes " normal " ∷ decimal normal
    ∷ codes " log " ∷ decimal (length log) ∷ codes " commit " ∷ decimal commit ∷ [])
message_text (StartView from view commit log) =
    joined_parts (codes "StartView view " ∷ decimal view
    ∷ codes " log " ∷ decimal (length log) ∷ codes " commit " ∷ decimal commit ∷ [])
message_text (GetState from view base) =
    joined_parts (codes "GetState view " ∷ decimal view ∷ codes " base " ∷ decimal base ∷ [])
message_text (NewState from view base commit entries) =
    joined_parts (codes "NewState view " ∷ decimal view ∷ codes " base " ∷ decimal base
    ∷ codes " log " ∷ decimal (length entries) ∷ codes " commit " ∷ decimal commit ∷ [])

-- the line of a packet: its number, its sender, its receiver and what it says
unfoldable pub packet_line : ℕ × (ℕ × Message) → List ℕ
packet_line (k, (to, message)) =
    joined_parts (codes "packet " ∷ decimal k ∷ codes ": " ∷ decimal (sender message) ∷ codes " to " ∷ decimal to
    ∷ codes " " ∷ message_text message ∷ codes "\n" ∷ [])

-- the lines of packets, of which the first has a number
abbrev pub packet_lines : ℕ → List (ℕ × Message) → List ℕ
packet_lines k packets = flat_map packet_line (enumerate_from k packets)

-- the line of an answer: its node and the reply line
unfoldable pub answer_line : ℕ × Outcome → List ℕ
answer_line (node, outcome) = joined_parts (codes "answer " ∷ decimal node ∷ codes ": " ∷ line_of outcome ∷ [])

-- the lines of what an event gave: its packets, then its answers
unfoldable pub output_lines : ℕ → OutputValue → List ℕ
output_lines k output = packet_lines k output.packets ++ flat_map answer_line output.answers

-- the lines of what each event gave, where the first packet of the first has a number
abbrev pub outputs_lines : ℕ → List OutputValue → List ℕ
outputs_lines k [] = []
outputs_lines k (output ∷ outputs) = output_lines k output ++ outputs_lines (k + length output.packets) outputs

-- the line of what a node saves
unfoldable pub node_line : ℕ × SavedValue → List ℕ
node_line (node, saved) =
    joined_parts (codes "node " ∷ decimal node ∷ codes ": view " ∷ decimal saved.view
    ∷ codes " normal " ∷ decimal saved.normal ∷ codes " log " ∷ decimal (length saved.log)
    ∷ codes " commit " ∷ decimal saved.commit ∷ codes "\n" ∷ [])

-- the whole text: what each event gave, with its packets numbered from 1, then what each node saves
abbrev pub report_text : List OutputValue → List SavedValue → List ℕ
report_text outputs nodes = outputs_lines 1 outputs ++ flat_map node_line (enumerate_from 0 nodes)
