-- Which values have a spelling.
use Rattle.std.specs.Prelude.{◌≤◌, ◌<◌, ◌^◌, ◌&&◌, ℕ, ℤ, pos, negsuc, Bool, nat_le, List, length, IfSome, IsTrue}
use Rattle.std.specs.List.{AllByRecursion}
use Rattle.std.specs.Str.{IsUtf8}
use Rattle.desk_types.specs.Identifier.{IsCanonical}
use Rattle.desk_types.specs.NumberRange.{FitsNodeNumber, FitsNumber, FitsToken}
use Rattle.desk_types.specs.Packet.{IsInRange}
use Rattle.desk_types.specs.UnitName.{is_unit_name}
use Rattle.desk_types.specs.declared.command.Command.{Command}
use Rattle.desk_types.specs.declared.command.Command.TheVariants.{Open, AddCall, Link, Unlink, Merge, Split, Clear}
use Rattle.desk_types.specs.declared.command.Command.TheVariants.{Reopen, Note, SignOn, SignOff, Assign, SetStatus}
use Rattle.desk_types.specs.declared.command.Command.TheVariants.{Release, StandBy, StandDown, Replace}
use Rattle.desk_types.specs.declared.command.Entry.{Entry}
use Rattle.desk_types.specs.declared.limits.TheConstants.{KIND_BYTES, SITE_BYTES, NOTE_BYTES, LOG_ENTRIES, FRAME_BYTES}
use Rattle.desk_types.specs.declared.packet.Message.{Message}
use Rattle.desk_types.specs.declared.packet.Message.TheVariants.{Prepare, PrepareOk, Commit, StartViewChange}
use Rattle.desk_types.specs.declared.packet.Message.TheVariants.{DoViewChange, StartView, GetState, NewState}
use Rattle.desk_types.specs.declared.parts.IdKind.{IdKind}
use Rattle.desk_types.specs.declared.parts.IdKind.TheVariants as kinds
use Rattle.desk_codec.specs.declared.TheConstants.{HEAD_BYTES}

-- what eight bytes of two's complement hold
abbrev pub FitsSeconds : ℤ → Type 0
FitsSeconds (pos n) = n < 2 ^ 63
FitsSeconds (negsuc n) = n < 2 ^ 63

-- a text of 1 to so many bytes
abbrev pub FitsText : ℕ → List ℕ → Type 0
FitsText most t = (1 ≤ length t) × (length t ≤ most) × IsUtf8 t

-- the name of a unit
abbrev pub FitsUnit : List ℕ → Type 0
FitsUnit t = IsTrue (is_unit_name t) × IsUtf8 t

-- the canonical text of an identifier of this kind
abbrev pub FitsIdentifier : IdKind → List ℕ → Type 0
FitsIdentifier kind t = IsCanonical kind t × IsUtf8 t

-- the canonical text of an incident's identifier
abbrev pub FitsIncident : List ℕ → Type 0
FitsIncident t = FitsIdentifier kinds.Incident t

-- the canonical text of a call's identifier
abbrev pub FitsCall : List ℕ → Type 0
FitsCall t = FitsIdentifier kinds.Call t

-- a command whose fields are all within their ranges
abbrev pub FitsCommand : Command → Type 0
FitsCommand (Open at kind site incident call) = FitsSeconds at × FitsText KIND_BYTES kind × FitsText SITE_BYTES site
    × IfSome incident FitsIncident × IfSome call FitsCall
FitsCommand (AddCall at incident call) = FitsSeconds at × FitsIncident incident × FitsCall call
FitsCommand (Link at incident other) = FitsSeconds at × FitsIncident incident × FitsIncident other
FitsCommand (Unlink at incident other) = FitsSeconds at × FitsIncident incident × FitsIncident other
FitsCommand (Merge at incident into) = FitsSeconds at × FitsIncident incident × FitsIncident into
FitsCommand (Split at incident call kind site) = FitsSeconds at × FitsIncident incident × FitsCall call
    × FitsText KIND_BYTES kind × FitsText SITE_BYTES site
FitsCommand (Clear at incident) = FitsSeconds at × FitsIncident incident
FitsCommand (Reopen at incident) = FitsSeconds at × FitsIncident incident
FitsCommand (Note at incident note) = FitsSeconds at × FitsIncident incident × FitsText NOTE_BYTES note
FitsCommand (SignOn at unit) = FitsSeconds at × FitsUnit unit
FitsCommand (SignOff at unit) = FitsSeconds at × FitsUnit unit
FitsCommand (Assign at unit incident) = FitsSeconds at × FitsUnit unit × FitsIncident incident
FitsCommand (SetStatus at unit status) = FitsSeconds at × FitsUnit unit
FitsCommand (Release at unit) = FitsSeconds at × FitsUnit unit
FitsCommand (StandBy at unit incident) = FitsSeconds at × FitsUnit unit × FitsIncident incident
FitsCommand (StandDown at unit) = FitsSeconds at × FitsUnit unit
FitsCommand (Replace at node token) = FitsSeconds at × FitsNodeNumber node × FitsToken token

-- an entry whose numbers and command are within their ranges
pub record FitsEntry (e : Entry) : Type 0 where
  pub client : FitsNumber e.client
  pub number : FitsNumber e.number
  pub command : FitsCommand e.command

-- entries, each within its ranges
abbrev pub FitsEntries : List Entry → Type 0
FitsEntries entries = AllByRecursion FitsEntry entries

-- at most so many of them
abbrev pub FitsLog : ℕ → List Entry → Type 0
FitsLog most entries = FitsEntries entries × (length entries ≤ most)

-- the number of a node
abbrev pub FitsNode : ℕ → Type 0
FitsNode from = from < 256

-- the node that a message is from, and the entries that it carries, are within their ranges
abbrev pub FitsParts : Message → Type 0
FitsParts (Prepare from view place commit entry) = FitsNode from × FitsEntry entry
FitsParts (PrepareOk from view place) = FitsNode from
FitsParts (Commit from view commit) = FitsNode from
FitsParts (StartViewChange from view) = FitsNode from
FitsParts (DoViewChange from view normal commit log) = FitsNode from × FitsLog LOG_ENTRIES log
FitsParts (StartView from view commit log) = FitsNode from × FitsLog LOG_ENTRIES log
FitsParts (GetState from view base) = FitsNode from
FitsParts (NewState from view base commit entries) = FitsNode from × FitsLog LOG_ENTRIES entries

-- a message whose fields are all within their ranges, and within those that hold between them
pub record FitsMessage (m : Message) : Type 0 where
  pub range : IsInRange m
  pub parts : FitsParts m

-- a length that a packet can have: that of its head at least, and that of the longest frame at most
abbrev pub IsPacketLength : ℕ → Type 0
IsPacketLength n = (HEAD_BYTES ≤ n) × (n ≤ FRAME_BYTES)

-- whether it is one
abbrev pub is_packet_length : ℕ → Bool
is_packet_length n = nat_le HEAD_BYTES n && nat_le n FRAME_BYTES
