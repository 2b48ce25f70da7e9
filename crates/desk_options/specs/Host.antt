-- What the words ask for where the host's files or sockets are needed for it, and the ranges of its numbers.
use Rattle.std.specs.Prelude.{◌<◌, ◌≤◌, ℕ, List, Option, Some, None, ⊤}
use Rattle.desk_types.specs.Group.{IsGroupSize}
use Rattle.desk_types.specs.NumberRange.{FitsToken}
use Rattle.desk_types.specs.declared.limits.TheConstants.{LAST_PLACE, LOG_ENTRIES}
use Rattle.desk_options.specs.CommandLine.{AsksAnswer, AsksServe, AsksCluster, AsksSend, AsksStatus, AsksPage}
use Rattle.desk_options.specs.CommandLine.{AsksLog}
use Rattle.desk_options.specs.CommandLine.{IsPort, most_port}
use Rattle.desk_options.specs.declared.command_line.choice.FollowOptions.{FollowOptions}
use Rattle.desk_options.specs.declared.command_line.choice.Options.{Options}
use Rattle.desk_options.specs.declared.command_line.choice.Options.TheVariants as asked
use Rattle.desk_options.specs.declared.command_line.port.TheConstants.{MOST_GROUP_PORT, MOST_PORT}
use Rattle.desk_options.specs.declared.command_line.send.TheConstants.{MOST_SECONDS}
use Rattle.desk_options.specs.declared.host.HostRun.{HostRun}
use Rattle.desk_options.specs.declared.host.HostRun.TheVariants.{Answer, Serve, Cluster, Send, Status, Page, Log}

-- the words ask for this run
abbrev pub AsksHost : List (List ℕ) → HostRun → Type 0
AsksHost words (Answer options) = AsksAnswer words options
AsksHost words (Serve options) = AsksServe words options
AsksHost words (Cluster options) = AsksCluster words options
AsksHost words (Send options) = AsksSend words options
AsksHost words (Status options) = AsksStatus words options
AsksHost words (Page options) = AsksPage words options
AsksHost words (Log options) = AsksLog words options

-- the number of nodes of a group that is followed, and the seconds, are in their ranges
abbrev pub IsFollowInRange : Option FollowOptions → Type 0
IsFollowInRange None = ⊤
IsFollowInRange (Some group) = IsGroupSize group.nodes × (1 ≤ group.seconds) × (group.seconds ≤ MOST_SECONDS)

-- an epoch may have so many places
abbrev pub FitsEpoch : ℕ → Type 0
FitsEpoch places = (1 ≤ places) × (places ≤ LOG_ENTRIES)

-- a token, where there is one, is in its range
abbrev pub IsMemberInRange : Option ℕ → Type 0
IsMemberInRange None = ⊤
IsMemberInRange (Some token) = FitsToken token

-- the numbers of nodes, of the node, of ports, of places, of a token and of seconds are in their ranges
abbrev pub IsRunInRange : HostRun → Type 0
IsRunInRange (Answer options) = IsGroupSize options.owner.n × (options.owner.id < options.owner.n)
IsRunInRange (Serve options) =
    IsGroupSize options.owner.n × (options.owner.id < options.owner.n) × IsPort MOST_GROUP_PORT options.port
    × FitsEpoch options.epoch_places × IsMemberInRange options.member
IsRunInRange (Cluster options) =
    IsGroupSize options.nodes × IsPort MOST_GROUP_PORT options.port × FitsEpoch options.epoch_places
IsRunInRange (Send options) = IsPort (most_port options.group) options.port × IsFollowInRange options.group
IsRunInRange (Status options) = IsGroupSize options.nodes × IsPort MOST_GROUP_PORT options.port
IsRunInRange (Page options) =
    IsGroupSize options.nodes × IsPort MOST_GROUP_PORT options.port × IsPort MOST_PORT options.listen
    × (1 ≤ options.seconds) × (options.seconds ≤ MOST_SECONDS)
IsRunInRange (Log options) = (1 ≤ options.from) × (options.from ≤ LAST_PLACE)

-- and so are those of all that words ask for
abbrev pub AreInRange : Options → Type 0
AreInRange (asked.Replay options) = ⊤
AreInRange (asked.World options) = IsGroupSize options.nodes
AreInRange (asked.Answer options) = IsRunInRange (Answer options)
AreInRange (asked.Serve options) = IsRunInRange (Serve options)
AreInRange (asked.Cluster options) = IsRunInRange (Cluster options)
AreInRange (asked.Send options) = IsRunInRange (Send options)
AreInRange (asked.Status options) = IsRunInRange (Status options)
AreInRange (asked.Page options) = IsRunInRange (Page options)
AreInRange (asked.Log options) = IsRunInRange (Log options)
AreInRange asked.Version = ⊤
