-- How far the history goes, as other nodes say.
use Rattle.std.specs.Prelude.{ℕ, ◌+◌, ◌-◌, ◌*◌, ◌^◌, min}
use Rattle.desk_types.specs.declared.epoch_packet.EpochPacket.{EpochPacket}
use Rattle.desk_types.specs.declared.limits.TheConstants.{LOG_ENTRIES}
use Rattle.desk_types.specs.declared.packet.Message.{Message}
use Rattle.desk_types.specs.declared.packet.Message.TheVariants as messages

-- a place of an epoch's log as a number: later places of the epoch have greater ones, and all of later epochs
abbrev pub point : ℕ → ℕ → ℕ
point epoch place = min (min (epoch * (LOG_ENTRIES + 1)) (2 ^ 64 - 1) + place) (2 ^ 64 - 1)

-- the commit that a message tells, or 0 where it tells none
abbrev pub commit_in : Message → ℕ
commit_in (messages.Prepare from view place commit entry) = commit
commit_in (messages.PrepareOk from view place) = 0
commit_in (messages.Commit from view commit) = commit
commit_in (messages.StartViewChange from view) = 0
commit_in (messages.DoViewChange from view normal commit log) = commit
commit_in (messages.StartView from view commit log) = commit
commit_in (messages.GetState from view base) = 0
commit_in (messages.NewState from view base commit entries) = commit

-- how far a packet says that the history goes: its epoch is there, and the commit that it tells
abbrev pub heard_point : EpochPacket → ℕ
heard_point packet = point packet.epoch (commit_in packet.packet)
