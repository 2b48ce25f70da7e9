-- A node over epochs as its callers see it.
use Rattle.std.specs.Prelude.{◌≡◌, ◌≤◌, ℕ, ◌+◌, Bool, true, false, nat_le, List}
use Rattle.desk_types.specs.Group.{IsGroup}
use Rattle.desk_types.specs.declared.command.Entry.{Entry}
use Rattle.desk_types.specs.declared.limits.TheConstants.{LAST_PLACE, LOG_ENTRIES}
use Rattle.desk_log.specs.SavedValue.{committed_entries}
use Rattle.desk_node.specs.NodeValue.{NodeValue}
use Rattle.desk_epoch_node.specs.declared.standing.Standing.{Standing}
use Rattle.desk_epoch_node.specs.declared.standing.Standing.TheVariants.{Acts, Awaits, Replaced}
use Rattle.desk_epoch_node.specs.declared.cut.Cut.{Cut}
use Rattle.desk_epoch_node.specs.Ends.{IsCut, cut_of}
use Rattle.desk_epoch_node.specs.PastRows.{PastValue}
use Rattle.desk_epoch_node.specs.Replacements.{standing_after}

-- the epoch that the node is in, counted from 0, what it keeps of past logs, how many entries end an epoch, its own
-- token, and its node of the epoch
pub record EpochValue : Type 0 where
  pub epoch : ℕ
  pub past : PastValue
  pub most : ℕ
  pub token : ℕ
  pub node : NodeValue

-- An epoch has an entry at least, and no more than a log may have. All places of this one are within their limit.
pub record IsInEpoch (e : EpochValue) : Type 0 where
  pub epoch_within : e.epoch ≤ e.past.length
  pub places_within : e.past.length + e.most ≤ LAST_PLACE
  pub least : 1 ≤ e.most
  pub most_within : e.most ≤ LOG_ENTRIES
  pub group : IsGroup e.node.n

-- what the node has committed of its epoch, up to the epoch's end
abbrev pub committed_cut : EpochValue → List Entry
committed_cut e = cut_of e.most (committed_entries e.node.saved)

-- whether the places of one epoch more are within their limit
abbrev pub has_next : EpochValue → Bool
has_next e = nat_le (e.past.length + e.most + e.most) LAST_PLACE

-- what the node does under its number
abbrev pub standing_of : EpochValue → Standing
standing_of e = standing_after e.past.replacements e.node.id e.token

abbrev pub is_acting : Standing → Bool
is_acting Acts = true
is_acting Awaits = false
is_acting Replaced = false

-- whether the node acts in its epoch
abbrev pub acts : EpochValue → Bool
acts e = is_acting (standing_of e)

-- It is in an epoch, and what is noted beside it is how much of that it has committed, and what it does there.
pub record IsKept (e : EpochValue) (cut : Cut) (kept : Standing) : Type 0 where
  pub place : IsInEpoch e
  pub cut_is : IsCut e.most (committed_entries e.node.saved) cut
  pub standing_is : kept ≡ standing_of e
