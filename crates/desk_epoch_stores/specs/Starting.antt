-- What a node over epochs finds in its stores where it starts.
use Rattle.std.specs.Prelude.{◌≡◌, ◌≤◌, ℕ, ◌+◌, true, zero, suc, List, [], ◌++◌, Bool, ◌&&◌, nat_le, length}
use Rattle.desk_types.specs.declared.command.Entry.{Entry}
use Rattle.desk_types.specs.declared.limits.TheConstants.{LAST_PLACE, LOG_ENTRIES}
use Rattle.desk_log.specs.SavedValue.{SavedValue, committed_entries}
use Rattle.desk_epoch_node.specs.Ends.{cut_of, reaches_end}

-- An epoch ends after so many entries at most, and its places, which are counted after past logs, are within their
-- limit.
pub record HasPlaces (epoch past most : ℕ) : Type 0 where
  pub epoch_within : epoch ≤ past
  pub places_within : past + most ≤ LAST_PLACE
  pub least : 1 ≤ most
  pub most_within : most ≤ LOG_ENTRIES

-- What the stores of epochs may hold later, they may hold now.
abbrev pub MayHoldNoMore : {T : Type 0} → (T → ℕ → SavedValue → Type 0) → T → T → Type 0
MayHoldNoMore may_hold old new = (epoch : ℕ) (s : SavedValue) → may_hold new epoch s → may_hold old epoch s

-- what is committed of a saved state, up to its epoch's end
abbrev pub saved_cut : ℕ → SavedValue → List Entry
saved_cut most s = cut_of most (committed_entries s)

-- The epoch of this state has ended, and after so many places there are those of one more.
abbrev pub is_finished : ℕ → ℕ → SavedValue → Bool
is_finished most past s = reaches_end most (committed_entries s) && nat_le (past + most + most) LAST_PLACE

-- The past logs of an epoch are these, where the stores of the epochs before it may hold states that have ended, each
-- with places after it for one more.
abbrev pub MayHoldLogs : (ℕ → SavedValue → Type 0) → ℕ → ℕ → List Entry → Type 0
MayHoldLogs may_hold most zero past = past ≡ []
MayHoldLogs may_hold most (suc epoch) past =
    (before : List Entry) × (s : SavedValue) × MayHoldLogs may_hold most epoch before × may_hold epoch s
    × (is_finished most (length before) s ≡ true) × (past ≡ before ++ saved_cut most s)
