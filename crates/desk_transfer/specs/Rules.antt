-- How node i of n hands over entries, and gets those that it lacks.
use Rattle.std.specs.Prelude.{ℕ, not, Bool, ◌&&◌, ◌||◌, ◌==◌, nat_lt, nat_le, if◌then◌else◌, List, ◌++◌, length, take}
use Rattle.std.specs.Prelude.{drop}
use Rattle.desk_types.specs.declared.command.Entry.{Entry}
use Rattle.desk_types.specs.declared.packet.Message.TheVariants.{NewState}
use Rattle.desk_log.specs.Change.{Change, nothing, one_packet, is_normal, keeps_committed, adoption}
use Rattle.desk_log.specs.Quorum.{primary}
use Rattle.desk_log.specs.SavedValue.{SavedValue}

-- A normal node of the view hands over its entries after a place that it has.
unfoldable pub on_get_state : ℕ → SavedValue → ℕ → ℕ → ℕ → Change
on_get_state i saved from view base =
    if is_normal saved && (view == saved.view) && nat_le base (length saved.log) && not (from == i)
    then one_packet saved from (NewState i saved.view base saved.commit (drop base saved.log))
    else nothing saved

-- the node's entries up to a place, and those that were handed over
abbrev pub joined_log : SavedValue → ℕ → List Entry → List Entry
joined_log saved base entries = take base saved.log ++ entries

-- whether a log of a view is no longer than that of a node that is normal there
abbrev pub is_no_longer : SavedValue → ℕ → List Entry → Bool
is_no_longer saved view log = is_normal saved && (view == saved.view) && nat_le (length log) (length saved.log)

unfoldable pub on_new_state : ℕ → ℕ → SavedValue → ℕ → ℕ → ℕ → List Entry → Change
on_new_state i n saved view base commit entries =
    if nat_lt view saved.view || i == primary n view || nat_lt saved.commit base then nothing saved
    else if is_no_longer saved view (joined_log saved base entries) then nothing saved
    else if keeps_committed saved (joined_log saved base entries)
    then adoption i n saved view commit (joined_log saved base entries)
    else nothing saved
