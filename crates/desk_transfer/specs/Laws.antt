-- What the rules never undo, whatever comes, packets of lying nodes included.
use Rattle.std.specs.Prelude.{◌≤◌, ℕ, List}
use Rattle.desk_types.specs.declared.command.Entry.{Entry}
use Rattle.desk_log.specs.NeverFalls.{NeverFalls}
use Rattle.desk_log.specs.SavedValue.{SavedValue}
use Rattle.desk_transfer.specs.Rules.{on_get_state, on_new_state}

abbrev pub GetStateKeeps : Type 0
GetStateKeeps = (i : ℕ) (s : SavedValue) (from view base : ℕ) → NeverFalls s (on_get_state i s from view base).saved

abbrev pub NewStateKeeps : Type 0
NewStateKeeps = (i n : ℕ) (s : SavedValue) (view base commit : ℕ) (entries : List Entry) → s.normal ≤ s.view →
    NeverFalls s (on_new_state i n s view base commit entries).saved
