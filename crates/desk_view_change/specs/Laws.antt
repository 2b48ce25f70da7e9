-- What the rules never undo, whatever comes, packets of lying nodes included.
use Rattle.std.specs.Prelude.{◌≤◌, ℕ, Bool, List}
use Rattle.desk_types.specs.declared.command.Entry.{Entry}
use Rattle.desk_log.specs.NeverFalls.{NeverFalls}
use Rattle.desk_log.specs.SavedValue.{SavedValue}
use Rattle.desk_view_change.specs.Heard.{ViewChangeHeard}
use Rattle.desk_view_change.specs.Rules.{on_start_view_change, on_do_view_change, on_start_view, on_suspect}
use Rattle.desk_view_change.specs.Rules.{view_change_resend}

abbrev pub StartViewChangeKeeps : Type 0
StartViewChangeKeeps = (i n : ℕ) (s : SavedValue) (heard : ViewChangeHeard) (from view : ℕ) → s.normal ≤ s.view →
    NeverFalls s (on_start_view_change i n s heard from view).saved

abbrev pub DoViewChangeKeeps : Type 0
DoViewChangeKeeps = (i n : ℕ) (s : SavedValue) (heard : ViewChangeHeard) (from view normal commit : ℕ)
    (log : List Entry) →
    s.normal ≤ s.view → NeverFalls s (on_do_view_change i n s heard from view normal commit log).saved

abbrev pub StartViewKeeps : Type 0
StartViewKeeps = (i n : ℕ) (s : SavedValue) (from view commit : ℕ) (log : List Entry) → s.normal ≤ s.view →
    NeverFalls s (on_start_view i n s from view commit log).saved

abbrev pub SuspectKeeps : Type 0
SuspectKeeps = (i n : ℕ) (s : SavedValue) → NeverFalls s (on_suspect i n s).saved

abbrev pub ViewChangeResendKeeps : Type 0
ViewChangeResendKeeps = (i n : ℕ) (s : SavedValue) (askers : List Bool)
    → NeverFalls s (view_change_resend i n s askers).saved
