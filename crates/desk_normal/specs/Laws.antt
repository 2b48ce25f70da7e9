-- What the rules never undo, whatever comes, packets of lying nodes included.
use Rattle.std.specs.Prelude.{ℕ, List}
use Rattle.desk_types.specs.declared.command.Entry.{Entry}
use Rattle.desk_log.specs.NeverFalls.{NeverFalls}
use Rattle.desk_log.specs.SavedValue.{SavedValue}
use Rattle.desk_normal.specs.Rules.{on_request, on_prepare, on_prepare_ok, on_commit, normal_resend}

abbrev pub RequestKeeps : Type 0
RequestKeeps = (i n : ℕ) (s : SavedValue) (entry : Entry) → NeverFalls s (on_request i n s entry).saved

abbrev pub PrepareKeeps : Type 0
PrepareKeeps = (i n : ℕ) (s : SavedValue) (from view place commit : ℕ) (entry : Entry) →
    NeverFalls s (on_prepare i n s from view place commit entry).saved

abbrev pub PrepareOkKeeps : Type 0
PrepareOkKeeps = (i n : ℕ) (s : SavedValue) (places : List ℕ) (from view place : ℕ) →
    NeverFalls s (on_prepare_ok i n s places from view place).saved

abbrev pub CommitKeeps : Type 0
CommitKeeps = (i n : ℕ) (s : SavedValue) (from view commit : ℕ) → NeverFalls s (on_commit i n s from view commit).saved

abbrev pub ResendKeeps : Type 0
ResendKeeps = (i n : ℕ) (s : SavedValue) → NeverFalls s (normal_resend i n s).saved
