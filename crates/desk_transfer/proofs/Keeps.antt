-- The rules of state transfer undo nothing.
use Rattle.std.proofs.Common.{◌≤◌, ℕ, not, ◌&&◌, ◌||◌, List, length, eqb, leb, ltb, refl}
use Rattle.std.proofs.lemmas.Bool.{or_parts, ltb-false}
use Rattle.desk_types.specs.declared.command.Entry.{Entry}
use Rattle.desk_log.specs.Change.{is_normal, keeps_committed}
use Rattle.desk_log.specs.Quorum.{primary}
use Rattle.desk_log.specs.SavedValue.{SavedValue}
use Rattle.desk_transfer.specs.Laws.{GetStateKeeps, NewStateKeeps}
use Rattle.desk_transfer.specs.Rules.{joined_log, is_no_longer, on_get_state, on_new_state}
use Rattle.desk_log.proofs.NeverFalls.{UndoesNothing, keeps_if, keeps_same, keeps_nothing, keeps_adoption}

keeps_get_state : (i : ℕ) (s : SavedValue) (from w b : ℕ) → UndoesNothing s (on_get_state i s from w b)
unfolding on_get_state
keeps_get_state i s from w b =
    keeps_if (is_normal s && eqb w s.view && leb b (length s.log) && not (eqb from i))
    (λ _. keeps_same s _ refl)
    (λ _. keeps_nothing s)

pub get_state_keeps : GetStateKeeps
get_state_keeps i s from w b = (keeps_get_state i s from w b).preserved

keeps_new_state : (i n : ℕ) (s : SavedValue) (w b c : ℕ) (es : List Entry) → s.normal ≤ s.view →
    UndoesNothing s (on_new_state i n s w b c es)
unfolding on_new_state
keeps_new_state i n s w b c es order =
    keeps_if (ltb w s.view || eqb i (primary n w) || ltb s.commit b) (λ _. keeps_nothing s) (λ t.
    let a = or_parts (ltb w s.view || eqb i (primary n w)) (ltb s.commit b) t in
    let fresh : s.view ≤ w = ltb-false w s.view (or_parts (ltb w s.view) (eqb i (primary n w)) a.0).0 in
    keeps_if (is_no_longer s w (joined_log s b es)) (λ _. keeps_nothing s) (λ _.
    keeps_if (keeps_committed s (joined_log s b es))
    (λ fit. keeps_adoption i n s w c (joined_log s b es) order fresh fit)
    (λ _. keeps_nothing s)))

pub new_state_keeps : NewStateKeeps
new_state_keeps i n s w b c es order = (keeps_new_state i n s w b c es order).preserved
