-- What a start over epochs finds in files, by what each of them is opened to.
use Rattle.std.proofs.Common.{◌≡◌, ◌∙◌, ◌+◌, ℕ, List, length, Some, inl, inr, ⊎_elim, sym, ap}
use Rattle.sqlite_trees.specs.declared.store.Store.{Ghosts}
use Rattle.desk_types.specs.declared.command.Entry.{Entry}
use Rattle.desk_log.specs.SavedValue.{SavedValue, initial_saved}
use Rattle.desk_saved.proofs.Restarts.{one_file}
use Rattle.desk_epoch_stores.specs.Starting.{saved_cut}
use Rattle.desk_refinement.specs.EpochStops.{FilesFindOneOf, FilesFindHeld, FilesHoldLogs, FindsLogs, IsFoundIn}
use Rattle.desk_refinement.proofs.SavedStops.{finds_either, finds_given}

-- A file that holds a state is found with that.
pub found_in : {S : Type 0} (g : Ghosts S) (holds : ℕ → SavedValue → Type 0) (epoch : ℕ) (state s : SavedValue) →
    IsFoundIn g holds epoch state → holds epoch s → s ≡ state
found_in g holds epoch state s (inl after) held =
    let (file, f, saved) = after s held in
    finds_given g file state s f saved
found_in g holds epoch state s (inr shown) held =
    let (owner, database, shows, found) = shown s held in
    one_file owner database s state found shows

found_logs : {S : Type 0} (g : Ghosts S) (holds : ℕ → SavedValue → Type 0) (most : ℕ) (logs : List (List Entry)) →
    FilesHoldLogs g holds most logs → FindsLogs holds most logs
found_logs g holds most logs files = record {
  past = λ epoch s small held.
      let (state, is, found) = files.past epoch small in
      is ∙ ap (λ (x : SavedValue). Some (saved_cut most x)) (sym (found_in g holds epoch state s found held));
  next = λ s held. found_in g holds (length logs + 1) initial_saved s files.next held;
}

pub files_find_held : {T S : Type 0} (may_hold : T → ℕ → SavedValue → Type 0) (g : Ghosts S) → FilesFindHeld may_hold g
files_find_held may_hold g files most logs state all own = record {
  logs_found = found_logs g (may_hold files) most logs all;
  own = λ s held. found_in g (may_hold files) (length logs) state s own held;
}

pub files_find_one_of : {T S : Type 0} (may_hold : T → ℕ → SavedValue → Type 0) (g : Ghosts S) →
    FilesFindOneOf may_hold g
files_find_one_of may_hold g files most logs one other all own = record {
  logs_found = found_logs g (may_hold files) most logs all;
  own = λ s held.
      let (file, last, f) = own s held in
      ⊎_elim (λ is. inl (is ∙ last)) (λ is. inr is) (finds_either g file other s f);
}
