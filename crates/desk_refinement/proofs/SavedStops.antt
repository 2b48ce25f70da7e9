-- What a node's file is opened to after a save that was stopped or failed.
use Rattle.std.proofs.Common.{◌⊎◌, ◌∙◌, sym, inl, inr, ⊎_elim, subst, append-nil}
use Rattle.sqlite_trees.specs.declared.store.Store.{Ghosts}
use Rattle.desk_log.specs.SavedValue.{SavedValue}
use Rattle.desk_saved.specs.File.{IsFileOf}
use Rattle.desk_saved.proofs.Restarts.{one_file, file_of}
use Rattle.desk_group.specs.Group.{KeeperBecomes, started}
use Rattle.desk_refinement.specs.Stops.{IsLeftBySave, FindsEither, StopsInSaveHappen}
use Rattle.desk_refinement.specs.Stops.{FindsGiven, StopsAfterSaveHappen}

pub finds_either : {S : Type 0} (g : Ghosts S) → FindsEither g
finds_either g file given found f =
    ⊎_elim (λ is. inl (one_file file.owner f.shown found file.last f.opened is))
    (λ is. inr (one_file file.owner f.shown found given f.opened is))
    (either f.saved)
  where
    either : IsLeftBySave g file given f.left →
        IsFileOf file.owner f.shown file.last ⊎ IsFileOf file.owner f.shown given
    either (inl failed) =
        failed.restart f.last_is f.running f.desk f.held f.clean f.shown f.leaves f.is_database
    either (inr (result, saved)) =
        saved.restart f.last_is f.running f.desk f.held f.clean f.shown f.leaves f.is_database

pub stops_in_save_happen : {S : Type 0} (g : Ghosts S) → StopsInSaveHappen g
stops_in_save_happen g domain n i old new turn packets owned file found t last f b handed =
    ⊎_elim
    (λ is. inl (subst (λ (x : SavedValue). KeeperBecomes n i old (started domain n i x) new) (is ∙ last) b, handed))
    (λ is. inr (
      owned,
      packets,
      t,
      subst (λ (x : SavedValue). KeeperBecomes n i old (started domain n i x) new) is b,
      handed ∙ sym (append-nil old.handed),
    ))
    (finds_either g file owned.node.saved found f)

pub finds_given : {S : Type 0} (g : Ghosts S) → FindsGiven g
finds_given g file given found f saved =
    let leaves = saved.preserved f.running f.desk f.held f.clean f.shown.trees f.leaves in
    one_file file.owner f.shown found given f.opened
    (file_of f.desk file.owner given f.shown f.is_database leaves.2 leaves.0 (saved.is_state f.last_is))

pub stops_after_save_happen : {S : Type 0} (g : Ghosts S) → StopsAfterSaveHappen g
stops_after_save_happen g domain n i count old new turn packets owned file found f t saved b handed = (
  owned,
  packets,
  t,
  subst (λ (x : SavedValue). KeeperBecomes n i old (started domain n i x) new)
      (finds_given g file owned.node.saved found f saved) b,
  handed,
)
