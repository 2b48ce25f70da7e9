-- A file whose rows are those of the state that was saved last stays one after a save.
use Rattle.std.proofs.Common.{Ok}
use Rattle.sqlite_trees.specs.declared.store.Store.{Ghosts}
use Rattle.desk_log.specs.SavedValue.{SavedValue}
use Rattle.desk_saved.specs.Saving.{KeepsFile, HasSaved}
use Rattle.desk_saved.specs.Store.{StoreValue}
pub use Rattle.desk_saved.specs.SameFile.{preserved_still, preserved_further}

pub preserved_by_save : {S T : Type 0} (g : Ghosts S) (old new : StoreValue S) (given : SavedValue) (x : T) →
    HasSaved g old new given (Ok x) → KeepsFile g old new
preserved_by_save g old new given x h d holds = ((h.saved h.last.2 d holds).2, h.others h.last.2 d holds)
