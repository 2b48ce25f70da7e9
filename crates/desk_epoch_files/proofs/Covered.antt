-- The files of past epochs, as those that the node goes on with.
use Rattle.std.proofs.Common.{◌≡◌, ℕ, List, Result, Ok, Err, IfOk, IfSome, subst}
use Rattle.std.specs.Result.{result_ok}
use Rattle.sqlite_trees.specs.declared.store.Store.{Ghosts}
use Rattle.sqlite.specs.Held.{Held}
use Rattle.desk_types.specs.declared.owner.Owner.{Owner}
use Rattle.desk_log.specs.SavedValue.{SavedValue}
use Rattle.desk_file.specs.Names.{name_in_epoch}
use Rattle.desk_epoch_files.specs.Opening.{MayHold, OpensEpoch}

-- what holds of a value where there is one holds of it without its fault
pub some_where_ok : {A E : Type 0} (P : A → Type 0) (r : Result A E) → IfOk r P → IfSome (result_ok r) P
some_where_ok P (Ok value) holds = holds
some_where_ok P (Err fault) holds = holds

-- what a file may hold it may hold where the same node opens it by the same name among more databases
pub covered : {S : Type 0} (g : Ghosts S) (owner other : Owner) (opens also : List ℕ → Held S → Type 0)
    (file name : List ℕ) (epoch : ℕ) (s : SavedValue) → ((at : List ℕ) → (c : Held S) → opens at c → also at c) →
    file ≡ name → owner ≡ other → MayHold g owner opens file epoch s → MayHold g other also name epoch s
covered g owner other opens also file name epoch s covers names nodes held = (
  held.0,
  covers _ held.0 (subst (λ f. opens (name_in_epoch f epoch) held.0) names held.1),
  held.2,
  subst (λ o. OpensEpoch g o epoch held.0 held.2) nodes held.3,
  held.4,
)
