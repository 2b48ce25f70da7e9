-- The opening of the file of an epoch.
use Rattle.std.specs.Prelude.{◌≡◌, ◌⊎◌, ℕ, Bool, false, List}
use Rattle.sqlite_trees.specs.declared.store.Store.{Ghosts}
use Rattle.sqlite.specs.State.{HasCleanDisk}
use Rattle.sqlite.specs.Held.{Held, state}
use Rattle.desk_types.specs.declared.owner.Owner.{Owner}
use Rattle.desk_types.specs.declared.refusal.Refusal.TheVariants as refusals
use Rattle.desk_log.specs.SavedValue.{SavedValue, initial_saved}
use Rattle.desk_saved.specs.Opening.{HasOpened, HasRefused}
use Rattle.desk_saved.specs.Store.{StoreValue}
use Rattle.desk_file.specs.Names.{name_in_epoch}
use Rattle.desk_file.specs.EpochTable.{IsOfEpoch, ShowsEpoch, ShowsOther}

module _ {S : Type 0} (g : Ghosts S) (owner : Owner) where
  -- A database was opened as a node's file of an epoch: by its mark it is that epoch's, and then the state of the node
  -- was opened in it.
  pub record OpensEpoch (epoch : ℕ) (found : Held S) (store : StoreValue S) : Type 0 where
    pub asked : Held S
    pub marked : HasCleanDisk (state g asked) → IsOfEpoch g found asked epoch
    pub opened : HasOpened g asked owner store

  -- the file of an epoch may be found with this state as the one that was saved last
  abbrev pub MayHold : (List ℕ → Held S → Type 0) → List ℕ → ℕ → SavedValue → Type 0
  MayHold may_open file epoch s = (found : Held S) × may_open (name_in_epoch file epoch) found
      × (store : StoreValue S) × OpensEpoch epoch found store × (store.last ≡ s)

  -- A database is a node's file of an epoch that is to begin: the state of the node was opened in it, which is its
  -- first unless the epoch before has ended, and by its mark it is that epoch's.
  pub record MakesNext (epoch : ℕ) (has_ended : Bool) (found : Held S) : Type 0 where
    pub asked : Held S
    pub store : StoreValue S
    pub opened : HasOpened g asked owner store
    pub first : has_ended ≡ false → store.last ≡ initial_saved
    pub last : Held S
    pub marked : HasCleanDisk (state g last) → (before : Held S) × ShowsEpoch g before last epoch

  -- A database is no file of the node's that may become the one of an epoch: it has a mark that is not the epoch's, or
  -- no state of the node was opened in it, or another one than a node's first.
  abbrev pub IsOthersFile : ℕ → Held S → Type 0
  IsOthersFile epoch found =
      (asked : Held S) × ((HasCleanDisk (state g asked) → ShowsOther g found asked epoch)
      ⊎ (((left : Held S) × HasRefused g asked owner left refusals.WrongFile)
      ⊎ ((store : StoreValue S) × HasOpened g asked owner store × ¬ (store.last ≡ initial_saved))))

  -- the file of an epoch may be found ready for it
  abbrev pub MayBeReady : (List ℕ → Held S → Type 0) → List ℕ → ℕ → Bool → Type 0
  MayBeReady may_open file epoch has_ended =
      (found : Held S) × may_open (name_in_epoch file epoch) found × MakesNext epoch has_ended found

  -- the file of an epoch may be found as another's
  abbrev pub MayBeOthers : (List ℕ → Held S → Type 0) → List ℕ → ℕ → Type 0
  MayBeOthers may_open file epoch =
      (found : Held S) × may_open (name_in_epoch file epoch) found × IsOthersFile epoch found
