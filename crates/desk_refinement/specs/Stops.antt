-- Where a node's file is opened to after a stop in a save, or after its fault.
use Rattle.std.specs.Prelude.{◌≡◌, ◌⊎◌, ◌++◌, ℕ, false, take, List, Result, Ok}
use Rattle.sqlite_trees.specs.declared.store.Store.{Ghosts}
use Rattle.sqlite.specs.Effect.{Database, IsDatabase}
use Rattle.sqlite.specs.State.{HasCleanDisk}
use Rattle.sqlite.specs.Held.{state}
use Rattle.desk_types.specs.declared.epoch_packet.EpochPacket.{EpochPacket}
use Rattle.desk_types.specs.declared.refusal.Refusal.{Refusal}
use Rattle.desk_log.specs.SavedValue.{SavedValue}
use Rattle.desk_mailbox.specs.declared.item.Item.{Item}
use Rattle.desk_saved.specs.DeskTables.{Layout}
use Rattle.desk_saved.specs.File.{IsState, HoldsFile, IsFileOf}
use Rattle.desk_saved.specs.SameFile.{HasFailed}
use Rattle.desk_saved.specs.Saving.{HasSaved}
use Rattle.desk_saved.specs.Store.{StoreValue}
use Rattle.desk_threads.specs.OwnedValue.{OwnedValue}
use Rattle.desk_group.specs.Group.{Keepers, Breaks, Restarts, OneTurn, KeeperBecomes, Happens, started}

-- A save of a state leaves a file so: it failed, as `leaves` of a `StateStore` has it, or it was under way or done.
abbrev pub IsLeftBySave : {S : Type 0} → Ghosts S → StoreValue S → SavedValue → StoreValue S → Type 0
IsLeftBySave g file given left = HasFailed g file given left
    ⊎ ((result : Result (Unit {0}) Refusal) × HasSaved g file left given result)

-- A running object held the state that it saved last. A save of another was stopped or failed, and the database that is
-- there then is opened to a state.
pub record FindsAfterSave {S : Type 0} (g : Ghosts S) (file : StoreValue S) (given found : SavedValue) : Type 0 where
  pub running : file.stopped ≡ false
  pub last_is : IsState file.last
  pub desk : Layout
  pub held : HoldsFile g desk file.connection file.owner file.last
  pub left : StoreValue S
  pub saved : IsLeftBySave g file given left
  pub clean : HasCleanDisk (state g left.connection)
  pub shown : Database
  pub leaves : (state g left.connection).may_leave shown.trees
  pub is_database : IsDatabase shown
  pub opened : IsFileOf file.owner shown found

-- It is the state before the save or the one that was to be saved.
abbrev pub FindsEither : {S : Type 0} → Ghosts S → Type 0
FindsEither {S} g = (file : StoreValue S) (given found : SavedValue) → FindsAfterSave g file given found →
    (found ≡ file.last) ⊎ (found ≡ given)

-- So where the save was that of a turn of a group's keeper, and the keeper is started again with what is found, that is
-- a restart from the state before the turn, or a stop in it of which no packet went out.
abbrev pub StopsInSaveHappen : {S : Type 0} → Ghosts S → Type 0
StopsInSaveHappen {S} g = (domain : List ℕ) (n i : ℕ) (old new : Keepers) (turn : List Item)
    (packets : List (ℕ × EpochPacket)) (owned : OwnedValue) (file : StoreValue S) (found : SavedValue) →
    OneTurn i old turn packets owned → file.last ≡ (old.keepers i).node.saved →
    FindsAfterSave g file owned.node.saved found → KeeperBecomes n i old (started domain n i found) new →
    new.handed ≡ old.handed → Happens domain n old (Restarts i) new ⊎ Happens domain n old (Breaks i turn 0) new

-- Where that save has answered Ok, what is found is the state that was saved.
abbrev pub FindsGiven : {S : Type 0} → Ghosts S → Type 0
FindsGiven {S} g = (file : StoreValue S) (given found : SavedValue) (f : FindsAfterSave g file given found) →
    HasSaved {T = Unit {0}} g file f.left given (Ok tt) → found ≡ given

-- So where a turn of a group's keeper was saved, and some first part of its packets was handed out then, a start with
-- what is found is a stop in that turn.
abbrev pub StopsAfterSaveHappen : {S : Type 0} → Ghosts S → Type 0
StopsAfterSaveHappen {S} g = (domain : List ℕ) (n i count : ℕ) (old new : Keepers) (turn : List Item)
    (packets : List (ℕ × EpochPacket)) (owned : OwnedValue) (file : StoreValue S) (found : SavedValue)
    (f : FindsAfterSave g file owned.node.saved found) → OneTurn i old turn packets owned →
    HasSaved {T = Unit {0}} g file f.left owned.node.saved (Ok tt) →
    KeeperBecomes n i old (started domain n i found) new → new.handed ≡ old.handed ++ take count packets →
    Happens domain n old (Breaks i turn count) new
