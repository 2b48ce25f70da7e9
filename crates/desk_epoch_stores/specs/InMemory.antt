-- What is held in memory of a node's epochs.
use Rattle.std.specs.Prelude.{◌≡◌, ◌==◌, ℕ, if◌then◌else◌}
use Rattle.std.specs.Option.{option_map_or}
use Rattle.std.specs.Ordering.{nat_cmp}
use Rattle.std.specs.BTreeMap.{get}
use Rattle.desk_log.specs.SavedValue.{SavedValue, initial_saved}
use Rattle.desk_epoch_stores.specs.declared.memory_stores.MemoryStores.{MemoryStores}

-- the state in the store of an epoch that was closed; that of a node that has done nothing, where none was
abbrev pub closed_state : MemoryStores → ℕ → SavedValue
closed_state stores epoch = option_map_or (λ store. store.last) (get nat_cmp stores.closed epoch) initial_saved

-- Of one epoch this is the state, and of each other one that of before.
abbrev pub ChangesState : MemoryStores → MemoryStores → ℕ → SavedValue → Type 0
ChangesState old new epoch state =
    (e : ℕ) → closed_state new e ≡ (if epoch == e then state else closed_state old e)
