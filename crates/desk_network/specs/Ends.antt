-- What ends nodes on a network.
use Rattle.std.specs.Prelude.{◌≡◌, ◌⊎◌, false}
use Rattle.desk_types.specs.declared.refusal.Refusal.{Refusal}
use Rattle.desk_types.specs.Refusal.{IsWritingFault}
use Rattle.desk_replica.specs.Endings.{IsEndingRefusal}
use Rattle.desk_log.specs.declared.state_store.StateStore.{Ghosts}
use Rattle.desk_epoch_stores.specs.declared.ended_stores.EndedStores.{EndedStores}

-- The nodes were not started, or one has ended: its store failed, or another node acts in its place.
abbrev pub IsServingEnd : Refusal → Type 0
IsServingEnd r = IsWritingFault r ⊎ IsEndingRefusal r

-- The store of the epoch in which the node ended has not failed.
abbrev pub HasRunningStore : {T S : Type 0} → Ghosts S → EndedStores T S → Type 0
HasRunningStore g ended = g.stopped ended.current ≡ false
