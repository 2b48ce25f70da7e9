-- The stores of a node without what announces their saves.
use Rattle.std.specs.Prelude.{option_map}
use Rattle.desk_epoch_opening.specs.declared.refused_opening.RefusedOpening.{RefusedOpening}
use Rattle.desk_epoch_stores.specs.declared.ended_stores.EndedStores.{EndedStores}
use Rattle.desk_network.specs.declared.watched_store.WatchedStore.{WatchedStore}
use Rattle.desk_network.specs.declared.watched_stores.WatchedStores.{WatchedStores}

-- the stores that were watched
abbrev pub unwatched : {T S Q R : Type 0} → EndedStores (WatchedStores T Q R) (WatchedStore S R) → EndedStores T S
unwatched ended = record {
  stores = ended.stores.stores;
  epoch = ended.epoch;
  current = ended.current.store;
  next = option_map (λ w. w.store) ended.next;
}

-- the refusal, with what opens the stores that were to be watched
abbrev pub unwatched_refusal : {T Q R : Type 0} → RefusedOpening (WatchedStores T Q R) → RefusedOpening T
unwatched_refusal refused = record {
  refusal = refused.refusal;
  stores = option_map (λ w. w.stores) refused.stores;
}
