-- What refuses the start of a replica over epochs.
use Rattle.std.specs.Prelude.{◌≡◌, ◌⊎◌}
use Rattle.desk_types.specs.declared.refusal.Refusal.{Refusal}
use Rattle.desk_types.specs.declared.refusal.Refusal.TheVariants as refusals
use Rattle.desk_epoch_stores.specs.Refusals.{IsEpochRefusal}

-- A store was not opened, or another node acts in its place.
abbrev pub IsStartRefusal : Refusal → Type 0
IsStartRefusal r = IsEpochRefusal r ⊎ (r ≡ refusals.NodeStopped)
