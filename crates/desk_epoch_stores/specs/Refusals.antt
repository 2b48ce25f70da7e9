-- What refuses the opening of a node's stores.
use Rattle.std.specs.Prelude.{◌≡◌, ◌⊎◌}
use Rattle.desk_types.specs.declared.refusal.Refusal.{Refusal}
use Rattle.desk_types.specs.declared.refusal.Refusal.TheVariants as refusals

-- Memory was refused, the store failed, or it is missing or another node's.
abbrev pub IsEpochRefusal : Refusal → Type 0
IsEpochRefusal r = (r ≡ refusals.WantOfMemory) ⊎ (r ≡ refusals.StoreFault) ⊎ (r ≡ refusals.WrongFile)
