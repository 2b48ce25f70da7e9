-- What ends a replica for good.
use Rattle.std.specs.Prelude.{◌≡◌, ◌⊎◌}
use Rattle.desk_types.specs.declared.refusal.Refusal.{Refusal}
use Rattle.desk_types.specs.declared.refusal.Refusal.TheVariants as refusals

-- Its store failed (`StoreFault`), or it is stopped (`NodeStopped`): its store had failed before, or another node acts
-- in its place.
abbrev pub IsEndingRefusal : Refusal → Type 0
IsEndingRefusal r = (r ≡ refusals.StoreFault) ⊎ (r ≡ refusals.NodeStopped)
