use Rattle.std.proofs.Common.{FitsSigned, rules}
use Rattle.std.specs.Int.{w64}
use Rattle.std.proofs.lemmas.Int.{to_z-of_z}
use Rattle.desk_eido.proofs.shown.with_place_values.Goals as goal

pub returns : goal.returns
returns c =
    let range : FitsSigned w64 c.args.incident.now.opened = search rules in
    rw (
      c.get.ensures.value,
      c.in_ok-count.ensures,
      c.in_ok-seconds.ensures,
      to_z-of_z w64 c.args.incident.now.opened range,
      c.in_ok-text.ensures,
    ) at c.count-2.ensures
