use Rattle.std.proofs.Common.{◌≤◌, length, arith}
use Rattle.desk_types.specs.declared.limits.TheConstants.{UNIT_BYTES}
use Rattle.desk_codec.proofs.Fields.{unit_length}
use Rattle.desk_codec.proofs.push_body.push_unit.Goals as goal

pub push_short_text-requires : goal.push_short_text-requires
push_short_text-requires c =
    let le : length c.args.unit.now ≤ UNIT_BYTES = unit_length c.args.unit.now c.as_text.ensures.valid in
    rw c.as_text.ensures.value (omega (arith, le))
