use Rattle.std.proofs.Common.{arith, bit_xor}
use Rattle.std.proofs.lemmas.List.{length-set}
use Rattle.desk_key.proofs.Pads.{map_step}
use Rattle.desk_key.proofs.hmac.pad_block.Goals as goal

pub loop-i-preserved : goal.loop-i-preserved
loop-i-preserved c = (
  grind (arith, length-set),
  map_step (λ byte. bit_xor byte c.args.pad) c.loop-i.padded c.args.block.now c.loop-i.i
      (omega (arith, c.loop-i.invariant.0)) (omega arith) c.loop-i.invariant.1,
)
