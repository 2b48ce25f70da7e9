use Rattle.std.proofs.Common.{◌≡◌, length, map, take, bit_xor}
use Rattle.desk_key.proofs.hmac.pad_block.Given as goal

-- the bytes so far are done
abbrev pub invariant-loop-i : goal.invariant-loop-i
invariant-loop-i l = (length l.padded ≡ 64) × (take l.i l.padded ≡ map (λ byte. bit_xor byte l.pad) (take l.i l.block))
