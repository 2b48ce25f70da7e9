use Rattle.std.proofs.Common.{◌≡◌, ◌+◌, ◌*◌, ◌++◌, length, take, drop}
use Rattle.desk_arena.specs.Nodes.{words_bytes}
use Rattle.desk_arena.proofs.node.write_words.Given as goal

abbrev pub invariant-loop-i : goal.invariant-loop-i
invariant-loop-i l = record {
  bytes : l.block ≡ take l.at l.fn.block ++ words_bytes (take l.i l.words) ++ drop (l.at + 4 * l.i) l.fn.block;
  len : length l.block ≡ length l.fn.block;
}
