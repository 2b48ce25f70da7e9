use Rattle.std.proofs.Common.{◌+◌, ◌*◌, ◌≤◌, length, ◌∙◌, arith}
use Rattle.desk_arena.proofs.NodeBytes.{written-word}
use Rattle.desk_arena.proofs.node.write_words.Goals as goal

pub loop-i-preserved : goal.loop-i-preserved
loop-i-preserved c =
    let ws = c.args.words.now in
    let w = c.word_bytes-bytes.ensures.bytes in
    let fits : c.args.at + 4 * length ws ≤ length c.args.block.now = omega arith in
    record {
      bytes = rw w at c.write.ensures.bytes
          ∙ written-word c.args.block.now c.loop-i.block ws c.args.at c.loop-i.i
          (omega arith) fits c.loop-i.invariant.bytes;
      len = c.write.ensures.len ∙ c.loop-i.invariant.len;
    }
