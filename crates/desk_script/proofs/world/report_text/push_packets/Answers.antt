use Rattle.std.proofs.Common.{length, string_bytes, ap, ◌∙◌, arith}
use Rattle.desk_script.specs.ReportText.{packet_line}
use Rattle.desk_script.proofs.ReportLines.{numbered_more, longer}
use Rattle.desk_script.proofs.world.report_text.push_packets.Goals as goal

pub prove-unreachable-requires : goal.prove-unreachable-requires
prove-unreachable-requires c =
    let more = longer (string_bytes c.loop-to.text) (c.loop-to.number, c.loop-to-item.result) in
    let length_is = ap length c.in_ok-push_packet.ensures.line in
    omega (arith, more, length_is, c.len.ensures, c.if-prove.true, c.loop-to.invariant.within)

pub loop-to-preserved : goal.loop-to-preserved
loop-to-preserved c =
    let more = longer (string_bytes c.loop-to.text) (c.loop-to.number, c.loop-to-item.result) in
    let length_is = ap length c.in_ok-push_packet.ensures.line in
    record {
      lines = c.in_ok-push_packet.ensures.line ∙ rw c.loop-to-item.is
          (numbered_more packet_line _ _ _ c.loop-to.to-index _ _ _ c.loop-to-test.true
          c.loop-to.invariant.count c.loop-to.invariant.lines);
      count = omega (arith, c.loop-to.invariant.count);
      within = omega (arith, more, length_is, c.loop-to.invariant.within);
    }
