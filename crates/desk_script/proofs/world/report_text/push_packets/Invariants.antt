use Rattle.std.proofs.Common.{◌≡◌, ◌≤◌, ◌+◌, ◌++◌, length, take, string_bytes}
use Rattle.desk_script.specs.ReportText.{packet_lines}
use Rattle.desk_script.proofs.world.report_text.push_packets.Given as goal

abbrev pub invariant-loop-to : goal.invariant-loop-to
invariant-loop-to l = record {
  lines : string_bytes l.text ≡ string_bytes l.fn.text ++ packet_lines l.fn.first (take l.to-index l.packets);
  count : l.number ≡ l.fn.first + l.to-index;
  within : l.number ≤ length (string_bytes l.text) + 1;
}
