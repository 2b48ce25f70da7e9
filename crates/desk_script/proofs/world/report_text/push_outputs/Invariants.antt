use Rattle.std.proofs.Common.{◌≡◌, ◌≤◌, ◌+◌, ◌++◌, length, drop, string_bytes}
use Rattle.desk_script.specs.ReportText.{outputs_lines}
use Rattle.desk_script.proofs.world.report_text.push_outputs.Given as goal

abbrev pub invariant-loop-output : goal.invariant-loop-output
invariant-loop-output l = record {
  lines : string_bytes l.text ++ outputs_lines l.number (drop l.output-index l.outputs)
      ≡ string_bytes l.fn.text ++ outputs_lines 1 l.outputs;
  within : l.number ≤ length (string_bytes l.text) + 1;
}
