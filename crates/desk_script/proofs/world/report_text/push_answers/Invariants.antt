use Rattle.std.proofs.Common.{◌≡◌, ◌++◌, take, string_bytes}
use Rattle.std.specs.List.{flat_map}
use Rattle.desk_script.specs.ReportText.{answer_line}
use Rattle.desk_script.proofs.world.report_text.push_answers.Given as goal

abbrev pub invariant-loop-node : goal.invariant-loop-node
invariant-loop-node l =
    string_bytes l.text ≡ string_bytes l.fn.text ++ flat_map answer_line (take l.node-index l.answers)
