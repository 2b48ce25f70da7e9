use Rattle.std.proofs.Common.{◌≡◌, ◌++◌, take, string_bytes}
use Rattle.std.specs.List.{flat_map, enumerate_from}
use Rattle.desk_script.specs.ReportText.{node_line}
use Rattle.desk_script.proofs.world.report_text.push_nodes.Given as goal

abbrev pub invariant-loop-i : goal.invariant-loop-i
invariant-loop-i l =
    string_bytes l.text ≡ string_bytes l.fn.text ++ flat_map node_line (enumerate_from 0 (take l.i l.nodes))
