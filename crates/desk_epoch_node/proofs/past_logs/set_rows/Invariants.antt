use Rattle.std.proofs.Common.{◌≡◌, List, ◌++◌, length, take}
use Rattle.desk_types.specs.declared.command.Entry.{Entry}
use Rattle.desk_epoch_node.specs.PastRows.{AreLatestRows}
use Rattle.desk_epoch_node.proofs.past_logs.set_rows.Given as goal

abbrev pub invariant-loop-index : goal.invariant-loop-index
invariant-loop-index l =
    (past : List Entry) → l.before ≡ length past → AreLatestRows past l.fn.rows.entries →
    AreLatestRows (past ++ take l.index l.entries) l.rows.entries
