use Rattle.std.proofs.Common.{◌≡◌, ◌++◌, take}
use Rattle.desk_page.specs.Groups.{texts_from}
use Rattle.desk_page.proofs.group.push_others.Given as goal

-- the nodes so far are written
abbrev pub invariant-loop-i : goal.invariant-loop-i
invariant-loop-i l = l.text.items ≡ l.fn.text.items ++ texts_from 1 (take l.i l.places)
