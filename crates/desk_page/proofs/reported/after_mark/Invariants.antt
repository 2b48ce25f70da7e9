use Rattle.std.proofs.Common.{◌≡◌, drop}
use Rattle.desk_page.specs.Reported.{after_mark}
use Rattle.desk_page.proofs.reported.after_mark.Given as goal

-- the mark stands nowhere before i
abbrev pub invariant-loop-i : goal.invariant-loop-i
invariant-loop-i l = after_mark l.mark l.text ≡ after_mark l.mark (drop l.i l.text)
