use Rattle.std.proofs.Common.{◌≤◌, ap, subst, arith, length, List}
use mathlib.Core.List.{IsPrefix}
use Rattle.desk_types.specs.declared.command.Entry.{Entry}
use Rattle.desk_published.proofs.Prefixes.{prefix_shorter}
use Rattle.desk_published.proofs.history.HistoryPrefix.begins_with.Goals as goal

pub returns-then-other-self : goal.returns-then-other-self
returns-then-other-self g c =
    let both = c.learn.new.self.log in
    let this : IsPrefix c.self.inside.seen.log both =
    subst (λ (l : List Entry). IsPrefix l both) (ap (λ s. s.log) c.again-both.ensures) c.learn.ensures.2 in
    let less : length c.other.inside.seen.log ≤ length c.self.inside.seen.log =
    omega (arith, c.self.invariant.0, c.other.invariant.0) in
    rw (← c.self.view_is, ← c.other.view_is)
    (prefix_shorter c.other.inside.seen.log c.self.inside.seen.log both c.learn.ensures.3 this less)
