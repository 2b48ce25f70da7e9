use Rattle.std.proofs.Common.{◌≡◌, sym, subst, ap}
use Rattle.desk_saved.specs.DeskTables.{up_to}
use Rattle.desk_saved.specs.Changes.{change_effect, numbers_set}
use Rattle.desk_saved.proofs.RowChanges.{makes_same, makes_where}
use Rattle.desk_saved.proofs.steps.make_step.Goals as goal

pub returns-in-One-clause-makes : goal.returns-in-One-clause-makes
returns-in-One-clause-makes g c = rw c.in-One.is c.run.ensures.makes

pub returns-in-AddEntries-clause-makes : goal.returns-in-AddEntries-clause-makes
returns-in-AddEntries-clause-makes g c = rw c.in-AddEntries.is c.add_entries.ensures.makes

pub returns-in-Settle-clause-makes : goal.returns-in-Settle-clause-makes
returns-in-Settle-clause-makes g c = rw c.in-Settle.is c.settle_all.ensures.makes

pub returns-then-front-held-clause-makes : goal.returns-then-front-held-clause-makes
returns-then-front-held-clause-makes g c =
    rw c.in-CutPast.is (makes_same g.S.Store _ _ _ _ (λ rows within. ap (λ l. record rows { entries = l })
    (sym (subst (λ k. up_to k rows.entries ≡ rows.entries) (sym c.if-front-held.true) within.none_past))))

pub returns-else-front-held-clause-makes : goal.returns-else-front-held-clause-makes
returns-else-front-held-clause-makes g c =
    rw c.in-CutPast.is
    (makes_where g.S.Store _ _ _ _ _ _ (λ rows within. within.keyed) _ c.run-in-CutPast.ensures.makes)

pub returns-then-is_same-clause-makes : goal.returns-then-is_same-clause-makes
returns-then-is_same-clause-makes g c =
    rw c.in-SetChanged.is (makes_same g.S.Store _ _ _ _ (λ rows apt.
    sym (subst (λ m. change_effect (numbers_set m) rows ≡ rows) (c.is_same.ensures.0 c.if-is_same.true) apt.1)))

pub returns-else-is_same-clause-makes : goal.returns-else-is_same-clause-makes
returns-else-is_same-clause-makes g c =
    rw c.in-SetChanged.is
    (makes_where g.S.Store _ _ _ _ _ _ (λ rows apt. apt.0) _ c.run-in-SetChanged.ensures.makes)
