use Rattle.std.proofs.Common.{[]}
use Rattle.std.specs.List.{AllByRecursion}
use Rattle.desk_saved.specs.Changes.{StandsBefore, AreApt, effects, SparesMissing, SparesStep, SparesAll}
use Rattle.desk_saved.proofs.RowChanges.{makes_then}
use Rattle.desk_saved.proofs.transactions.write.Goals as goal

pub returns-clause-makes : goal.returns-clause-makes
returns-clause-makes g c = makes_then g.S.Store c.args.tx.now.conn.now c.create_missing.new.tx.conn.now
    c.run_all.new.tx.conn.now (StandsBefore c.args.missing) (AreApt c.args.steps.now)
    (λ _. Unit {0}) (AreApt c.args.steps.now) (effects []) (effects c.args.steps.now) (λ rows apt. (tt, apt))
    (SparesAll c.args.missing c.args.steps.now) (SparesMissing c.args.missing)
    (AllByRecursion SparesStep c.args.steps.now) (λ spares. spares)
    c.run_all.result c.in_ok-create_missing.ensures.makes c.run_all.ensures.makes
