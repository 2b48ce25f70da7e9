use Rattle.std.proofs.Common.{arith}
use Rattle.desk_saved.proofs.RowChanges.{quiet_then}
use Rattle.desk_saved.proofs.MissingTables.{clients_come, all_come}
use Rattle.desk_saved.proofs.changes.create_missing.Goals as goal

pub returns-in-Clients-clause-makes : goal.returns-in-Clients-clause-makes
returns-in-Clients-clause-makes g c = rw c.in-Clients.is
    (clients_come g.S.Store c.args.tx.now.conn.now c.create.new.tx.conn.now c.create.result c.create.ensures.quiet
    c.create.ensures.made)

pub returns-in_ok-create-in-All-2-clause-makes : goal.returns-in_ok-create-in-All-2-clause-makes
returns-in_ok-create-in-All-2-clause-makes g c =
    let a = c.args.tx.now.conn.now in
    let b = c.create-in-All.new.tx.conn.now in
    let d = c.create-in-All-2.new.tx.conn.now in
    let e = c.create-in-All-3.new.tx.conn.now in
    rw c.in-All.is
    (all_come g.S.Store a b d e c.create-in-All-3.result
    (quiet_then g.S.Store a d e _
    (quiet_then g.S.Store a b d _ c.in_ok-create-in-All.ensures.quiet c.in_ok-create-in-All-2.ensures.quiet)
    c.create-in-All-3.ensures.quiet)
    (λ clean. omega (arith, c.create-in-All-3.ensures.quiet.survives.clean))
    (λ clean. omega (arith, c.create-in-All-2.ensures.quiet.survives.clean))
    c.in_ok-create-in-All.ensures.made c.in_ok-create-in-All-2.ensures.made c.create-in-All-3.ensures.made)
