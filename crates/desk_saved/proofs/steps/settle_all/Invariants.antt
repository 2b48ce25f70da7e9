use Rattle.std.proofs.Common.{◌≡◌, Ok, take}
use Rattle.desk_saved.specs.DeskTables.{Keeps, AreKeyed}
use Rattle.desk_saved.specs.Clients.{settle_all}
use Rattle.desk_saved.specs.Transactions.{MakesRows}
use Rattle.desk_saved.proofs.steps.settle_all.Given as goal

abbrev pub invariant-loop-client : goal.invariant-loop-client
invariant-loop-client g l = record {
  same : l.tx.conn.ghost_name ≡ l.fn.tx.conn.ghost_name;
  makes : MakesRows g.S.Store l.fn.tx.conn.now l.tx.conn.now Keeps (λ rows. AreKeyed rows.clients) (Ok tt)
      (λ rows. record rows { clients = settle_all l.log (take l.client-index l.clients) rows.clients }) (Unit {0});
}
