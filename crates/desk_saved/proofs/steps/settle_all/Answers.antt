use Rattle.std.proofs.Common.{◌≡◌, ◌∙◌, Ok, take, length, ap, subst, arith}
use Rattle.std.proofs.Math.Seq.{take-length}
use Rattle.desk_saved.specs.Transactions.{MakesRows}
use Rattle.desk_saved.specs.DeskTables.{Keeps, StateRows, AreKeyed}
use Rattle.desk_saved.specs.Clients.{settle, settle_all}
use Rattle.desk_saved.proofs.Settling.{keyed_all, settle_next}
use Rattle.desk_saved.proofs.RowChanges.{makes_as, makes_then}
use Rattle.desk_saved.proofs.steps.settle_all.Goals as goal

pub loop-client-preserved : goal.loop-client-preserved
loop-client-preserved g c =
    let inv = c.loop-client.invariant in
    let k = c.loop-client.client-index in
    let client = c.client-item.result in
    let clients = c.args.clients.now in
    let log = c.args.log.now in
    let before = c.args.tx.now.conn.now in
    let after = c.settle.new.tx.conn.now in
    let Keyed : StateRows → Type 0 = λ rows. AreKeyed rows.clients in
    record {
      same = c.settle.ensures.same_reference ∙ inv.same;
      makes = makes_as g.S.Store before after Keyed
          (λ rows. record rows { clients = settle log client (settle_all log (take k clients) rows.clients) }) _
          (Unit {0})
          (λ rows. ap (λ l. record rows { clients = l })
          (settle_next log clients k client rows.clients c.loop-client-test.true c.client-item.is))
          (makes_then g.S.Store before c.loop-client.tx.conn.now after Keeps Keyed Keyed Keyed _ _
          (λ rows keyed. (keyed, keyed_all log (take k clients) rows.clients keyed)) (Unit {0}) (Unit {0}) (Unit {0})
          (λ _. (tt, tt)) _ inv.makes
          c.in_ok-settle.ensures.makes);
    }

pub returns-clause-makes : goal.returns-clause-makes
returns-clause-makes g c =
    let all : c.loop-client.client-index ≡ length c.args.clients.now =
    omega (arith, c.loop-client-test.false, c.loop-client.auto.client-index-end) in
    let whole = ap (λ k. take k c.args.clients.now) all ∙ take-length c.args.clients.now in
    subst (λ l. MakesRows g.S.Store c.args.tx.now.conn.now c.loop-client.tx.conn.now Keeps
    (λ rows. AreKeyed rows.clients)
    (Ok tt) (λ rows. record rows { clients = settle_all c.args.log.now l rows.clients }) (Unit {0})) whole
    c.loop-client.invariant.makes
