use Rattle.std.proofs.Common.{rules, ◌≡◌, ◌++◌, ◌∷◌, [], take, length, ap, arith, ◌∙◌}
use Rattle.std.proofs.Math.Seq.{take-length}
use Rattle.desk_saved.specs.Clients.{clients_of}
use Rattle.desk_saved.proofs.ClientsRead.{one_client_more}
use Rattle.desk_saved.proofs.last_saved.push_clients.Goals as goal

pub loop-entry-preserved : goal.loop-entry-preserved
loop-entry-preserved c =
    let e = c.entry-item.result in
    let items : c.push.new.self.items ≡ c.loop-entry.clients.items ++ e.client ∷ [] = search rules in
    record {
      clients = items ∙ ap (λ l. l ++ e.client ∷ []) c.loop-entry.invariant.clients
          ∙ one_client_more c.args.clients.now.items c.args.entries.now c.loop-entry.entry-index e
          c.loop-entry-test.true c.entry-item.is;
    }

pub returns : goal.returns
returns c =
    let all : c.loop-entry.entry-index ≡ length c.args.entries.now =
    omega (arith, c.loop-entry-test.false, c.loop-entry.auto.entry-index-end) in
    c.loop-entry.invariant.clients
    ∙ ap (λ l. c.args.clients.now.items ++ clients_of l)
    (ap (λ k. take k c.args.entries.now) all ∙ take-length c.args.entries.now)
