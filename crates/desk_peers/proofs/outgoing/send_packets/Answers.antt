use Rattle.std.proofs.Common.{[], ◌∷◌, ◌++◌, refl, sym, ap, ◌∙◌, append_assoc, append-nil}
use Rattle.desk_mailbox.specs.Ends.{taken_by}
use Rattle.desk_peers.specs.Outgoing.{packets_in}
use Rattle.desk_peers.proofs.Carrying.{goes_new, goes_one, goes_to_end}
use Rattle.desk_peers.proofs.outgoing.send_packets.Goals as goal

pub loop-init : goal.loop-init
loop-init g c = record {
  same = refl;
  taken = (
    [],
    sym (append-nil (taken_by c.args.queue.taker)),
    goes_new c.args.places.places (g.C.Connect.closed c.args.connector) c.new-link.result c.new-link.ensures,
  );
}

pub loop-preserved : goal.loop-preserved
loop-preserved g c =
    let i = c.loop.invariant in
    let sent = c.in-Some-taken.sent in
    record {
      same = c.take-back.ensures.same ∙ i.same;
      taken = (
        i.taken.0 ++ sent ∷ [],
        rw c.in-Some-taken.is at c.take-back.ensures.took ∙ ap (λ t. t ++ sent ∷ []) i.taken.1
            ∙ append_assoc (taken_by c.args.queue.taker) i.taken.0 (sent ∷ []),
        goes_one c.args.places.places (g.C.Connect.closed c.args.connector) i.taken.0 sent c.loop.link
            c.send-next.result.0 c.send-next.result.1 i.taken.2 c.send-next.ensures,
      );
    }

pub returns-in-None-taken-clause-carried : goal.returns-in-None-taken-clause-carried
returns-in-None-taken-clause-carried g c =
    let i = c.loop.invariant in (
      i.taken.0,
      rw c.in-None-taken.is at c.take-back.ensures.took ∙ i.taken.1,
      goes_to_end c.args.places.places (g.C.Connect.closed c.args.connector) (packets_in i.taken.0) c.loop.link
          (g.C.Connect.closed c.close.result) i.taken.2 c.close.ensures,
    )
