use Rattle.std.proofs.Common.{refl, ◌∙◌}
use Rattle.std.specs.Vec.Iter.{into_iter_items}
use Rattle.desk_frames.proofs.Receiving.{parts_of}
use Rattle.desk_peers.proofs.Putting.{put_none, put_one, put_first}
use Rattle.desk_peers.proofs.incoming.put_packets.Goals as goal

pub loop-packet-init : goal.loop-packet-init
loop-packet-init g c = record { same = (refl, refl); put = put_none c.args.header c.args.from _ }

pub loop-packet-preserved : goal.loop-packet-preserved
loop-packet-preserved g c =
    let h = c.loop-packet.invariant in
    let k = c.put_packet-back.ensures in
    record {
      same = (k.same.0 ∙ h.same.0, k.same.1 ∙ h.same.1);
      put = put_one c.args.header c.args.from _ _ _ c.loop-packet.yielded c.in-Some.packet c.put_packet-back.result.1
          h.put k.put c.if-not-put.false;
    }

pub returns-then-not-put-clause-err : goal.returns-then-not-put-clause-err
returns-then-not-put-clause-err g c =
    put_first c.args.header c.args.from _ _ _ c.args.packets.items c.loop-packet.yielded
    (into_iter_items c.next.new.self) c.in-Some.packet c.put_packet-back.result.1
    (parts_of c.args.packets.items c.into_iter-packet-iterator.result c.loop-packet.yielded
    c.loop-packet.packet-iterator c.in-Some.packet c.next.new.self
    c.into_iter-packet-iterator.ensures.into_iter_gives.0 c.loop-packet.yielded_by c.in-Some.ensures.steps)
    c.loop-packet.invariant.put c.put_packet-back.ensures.put c.if-not-put.true
