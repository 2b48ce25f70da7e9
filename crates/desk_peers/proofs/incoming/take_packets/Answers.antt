use Rattle.std.proofs.Common.{inl, refl}
use Rattle.desk_peers.proofs.Starts.{fault_of_none, whole_when, ends_when, no_packets_put}
use Rattle.desk_peers.proofs.incoming.take_packets.Goals as goal

pub returns-in-Err-clause-err : goal.returns-in-Err-clause-err
returns-in-Err-clause-err g c = inl (c.in-Err.ensures.err, refl)

pub returns-in-Err-clause-fault : goal.returns-in-Err-clause-fault
returns-in-Err-clause-fault g c = fault_of_none c.args.places.places _ _ _ c.in-Err.ensures.err

pub returns-in-Err-clause-from : goal.returns-in-Err-clause-from
returns-in-Err-clause-from g c = no_packets_put c.args.from _

pub returns-in-Ok-None-clause-ok : goal.returns-in-Ok-None-clause-ok
returns-in-Ok-None-clause-ok g c =
    inl ((c.in-Ok-None.ensures.none c.in-Ok-None.field-0-is).0, refl)

pub returns-in-Ok-None-clause-from : goal.returns-in-Ok-None-clause-from
returns-in-Ok-None-clause-from g c = no_packets_put c.args.from _

pub returns-in-Ok-Some-clause-err : goal.returns-in-Ok-Some-clause-err
returns-in-Ok-Some-clause-err g c =
    ends_when c.args.places.places c.args.from _ (g.I.Read.remaining c.read_start.new.reader) _
    c.in-Ok-Some.start.header c.in-Ok-Some.start.bytes.items _ _
    (rw c.in-Ok-Some.field-0-is at c.in-Ok-Some.ensures.some) c.take_frames.result.1 c.take_frames.ensures.err

pub returns-in-Ok-Some-clause-ok : goal.returns-in-Ok-Some-clause-ok
returns-in-Ok-Some-clause-ok g c =
    whole_when c.args.places.places c.args.from _ (g.I.Read.remaining c.read_start.new.reader) _
    c.in-Ok-Some.start.header c.in-Ok-Some.start.bytes.items _ _
    (rw c.in-Ok-Some.field-0-is at c.in-Ok-Some.ensures.some) c.take_frames.result.1 c.take_frames.ensures.ok
