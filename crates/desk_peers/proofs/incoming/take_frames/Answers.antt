use Rattle.std.proofs.Common.{Ok, Some, refl, subst, ◌∙◌}
use Rattle.desk_frames.specs.Reading.{ReadOnce}
use Rattle.desk_frames.specs.Stream.{Holds}
use Rattle.desk_frames.proofs.Receiving.{come_packets, come_refused}
use Rattle.desk_peers.proofs.Putting.{begins, takes_more, takes_first, ends_by_read, ends_at_start}
use Rattle.desk_peers.proofs.incoming.take_frames.Goals as goal

pub pieces-init : goal.pieces-init
pieces-init g c = record {
  read = (
    c.args.start.now.bytes.items,
    subst (Holds c.in-Ok.frames.standing) c.as_slice.ensures.value c.in-Ok.ensures.standing,
    begins c.args.start.now.header c.args.from _ _ _,
  );
  waiting = c.in-Ok.ensures.waiting;
  same = (refl, refl);
}

pub returns-in-Err-clause-err : goal.returns-in-Err-clause-err
returns-in-Err-clause-err g c =
    ends_at_start _ _ _ _ _ c.in-Err.refusal (rw c.as_slice.ensures.value at c.in-Err.ensures.err)

pub returns-in-Err-read_packets-clause-err : goal.returns-in-Err-read_packets-clause-err
returns-in-Err-read_packets-clause-err g c =
    let i = c.pieces.invariant in
    ends_by_read _ _ _ _ _ _ _ _ i.read.0 c.in-Err-read_packets.refusal i.read.2
    (come_refused _ _ c.pieces.frames c.read_packets.new.reader i.read.0 i.read.1 c.spellings.ensures.lengths
    c.in-Err-read_packets.refusal (rw c.in-Err-read_packets.is at (c.read_packets.ensures.read i.waiting)))

pub returns-in-Err-outcome-clause-err : goal.returns-in-Err-outcome-clause-err
returns-in-Err-outcome-clause-err g c =
    let i = c.pieces.invariant in
    let h = c.put_packets-back.ensures in
    let read : ReadOnce (g.I.Read.remaining c.pieces.reader) (g.I.Read.remaining c.read_packets.new.source)
    c.pieces.frames (Ok (Some c.in-Ok-Some.packets.items)) c.read_packets.new.reader =
    rw (c.in-Ok-Some.is, c.in-Ok-Some.field-0-is) at (c.read_packets.ensures.read i.waiting) in
    let come = come_packets _ _ c.pieces.frames c.read_packets.new.reader i.read.0 i.read.1
    c.in-Ok-Some.packets.items read in
    takes_first c.args.start.now.header c.args.from _ _ _ _ _ _ _ i.read.0 come.0 c.in-Ok-Some.packets.items i.read.2
    come.1 c.in-Err-outcome.refusal (rw c.in-Err-outcome.is at h.fault) (rw c.in-Err-outcome.is at h.err)

pub pieces-preserved : goal.pieces-preserved
pieces-preserved g c =
    let i = c.pieces.invariant in
    let h = c.put_packets-back.ensures in
    let read : ReadOnce (g.I.Read.remaining c.pieces.reader) (g.I.Read.remaining c.read_packets.new.source)
    c.pieces.frames (Ok (Some c.in-Ok-Some.packets.items)) c.read_packets.new.reader =
    rw (c.in-Ok-Some.is, c.in-Ok-Some.field-0-is) at (c.read_packets.ensures.read i.waiting) in
    let come = come_packets _ _ c.pieces.frames c.read_packets.new.reader i.read.0 i.read.1
    c.in-Ok-Some.packets.items read in
    record {
      read = (
        come.0,
        come.2,
        takes_more c.args.start.now.header c.args.from _ _ _ _ _ _ _ i.read.0 come.0 c.in-Ok-Some.packets.items
            i.read.2 come.1 (rw c.in_default.is at h.ok),
      );
      waiting = come.3;
      same = (h.same.0 ∙ i.same.0, h.same.1 ∙ i.same.1);
    }
