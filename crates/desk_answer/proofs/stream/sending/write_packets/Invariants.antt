use Rattle.std.proofs.Common.{map, take}
use Rattle.std.specs.Io.KnownBytes.{Appends}
use Rattle.desk_frames.specs.Stream.{frames_spelling}
use Rattle.desk_answer.proofs.stream.sending.write_packets.Given as goal

abbrev pub invariant-loop-sent : goal.invariant-loop-sent
invariant-loop-sent g l = Appends (g.W.Write.contents l.fn.writer) (g.W.Write.contents l.writer)
    (frames_spelling (map (λ sent. sent.1) (take l.sent-index l.packets)))
