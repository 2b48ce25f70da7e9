use Rattle.std.proofs.Common.{ap}
use Rattle.desk_frames.specs.Reading.{ReaderState}
use Rattle.desk_peers.proofs.Starts.{few_hold, few_refused}
use Rattle.desk_peers.proofs.start.start_frames.Goals as goal

pub returns-in-Ok-clause-standing : goal.returns-in-Ok-clause-standing
returns-in-Ok-clause-standing c =
    few_hold c.spellings.ensures.lengths c.in_ok-frames.frames.standing _ _ c.in-Ok.packets.items
    (ap (λ (s : ReaderState). s.standing) c.in_ok-frames.ensures) c.requires c.in-Ok.ensures.fed

pub returns-in-Err-clause-err : goal.returns-in-Err-clause-err
returns-in-Err-clause-err c =
    few_refused c.in_ok-frames.frames.standing _ _ c.in-Err.fault.refusal
    (ap (λ (s : ReaderState). s.standing) c.in_ok-frames.ensures) c.in-Err.ensures.fed
