use Rattle.std.proofs.Common.{sym, subst, arith, length, None}
use Rattle.desk_frames.specs.declared.frame.FrameStage.{FrameStage}
use Rattle.desk_frames.specs.Frame.{Taken}
use Rattle.desk_frames.proofs.Steps.{all_covers, passes_on, passes_end}
use Rattle.desk_frames.proofs.frame.OpenFrame.pass.Goals as goal
use Rattle.desk_frames.proofs.frame.OpenFrame.pass.Goals.{then-bytes-left, else-bytes-left}

pub returns : goal.returns
returns c =
    let f = c.args.self.now in
    let bytes = c.args.bytes.now in
    let now = c.self.inside.entries.items in
    elim c.if-bytes-left.branch [
      | then-bytes-left w ↦
          subst (λ (p : FrameStage). Taken f bytes (length bytes) None (record { stage = p; entries = now }))
          (sym w.self-is)
          (record {
            within = omega arith;
            some = c.requires.some;
            moved = passes_on c.args.left f c.requires.stage bytes now (omega arith);
            keeps = λ es k a. absurd a;
            covers = all_covers f.stage bytes;
          })
      | else-bytes-left w ↦
          subst (λ (p : FrameStage). Taken f bytes (length bytes) None (record { stage = p; entries = now }))
          (sym w.self-is)
          (record {
            within = omega arith;
            some = c.requires.some;
            moved = passes_end c.args.left f c.requires.stage bytes now;
            keeps = λ es k a. absurd a;
            covers = all_covers f.stage bytes;
          })
    ]
