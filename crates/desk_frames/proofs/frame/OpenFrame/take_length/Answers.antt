use Rattle.std.proofs.Common.{ap, subst, sym, ◌∙◌, arith, None}
use Rattle.desk_frames.specs.Frame.{FrameState, IsAwaited, Taken, stage_after_length}
use Rattle.desk_frames.proofs.Steps.{length_moves, length_covers}
use Rattle.desk_frames.proofs.frame.OpenFrame.take_length.Goals as goal

pub returns : goal.returns
returns c =
    let old : FrameState = record { stage = c.self.inside.stage; entries = c.self.inside.entries.items } in
    let p = c.stage_after_length-self-inside.result in
    let new : FrameState = record { stage = p; entries = c.self.inside.entries.items } in
    let bytes = c.args.bytes.now in
    let begins = ap (λ (f : FrameState). f.stage) c.self.view_is ∙ c.requires.stage in
    subst (λ (f : FrameState). Taken f bytes 4 None new) c.self.view_is (record {
      within = omega arith;
      some = omega arith;
      moved = (length_moves old begins c.self.invariant bytes (omega arith) (λ i. omega (arith, c.type_inv.bytes i)) p
          (c.stage_after_length-self-inside.ensures ∙ ap stage_after_length c.length_announced.ensures)).0;
      keeps = λ es k a. k (subst IsAwaited (sym begins) tt);
      covers = length_covers old begins c.self.invariant bytes (omega arith)
          (λ i. omega (arith, c.type_inv.bytes i));
    })
