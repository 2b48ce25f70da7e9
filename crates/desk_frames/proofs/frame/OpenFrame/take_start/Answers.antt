use Rattle.std.proofs.Common.{subst, sym, arith, take}
use Rattle.desk_codec.specs.Starts.{start_spelling}
use Rattle.desk_frames.specs.Frame.{AfterPart, FrameState, IsAwaited}
use Rattle.desk_frames.proofs.Keeping.{start_keeps}
use Rattle.desk_frames.proofs.Steps.{start_moves, start_covers, start_none, start_short, announced_covers, all_covers}
use Rattle.desk_frames.proofs.Steps.{front_within, stands_seen, starts, some_taken, start_some}
use Rattle.desk_frames.proofs.frame.OpenFrame.take_start.Goals as goal

pub returns-in-Ok : goal.returns-in-Ok
returns-in-Ok c =
    let f = c.args.self.now in
    let g : FrameState = record { stage = c.go_on-stage.result.0; entries = c.go_on-stage.new.entries.items } in
    let bytes = c.args.bytes.now in
    let announced = c.args.announced in
    let s = c.in-Ok.start in
    let n = c.in-Ok.count in
    let stands = stands_seen f _ c.self.view_is c.self.invariant in
    let h = rw c.front_of.ensures at c.in-Ok.ensures in
    let beyond : AfterPart announced s f.entries c.go_on-stage.result.1 g.stage g.entries =
    subst (λ (old : FrameState). AfterPart announced s old.entries c.go_on-stage.result.1 g.stage g.entries)
    c.self.view_is
    c.go_on-stage.ensures.after in
    record {
      within = front_within announced n bytes h.0;
      some = some_taken n (take announced bytes) (start_spelling s) h.0 h.1 (start_some s);
      moved = start_moves announced f c.requires.stage stands g s n bytes c.go_on-stage.result.1 h.0 h.1 beyond;
      keeps = start_keeps f g c.go_on-stage.result.1 (subst IsAwaited (sym c.requires.stage) tt)
          (starts announced f c.requires.stage stands).0 beyond.keeps;
      covers = start_covers announced f c.requires.stage stands s n bytes h.0 h.1 h.3;
    }

pub returns-in-Err-NoSpelling : goal.returns-in-Err-NoSpelling
returns-in-Err-NoSpelling c =
    let f = c.args.self.now in
    let stands = stands_seen f _ c.self.view_is c.self.invariant in
    record {
      within = omega arith;
      some = c.requires.some;
      moved = start_none c.args.announced f c.requires.stage stands c.args.bytes.now f.entries
          (rw (c.front_of.ensures, c.in-Err-NoSpelling.is, c.in-Err-NoSpelling.field-0-is) at c.front_start.ensures);
      keeps = λ es k a. absurd a;
      covers = all_covers f.stage c.args.bytes.now;
    }

pub returns-else-bytes-announced : goal.returns-else-bytes-announced
returns-else-bytes-announced c =
    let f = c.args.self.now in
    let stands = stands_seen f _ c.self.view_is c.self.invariant in
    let range = (starts c.args.announced f c.requires.stage stands).1 in
    record {
      within = omega arith;
      some = omega (arith, range.0);
      moved = start_short c.args.announced f c.requires.stage stands c.args.bytes.now f.entries (omega arith)
          (rw (c.front_of.ensures, c.in-Err-Needs.is, c.in-Err-Needs.field-0-is) at c.front_start.ensures).0;
      keeps = λ es k a. absurd a;
      covers = announced_covers c.args.announced f c.requires.stage stands c.args.bytes.now;
    }
