use Rattle.std.proofs.Common.{◌≡◌, List, ap, subst, sym, ◌∙◌, arith, take, [], ◌∷◌, ◌++◌}
use Rattle.desk_types.specs.declared.command.Entry.{Entry}
use Rattle.desk_codec.specs.Spelling.{entry_spelling}
use Rattle.desk_frames.specs.Frame.{AfterPart, FrameState, IsAwaited}
use Rattle.desk_frames.proofs.Keeping.{entry_keeps}
use Rattle.desk_frames.proofs.Steps.{entry_moves, entry_covers, stops_none, stops_short, left_covers, all_covers}
use Rattle.desk_frames.proofs.Steps.{front_within, is_open, stands_seen, some_taken, entry_some}
use Rattle.desk_frames.proofs.frame.OpenFrame.take_entry.Goals as goal

pub returns-in_ok-push-in-Ok-clause-ok : goal.returns-in_ok-push-in-Ok-clause-ok
returns-in_ok-push-in-Ok-clause-ok c =
    let f = c.args.self.now in
    let g : FrameState = record { stage = c.go_on-stage.result.0; entries = c.go_on-stage.new.entries.items } in
    let bytes = c.args.bytes.now in
    let announced = c.args.announced in
    let left = c.args.left in
    let s = c.args.start in
    let e = c.in-Ok.entry in
    let n = c.in-Ok.count in
    let packet = c.go_on-stage.result.1 in
    let stands = stands_seen f _ c.self.view_is c.self.invariant in
    let h = rw (c.front_of-frame.ensures, c.in-Ok.is) at c.in_ok-entry.ensures in
    let grown : c.push.new.self.items ≡ f.entries ++ e ∷ [] =
    c.in_ok-push-in-Ok.ensures.items ∙ ap (λ (old : FrameState). old.entries ++ e ∷ []) c.self.view_is in
    let beyond : AfterPart announced s (f.entries ++ e ∷ []) packet g.stage g.entries =
    subst (λ (es : List Entry). AfterPart announced s es packet g.stage g.entries) grown c.go_on-stage.ensures.after in
    record {
      within = front_within left n bytes h.0;
      some = some_taken n (take left bytes) (entry_spelling e) h.0 h.1.spelling (entry_some e);
      moved = entry_moves announced left s c.args.more f c.requires.stage stands g e n bytes packet h.0 h.1 beyond;
      keeps = entry_keeps f g e packet (subst IsAwaited (sym c.requires.stage) tt) beyond.keeps;
      covers = entry_covers announced left s c.args.more f c.requires.stage stands e n bytes h.0 h.1;
    }

pub returns-in-Err-NoSpelling-clause-ok : goal.returns-in-Err-NoSpelling-clause-ok
returns-in-Err-NoSpelling-clause-ok c =
    let f = c.args.self.now in
    let stands = stands_seen f _ c.self.view_is c.self.invariant in
    record {
      within = omega arith;
      some = c.requires.some;
      moved = stops_none c.args.announced c.args.left c.args.start c.args.more f c.requires.stage stands
          c.args.bytes.now f.entries (rw (
            c.front_of-frame.ensures,
            c.in-Err-NoSpelling.is,
            c.in-Err-NoSpelling.field-0-is,
          ) at c.in_ok-entry.ensures);
      keeps = λ es k a. absurd a;
      covers = all_covers f.stage c.args.bytes.now;
    }

pub returns-else-bytes-left-clause-ok : goal.returns-else-bytes-left-clause-ok
returns-else-bytes-left-clause-ok c =
    let f = c.args.self.now in
    let stands = stands_seen f _ c.self.view_is c.self.invariant in
    let some = (is_open c.args.announced c.args.left c.args.start c.args.more f c.requires.stage stands).2 in
    record {
      within = omega arith;
      some = some;
      moved = stops_short c.args.announced c.args.left c.args.start c.args.more f c.requires.stage stands
          c.args.bytes.now f.entries (omega arith) (rw (
            c.front_of-frame.ensures,
            c.in-Err-Needs.is,
            c.in-Err-Needs.field-0-is,
          ) at c.in_ok-entry.ensures);
      keeps = λ es k a. absurd a;
      covers = left_covers c.args.announced c.args.left c.args.start c.args.more f c.requires.stage stands
          c.args.bytes.now;
    }
