use Rattle.std.proofs.Common.{◌≡◌, ◌-◌, ◌+◌, ◌<◌, ◌≤◌, ◌++◌, ◌∙◌, ℕ, List, ap, arith, drop, length, subst, sym, take}
use Rattle.std.proofs.lemmas.List.{length-append, length-take-le}
use Rattle.std.proofs.lemmas.Result.{on_err_weaker}
use Rattle.desk_frames.specs.Frame.{HasCut}
use Rattle.desk_frames.proofs.Feeds.{all_front, awaits_room, cut_none, cut_waits, ok_joined, room_joined, still_on}
use Rattle.desk_frames.proofs.Feeds.{taken_joined}
use Rattle.desk_frames.proofs.cutter.cut_piece.Goals as goal

pub returns-in-Some-clause-ok : goal.returns-in-Some-clause-ok
returns-in-Some-clause-ok c =
    let filled = c.args.filled in
    let room = c.args.room.now in
    let new = c.put.new.room in
    let waited = take filled room in
    let front = c.front_of-front.result.now in
    let there = filled + length front in
    let count = c.in-Some.count in
    let f = c.args.frame.now in
    let same = length-take-le filled room (omega (arith, c.requires.room, c.requires.filled)) in
    let whole = room_joined waited front (drop there room) new there c.put.ensures (ap (λ k. k + length front) same) in
    let h = rw c.in-Some.is at c.in_ok-count.ensures.ok in
    let covers : length waited ≤ count = h.3 waited front whole c.requires.awaits in
    ok_joined c.cut_rest-in-Some.result waited c.args.piece.now (take count (take there new))
    c.split_at.result.1.now c.cut_rest-in-Some.new.room (count - filled) f c.step.new.frame c.cut_rest-in-Some.new.frame
    c.args.packets.now.items c.step.new.packets.items c.cut_rest-in-Some.new.packets.items h.2
    (ap (take count) whole ∙ taken_joined waited c.args.piece.now front (length room - filled) (count - filled) count
    c.front_of-front.ensures
    (omega (arith, covers, same)) (omega (arith, h.0, ap length whole))) c.split_at.ensures.back
    c.cut_rest-in-Some.ensures.ok

pub returns-in-Some-clause-err : goal.returns-in-Some-clause-err
returns-in-Some-clause-err c =
    let there = c.args.filled + length c.front_of-front.result.now in
    let bytes = take there c.put.new.room in
    let h = rw c.in-Some.is at c.in_ok-count.ensures.ok in
    on_err_weaker c.cut_rest-in-Some.result
    (still_on c.args.frame.now c.step.new.frame c.cut_rest-in-Some.new.frame
    c.args.packets.now.items c.step.new.packets.items c.cut_rest-in-Some.new.packets.items
    (take c.in-Some.count bytes) h.2) c.cut_rest-in-Some.ensures.err

pub returns-in-None-clause-less : goal.returns-in-None-clause-less
returns-in-None-clause-less c =
    let filled = c.args.filled in
    let room = c.args.room.now in
    let new = c.put.new.room in
    let waited = take filled room in
    let front = c.front_of-front.result.now in
    let there = filled + length front in
    let f = c.args.frame.now in
    let same = length-take-le filled room (omega (arith, c.requires.room, c.requires.filled)) in
    let whole = room_joined waited front (drop there room) new there c.put.ensures (ap (λ k. k + length front) same) in
    let h = rw c.in-None.is at c.in_ok-count.ensures.ok in
    let less = awaits_room f.stage (take there new) h.2 in
    omega (arith, less, ap length whole, length-append waited front, same)

pub returns-in-None-clause-ok : goal.returns-in-None-clause-ok
returns-in-None-clause-ok c =
    let filled = c.args.filled in
    let room = c.args.room.now in
    let new = c.put.new.room in
    let piece = c.args.piece.now in
    let waited = take filled room in
    let front = c.front_of-front.result.now in
    let there = filled + length front in
    let f = c.args.frame.now in
    let ms = c.args.packets.now.items in
    let same = length-take-le filled room (omega (arith, c.requires.room, c.requires.filled)) in
    let whole = room_joined waited front (drop there room) new there c.put.ensures (ap (λ k. k + length front) same) in
    let h = rw c.in-None.is at c.in_ok-count.ensures.ok in
    let less = awaits_room f.stage (take there new) h.2 in
    let front_is : front ≡ take (length room - filled) piece = c.front_of-front.ensures in
    let few : length (take (length room - filled) piece) < length room - filled =
    omega (
      arith,
      less,
      ap length whole,
      length-append waited front,
      same,
      ap length front_is,
      c.requires.room,
      c.requires.filled,
    ) in
    let all : waited ++ piece ≡ take there new =
    ap (λ r. waited ++ r) (sym (front_is ∙ all_front (length room - filled) piece few)) ∙ sym whole in
    cut_waits (waited ++ piece) (take there new) f f c.step.new.frame ms ms c.step.new.packets.items
    (subst (λ (r : List ℕ). HasCut (waited ++ piece) f ms r f ms) all (cut_none (waited ++ piece) f ms)) h.0 h.1
