use Rattle.std.proofs.Common.{List, ℕ, ◌∙◌, sym, subst, ap, take, [], ◌≡◌}
use Rattle.std.proofs.lemmas.List.{with_items_is}
use Rattle.desk_types.specs.declared.packet.Message.{Message}
use Rattle.desk_frames.specs.Frame.{StillPreserved, position}
use Rattle.desk_frames.specs.Stream.{Standing, Came}
use Rattle.desk_frames.proofs.Feeds.{came_taken, preserved_count, stands_same}
use Rattle.desk_frames.proofs.cutter.FrameCutter.take.Goals as goal

pub undo-requires-clause-count : goal.undo-requires-clause-count
undo-requires-clause-count c =
    let f = c.self.inside.frame in
    let g = c.cut_piece.new.frame in
    let ms = c.cut_piece.new.packets.items in
    let preserved : StillPreserved f [] g ms =
    subst (λ (ns : List Message). StillPreserved f ns g ms) c.new-packets.ensures.items c.in-Err.ensures.err in
    rw c.count-count.ensures
    (preserved_count f g ms (rw (sym c.stage-stage.ensures.value) c.stage-stage.ensures.stands) preserved).0

pub undo-requires-clause-stands : goal.undo-requires-clause-stands
undo-requires-clause-stands c =
    let f = c.self.inside.frame in
    let g = c.cut_piece.new.frame in
    let ms = c.cut_piece.new.packets.items in
    let preserved : StillPreserved f [] g ms =
    subst (λ (ns : List Message). StillPreserved f ns g ms) c.new-packets.ensures.items c.in-Err.ensures.err in
    rw c.count-count.ensures
    (rw (preserved_count f g ms (rw (sym c.stage-stage.ensures.value) c.stage-stage.ensures.stands) preserved).1
    c.stage-stage.ensures.stands)

pub returns-in-Ok-clause-ok : goal.returns-in-Ok-clause-ok
returns-in-Ok-clause-ok c =
    let f = c.self.inside.frame in
    let g = c.cut_piece.new.frame in
    let ms = c.cut_piece.new.packets.items in
    let filled = c.in-Ok.filled in
    let now = c.cut_piece.new.room in
    let written = with_items_is c.self.inside.room now
    (c.in-Ok.ensures.room ∙ sym c.self.invariant.0 ∙ sym c.self.inside.room.ok.0) in
    subst (λ (room : List ℕ). Came c.args.self.now c.args.piece.now ms (position g (take filled room))) (sym written)
    (subst (λ (old : Standing). Came old c.args.piece.now ms (position g (take filled now))) c.self.view_is
    (came_taken f g c.self.inside.room.items c.as_mut_slice.result.now now c.args.piece.now c.self.inside.filled filled
    ms c.new-packets.result.items (rw (sym c.stage-stage.ensures.value) c.stage-stage.ensures.stands)
    c.in-Ok.ensures.stands c.self.invariant.1 c.in-Ok.ensures.awaits
    c.as_mut_slice.ensures.value c.new-packets.ensures.items c.in-Ok.ensures.ok))

pub returns-in-Err-clause-err : goal.returns-in-Err-clause-err
returns-in-Err-clause-err c =
    let f = c.self.inside.frame in
    let g = c.cut_piece.new.frame in
    let ms = c.cut_piece.new.packets.items in
    let filled = c.self.inside.filled in
    let preserved : StillPreserved f [] g ms =
    subst (λ (ns : List Message). StillPreserved f ns g ms) c.new-packets.ensures.items c.in-Err.ensures.err in
    let written = with_items_is c.self.inside.room c.cut_piece.new.room
    (c.cut_piece.ensures.room ∙ sym c.self.invariant.0 ∙ sym c.self.inside.room.ok.0) in
    subst (λ (room : List ℕ). position c.undo.new.frame (take filled room) ≡ c.args.self.now) (sym written)
    (stands_same f g c.undo.new.frame ms c.stage-stage.result c.count-count.result (take filled c.cut_piece.new.room)
    (take filled c.self.inside.room.items) (rw (sym c.stage-stage.ensures.value) c.stage-stage.ensures.stands) preserved
    c.stage-stage.ensures.value c.count-count.ensures c.undo.ensures
    (c.in-Err.ensures.unchanged ∙ ap (take filled) c.as_mut_slice.ensures.value) ∙ c.self.view_is)
