use Rattle.std.proofs.Common.{rules, ◌≡◌, IsTrue, false, refl, inl, inr}
use Rattle.sqlite.specs.Held.{state}
use Rattle.desk_naming.specs.Contents.{schema_of}
use Rattle.desk_saved.specs.Growth.{HasGrown, HasNotGrown}
use Rattle.desk_saved.specs.OldFile.{HasRoomForClients}
use Rattle.desk_saved.specs.Opening.{HasOpened, HasRefused}
use Rattle.desk_saved.proofs.OldOpening.{old_refused, old_failed, old_unfit, grown_opened, not_grown, ok_so, err_so}
use Rattle.desk_saved.proofs.Opening.{shows_same}
use Rattle.desk_naming.proofs.Refusing.{unchanged_shows}
use Rattle.desk_saved.proofs.TableReads.{read_refusal}
use Rattle.desk_saved.proofs.saved_state.open_old.Goals as goal

pub returns-else-not-has_room-clause-opened : goal.returns-else-not-has_room-clause-opened
returns-else-not-has_room-clause-opened g c old =
    let last = c.in-Ok-Some.last in
    let mid = c.load_old.new.conn in
    let has : IsTrue c.can_grow-has_room.result = search rules in
    let room : HasRoomForClients (schema_of g.S.Store c.args.connection) = c.can_grow-has_room.ensures.0 has in
    ok_so c.grow_found.result (HasGrown g.S.Store mid c.args.owner last)
    (HasOpened g.S.Store c.args.connection c.args.owner)
    (grown_opened g.S.Store c.args.connection mid c.args.owner old c.load_old.ensures.read.keeps.1
    (c.load_old.ensures.read.left (old.tables, old.schema_is))
    last c.requires.live room
    (λ clean d schema. rw c.in-Ok-Some.field-0-is at (c.in-Ok-Some.ensures.found clean d schema))
    (λ clean. c.in-Ok-Some.ensures.read.same clean (old.tables, old.schema_is)))
    c.grow_found.ensures.grown

pub returns-else-not-has_room-clause-refused : goal.returns-else-not-has_room-clause-refused
returns-else-not-has_room-clause-refused g c old =
    let last = c.in-Ok-Some.last in
    let mid = c.load_old.new.conn in
    let has : IsTrue c.can_grow-has_room.result = search rules in
    let room : HasRoomForClients (schema_of g.S.Store c.args.connection) = c.can_grow-has_room.ensures.0 has in
    err_so c.grow_found.result (λ e. HasNotGrown g.S.Store mid c.args.owner last e.connection e.refusal)
    (λ e. HasRefused g.S.Store c.args.connection c.args.owner e.connection e.refusal)
    (λ e. not_grown g.S.Store c.args.connection mid c.args.owner old c.load_old.ensures.read.keeps.1
    (c.load_old.ensures.read.left (old.tables, old.schema_is))
    last c.requires.live room
    (λ clean d schema. rw c.in-Ok-Some.field-0-is at (c.in-Ok-Some.ensures.found clean d schema))
    (λ clean. c.in-Ok-Some.ensures.read.same clean (old.tables, old.schema_is)) c.in-Ok-Some.ensures.read.counts
    e.connection e.refusal)
    c.grow_found.ensures.refused

pub returns-then-not-is_settled-clause-refused : goal.returns-then-not-is_settled-clause-refused
returns-then-not-is_settled-clause-refused g c old =
    old_failed g.S.Store c.args.connection c.args.connection c.args.owner old refl
    (λ clean trees leaves. leaves)
    (λ clean. shows_same (state g.S.Store c.args.connection)) (inl (inl (search rules)))

pub returns-then-not-has_room-clause-refused : goal.returns-then-not-has_room-clause-refused
returns-then-not-has_room-clause-refused g c old =
    let before = c.args.connection in
    let mid = c.load_old.new.conn in
    old_failed g.S.Store before mid c.args.owner old c.load_old.ensures.read.keeps.1
    (c.load_old.ensures.read.left (old.tables, old.schema_is))
    (λ clean. unchanged_shows (state g.S.Store before) (state g.S.Store mid)
    (c.in-Ok-Some.ensures.read.same clean (old.tables, old.schema_is)))
    (inl (inr (inr (inr (old, λ room. let has = c.can_grow-has_room.ensures.1 room in absurd (search rules))))))

pub returns-in-Ok-None-clause-refused : goal.returns-in-Ok-None-clause-refused
returns-in-Ok-None-clause-refused g c old =
    old_unfit g.S.Store c.args.connection c.load_old.new.conn c.args.owner old c.load_old.ensures.read.keeps.1
    (c.load_old.ensures.read.left (old.tables, old.schema_is))
    (λ clean d schema. rw c.in-Ok-None.field-0-is at (c.in-Ok-None.ensures.found clean d schema))
    (λ clean. c.in-Ok-None.ensures.read.same clean (old.tables, old.schema_is))

pub returns-in-Err-clause-refused : goal.returns-in-Err-clause-refused
returns-in-Err-clause-refused g c old =
    let before = state g.S.Store c.args.connection in
    let auto : IsTrue c.is_autocommit-is_settled.result = search rules in
    let free : before.in_transaction ≡ false = search rules in
    let kind = read_refusal _ c.in-Err.ensures.read.refused in
    old_refused g.S.Store c.args.connection c.load_old.new.conn c.args.owner old c.load_old.ensures.read.keeps.1
    (c.load_old.ensures.read.left (old.tables, old.schema_is)) c.in-Err.reported kind.0 (λ wrong. absurd (kind.1 wrong))
    (λ wrong. absurd (kind.1 wrong))
    (λ is clean. c.in-Err.ensures.read.want_of_memory clean (old.tables, old.schema_is) is)
    (λ is clean. c.in-Err.ensures.read.store_fault
    (record { autocommit = free; committed = c.is_autocommit-is_settled.ensures.settled auto }) clean
    (old.tables, old.schema_is) is)
    (λ is clean. inr (inl (c.in-Err.ensures.read.cause clean (old.tables, old.schema_is) is)))
