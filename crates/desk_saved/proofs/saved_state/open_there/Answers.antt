use Rattle.std.proofs.Common.{rules, ◌≡◌, IsTrue, false, refl, inl, inr}
use Rattle.sqlite.specs.Held.{state}
use Rattle.desk_types.specs.declared.refusal.Refusal.TheVariants as refusals
use Rattle.desk_saved.proofs.Opening.{found, not_found, shows_same}
use Rattle.desk_saved.proofs.TableReads.{read_refusal}
use Rattle.desk_saved.proofs.saved_state.open_there.Goals as goal

pub returns-then-not-is_autocommit-clause-refused : goal.returns-then-not-is_autocommit-clause-refused
returns-then-not-is_autocommit-clause-refused g c desk =
    let old = state g.S.Store c.args.connection in
    not_found g.S.Store c.args.connection c.args.owner desk c.args.connection refl
    (λ clean trees leaves. leaves) refusals.StoreFault (inr (inl refl))
    (λ wrong. absurd (let it = wrong in cc)) (λ wrong. absurd (let it = wrong in cc))
    (λ want. absurd (let it = want in cc)) (λ fault clean. shows_same old)
    (λ _ _. inl (inl (search rules)))

pub returns-in-Ok-clause-opened : goal.returns-in-Ok-clause-opened
returns-in-Ok-clause-opened g c desk =
    let auto : IsTrue c.is_autocommit.result = search rules in
    let free : (state g.S.Store c.args.connection).in_transaction ≡ false = search rules in
    rw c.in-Ok.ensures.ok (found g.S.Store c.args.connection c.args.owner desk c.load_state.new.conn
    c.load_state.ensures.read.keeps.1
    (c.load_state.ensures.read.left desk) c.in-Ok-Some.last c.requires.live
    (c.is_autocommit.ensures.settled auto) free
    (λ clean d schema. rw c.in-Ok-Some.field-0-is at (c.in-Ok-Some.ensures.found clean d schema))
    (λ clean. c.in-Ok-Some.ensures.read.same clean desk))

pub returns-in-Err-new-clause-refused : goal.returns-in-Err-new-clause-refused
returns-in-Err-new-clause-refused g c desk =
    rw c.in-Err-new.ensures.value_returned (not_found g.S.Store c.args.connection c.args.owner desk
    c.load_state.new.conn c.load_state.ensures.read.keeps.1
    (c.load_state.ensures.read.left desk) refusals.WantOfMemory (inl refl)
    (λ wrong. absurd (let it = wrong in cc)) (λ wrong. absurd (let it = wrong in cc))
    (λ _ clean. c.in-Ok-Some.ensures.read.same clean desk) (λ fault. absurd (let it = fault in cc))
    (λ fault. absurd (let it = fault in cc)))

pub returns-in-Ok-None-clause-refused : goal.returns-in-Ok-None-clause-refused
returns-in-Ok-None-clause-refused g c desk =
    not_found g.S.Store c.args.connection c.args.owner desk c.load_state.new.conn c.load_state.ensures.read.keeps.1
    (c.load_state.ensures.read.left desk) refusals.WrongFile (inr (inr refl))
    (λ _ clean d schema. rw c.in-Ok-None.field-0-is at (c.in-Ok-None.ensures.found clean d schema))
    (λ _ clean. c.in-Ok-None.ensures.read.same clean desk) (λ want. absurd (let it = want in cc))
    (λ fault. absurd (let it = fault in cc)) (λ fault. absurd (let it = fault in cc))

pub returns-in-Err-clause-refused : goal.returns-in-Err-clause-refused
returns-in-Err-clause-refused g c desk =
    let old = state g.S.Store c.args.connection in
    let auto : IsTrue c.is_autocommit.result = search rules in
    let free : old.in_transaction ≡ false = search rules in
    let kind = read_refusal _ c.in-Err.ensures.read.refused in
    not_found g.S.Store c.args.connection c.args.owner desk c.load_state.new.conn c.load_state.ensures.read.keeps.1
    (c.load_state.ensures.read.left desk) c.in-Err.refusal kind.0 (λ wrong. absurd (kind.1 wrong))
    (λ wrong. absurd (kind.1 wrong)) (λ is clean. c.in-Err.ensures.read.want_of_memory clean desk is)
    (λ is clean. c.in-Err.ensures.read.store_fault
    (record { autocommit = free; committed = c.is_autocommit.ensures.settled auto }) clean desk is)
    (λ is clean. inr (inl (c.in-Err.ensures.read.cause clean desk is)))
