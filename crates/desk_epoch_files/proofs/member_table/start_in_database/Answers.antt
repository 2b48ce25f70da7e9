use Rattle.std.proofs.Common.{rules, ◌≡◌, Some, None, inl, subst}
use Rattle.std.specs.Prelude.{MatchOption}
use Rattle.desk_epoch_files.specs.Members.{Preserves, PreservesNone}
use Rattle.desk_epoch_files.proofs.Members.{given_new, given_on, new_on, refused_new, refused_on_row, starts_on}
use Rattle.desk_epoch_files.proofs.member_table.start_in_database.Goals as goal

pub returns-in-Ok-Some-clause-given : goal.returns-in-Ok-Some-clause-given
returns-in-Ok-Some-clause-given g c = given_on c.args.given c.in-Ok-Some.row c.args.places
    c.token_for.result c.token_for.ensures.token

pub returns-in-Ok-Some-clause-starts : goal.returns-in-Ok-Some-clause-starts
returns-in-Ok-Some-clause-starts g c =
    let found = c.args.connection.now in
    let read = c.preserved_row.new.connection in
    let some : c.in-Ok-Some.field-0 ≡ Some c.in-Ok-Some.row = search rules in
    starts_on g.S.Store c.args.given c.args.places found read c.in-Ok-Some.row
    (λ clean. subst (λ f. MatchOption f (PreservesNone g.S.Store found) (Preserves g.S.Store found read)) some
    (c.in-Ok-Some.ensures.found clean)) c.token_for.result c.token_for.ensures.token

pub returns-in-Ok-Some-clause-other : goal.returns-in-Ok-Some-clause-other
returns-in-Ok-Some-clause-other g c =
    let found = c.args.connection.now in
    let read = c.preserved_row.new.connection in
    let some : c.in-Ok-Some.field-0 ≡ Some c.in-Ok-Some.row = search rules in
    refused_on_row g.S.Store c.args.given c.args.places found read c.in-Ok-Some.row
    (λ clean. subst (λ f. MatchOption f (PreservesNone g.S.Store found) (Preserves g.S.Store found read)) some
    (c.in-Ok-Some.ensures.found clean)) c.token_for.result c.token_for.ensures.other

pub returns-in-Ok-None-clause-given : goal.returns-in-Ok-None-clause-given
returns-in-Ok-None-clause-given g c = given_new c.args.given c.start_new.result c.start_new.ensures.token

pub returns-in-Ok-None-clause-starts : goal.returns-in-Ok-None-clause-starts
returns-in-Ok-None-clause-starts g c =
    let found = c.args.connection.now in
    let read = c.preserved_row.new.connection in
    let none : c.in-Ok-None.field-0 ≡ None = search rules in
    new_on g.S.Store c.args.given c.args.places found read c.start_new.new.connection
    (λ clean. subst (λ f. MatchOption f (PreservesNone g.S.Store found) (Preserves g.S.Store found read)) none
    (c.in-Ok-None.ensures.found clean)) c.start_new.result c.start_new.ensures.token c.start_new.ensures.stands

pub returns-in-Ok-None-clause-other : goal.returns-in-Ok-None-clause-other
returns-in-Ok-None-clause-other g c =
    refused_new g.S.Store c.args.given c.args.places c.args.connection.now c.start_new.result
    c.start_new.ensures.unblamed

pub returns-in-Err-clause-other : goal.returns-in-Err-clause-other
returns-in-Err-clause-other g c blames =
    (c.preserved_row.new.connection, λ clean. inl (c.in-Err.ensures.other clean blames))
