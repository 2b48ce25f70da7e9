use Rattle.std.proofs.Common.{sym, ◌∙◌, codes}
use Rattle.std.proofs.lemmas.Result.{err_from_is_err_and}
use Rattle.clap.proofs.WalkLemmas.{first_value-rows}
use Rattle.clap.specs.Matches.{found_of}
use Rattle.clap.specs.Walk.{rows_of}
use Rattle.desk_options.proofs.Words.{on_refused, member_in, no_member_in, no_token}
use Rattle.desk_options.proofs.command_line.epochs.member_found.Goals as goal

pub returns-in_ok-number_of-in-Some-clause-found : goal.returns-in_ok-number_of-in-Some-clause-found
returns-in_ok-number_of-in-Some-clause-found c =
    let given = sym (first_value-rows (found_of c.args.matches.now) (codes "member")) ∙ sym c.in-Some.ensures in
    member_in (rows_of (found_of c.args.matches.now)) _ _ given c.in_ok-number_of-in-Some.ensures.found

pub returns-in_err-number_of-in-Some-clause-refused : goal.returns-in_err-number_of-in-Some-clause-refused
returns-in_err-number_of-in-Some-clause-refused c =
    let p = err_from_is_err_and c.from_residual.result c.from_residual.ensures.1 in
    let given = sym (first_value-rows (found_of c.args.matches.now) (codes "member")) ∙ sym c.in-Some.ensures in
    rw (p.1, p.2) (on_refused _ (no_member_in (rows_of (found_of c.args.matches.now)) _ given)
    c.in_err-number_of-in-Some.ensures.refused)

pub returns-in-None-clause-found : goal.returns-in-None-clause-found
returns-in-None-clause-found c =
    no_token (rows_of (found_of c.args.matches.now))
    (sym (first_value-rows (found_of c.args.matches.now) (codes "member")) ∙ sym c.in-None.ensures)
