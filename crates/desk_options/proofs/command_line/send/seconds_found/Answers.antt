use Rattle.std.proofs.Common.{sym, ◌∙◌, codes}
use Rattle.std.proofs.lemmas.Result.{IfOk-weaker, IfErr-weaker}
use Rattle.clap.proofs.WalkLemmas.{first_value-rows}
use Rattle.clap.specs.Matches.{found_of}
use Rattle.clap.specs.Walk.{rows_of}
use Rattle.desk_options.proofs.Words.{on_refused, seconds_in, no_seconds_in, usual_seconds}
use Rattle.desk_options.proofs.command_line.send.seconds_found.Goals as goal

pub returns-in-Some-clause-found : goal.returns-in-Some-clause-found
returns-in-Some-clause-found c =
    let given = sym (first_value-rows (found_of c.args.matches.now) (codes "seconds")) ∙ sym c.in-Some.ensures in
    IfOk-weaker c.seconds_of.result _ _ (λ n h. seconds_in (rows_of (found_of c.args.matches.now)) _ n given h)
    c.seconds_of.ensures.found

pub returns-in-Some-clause-refused : goal.returns-in-Some-clause-refused
returns-in-Some-clause-refused c =
    let given = sym (first_value-rows (found_of c.args.matches.now) (codes "seconds")) ∙ sym c.in-Some.ensures in
    IfErr-weaker c.seconds_of.result _ _
    (λ f h. on_refused f (no_seconds_in (rows_of (found_of c.args.matches.now)) _ given) h)
    c.seconds_of.ensures.refused

pub returns-in-None-clause-found : goal.returns-in-None-clause-found
returns-in-None-clause-found c =
    usual_seconds (rows_of (found_of c.args.matches.now))
    (sym (first_value-rows (found_of c.args.matches.now) (codes "seconds")) ∙ sym c.in-None.ensures)
