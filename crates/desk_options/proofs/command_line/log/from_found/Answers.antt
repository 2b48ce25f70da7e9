use Rattle.std.proofs.Common.{sym, ◌∙◌, codes}
use Rattle.std.proofs.lemmas.Result.{IfOk-weaker, IfErr-weaker}
use Rattle.clap.proofs.WalkLemmas.{first_value-rows}
use Rattle.clap.specs.Matches.{found_of}
use Rattle.clap.specs.Walk.{rows_of}
use Rattle.desk_options.proofs.Words.{on_refused, from_in, no_from_in, first_place}
use Rattle.desk_options.proofs.command_line.log.from_found.Goals as goal

pub returns-in-Some-clause-found : goal.returns-in-Some-clause-found
returns-in-Some-clause-found c =
    let given = sym (first_value-rows (found_of c.args.matches.now) (codes "from")) ∙ sym c.in-Some.ensures in
    IfOk-weaker c.number_of.result _ _ (λ n h. from_in (rows_of (found_of c.args.matches.now)) _ n given h)
    c.number_of.ensures.found

pub returns-in-Some-clause-refused : goal.returns-in-Some-clause-refused
returns-in-Some-clause-refused c =
    let given = sym (first_value-rows (found_of c.args.matches.now) (codes "from")) ∙ sym c.in-Some.ensures in
    IfErr-weaker c.number_of.result _ _
    (λ f h. on_refused f (no_from_in (rows_of (found_of c.args.matches.now)) _ given) h)
    c.number_of.ensures.refused

pub returns-in-None-clause-found : goal.returns-in-None-clause-found
returns-in-None-clause-found c =
    first_place (rows_of (found_of c.args.matches.now))
    (sym (first_value-rows (found_of c.args.matches.now) (codes "from")) ∙ sym c.in-None.ensures)
