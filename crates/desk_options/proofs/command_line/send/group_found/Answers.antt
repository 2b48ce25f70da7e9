use Rattle.std.proofs.Common.{sym, ◌∙◌, codes}
use Rattle.std.proofs.lemmas.Result.{IfOk-weaker, IfErr-weaker}
use Rattle.clap.proofs.WalkLemmas.{first_value-rows}
use Rattle.clap.specs.Matches.{found_of}
use Rattle.clap.specs.Walk.{rows_of}
use Rattle.desk_options.proofs.Words.{on_refused, group_alone, no_group_alone, group_in, no_group_in}
use Rattle.desk_options.proofs.command_line.send.group_found.Goals as goal

pub returns-in-Some-clause-found : goal.returns-in-Some-clause-found
returns-in-Some-clause-found c =
    IfOk-weaker c.some_group.result _ _ (λ group h. group_in (rows_of (found_of c.args.matches.now)) group h)
    c.some_group.ensures.found

pub returns-in-Some-clause-refused : goal.returns-in-Some-clause-refused
returns-in-Some-clause-refused c =
    let given = sym (first_value-rows (found_of c.args.matches.now) (codes "nodes")) ∙ sym c.in-Some.ensures in
    IfErr-weaker c.some_group.result _ _
    (λ f h. on_refused f (no_group_in (rows_of (found_of c.args.matches.now)) _ given) h) c.some_group.ensures.refused

pub returns-in-None-clause-found : goal.returns-in-None-clause-found
returns-in-None-clause-found c =
    let given = sym (first_value-rows (found_of c.args.matches.now) (codes "nodes")) ∙ sym c.in-None.ensures in
    IfOk-weaker c.no_group.result _ _
    (λ group h. group_alone (rows_of (found_of c.args.matches.now)) group given h) c.no_group.ensures.found

pub returns-in-None-clause-refused : goal.returns-in-None-clause-refused
returns-in-None-clause-refused c =
    let given = sym (first_value-rows (found_of c.args.matches.now) (codes "nodes")) ∙ sym c.in-None.ensures in
    IfErr-weaker c.no_group.result _ _
    (λ f h. on_refused f (no_group_alone (rows_of (found_of c.args.matches.now)) given) h) c.no_group.ensures.refused
