use Rattle.std.proofs.Common.{sym, ◌∙◌, codes}
use Rattle.std.proofs.lemmas.Result.{IfOk-weaker, IfErr-weaker}
use Rattle.clap.proofs.WalkLemmas.{first_value-rows}
use Rattle.clap.specs.Matches.{found_of}
use Rattle.clap.specs.Walk.{rows_of}
use Rattle.desk_options.proofs.Words.{on_refused, always_refused, listen_in, no_listen_in, no_listen}
use Rattle.desk_options.proofs.command_line.page.listen_found.Goals as goal

pub returns-in-Some-clause-found : goal.returns-in-Some-clause-found
returns-in-Some-clause-found c =
    let given = sym (first_value-rows (found_of c.args.matches.now) (codes "listen")) ∙ sym c.in-Some.ensures in
    IfOk-weaker c.port_of.result _ _
    (λ i h. listen_in (rows_of (found_of c.args.matches.now)) _ i given h) c.port_of.ensures.found

pub returns-in-Some-clause-refused : goal.returns-in-Some-clause-refused
returns-in-Some-clause-refused c =
    let given = sym (first_value-rows (found_of c.args.matches.now) (codes "listen")) ∙ sym c.in-Some.ensures in
    IfErr-weaker c.port_of.result _ _
    (λ f h. on_refused f (no_listen_in (rows_of (found_of c.args.matches.now)) _ given) h)
    c.port_of.ensures.refused

pub returns-in-None-clause-refused : goal.returns-in-None-clause-refused
returns-in-None-clause-refused c =
    let given = sym (first_value-rows (found_of c.args.matches.now) (codes "listen")) ∙ sym c.in-None.ensures in
    always_refused c.no_such_port.result (no_listen (rows_of (found_of c.args.matches.now)) given)
