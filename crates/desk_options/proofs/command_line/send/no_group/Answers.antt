use Rattle.std.proofs.Common.{refl, sym, ◌∙◌, codes}
use Rattle.clap.proofs.WalkLemmas.{first_value-rows}
use Rattle.clap.specs.Matches.{found_of}
use Rattle.clap.specs.Walk.{rows_of}
use Rattle.desk_options.proofs.Words.{always_refused, some_seconds}
use Rattle.desk_options.proofs.command_line.send.no_group.Goals as goal

pub returns-in-Some-clause-refused : goal.returns-in-Some-clause-refused
returns-in-Some-clause-refused c =
    let given = sym (first_value-rows (found_of c.args.matches.now) (codes "seconds")) ∙ sym c.in-Some.ensures in
    always_refused c.refused.result (some_seconds (rows_of (found_of c.args.matches.now)) _ given)

pub returns-in-None-clause-found : goal.returns-in-None-clause-found
returns-in-None-clause-found c =
    let given = sym (first_value-rows (found_of c.args.matches.now) (codes "seconds")) ∙ sym c.in-None.ensures in
    (refl, given)
