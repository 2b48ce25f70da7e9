use Rattle.std.proofs.Common.{Some, ap, sym, ◌∙◌, codes}
use Rattle.clap.proofs.WalkLemmas.{first_value-rows}
use Rattle.clap.specs.Matches.{found_of}
use Rattle.clap.specs.Walk.{rows_of}
use Rattle.desk_options.proofs.Words.{always_refused, no_file}
use Rattle.desk_options.proofs.command_line.answer.file_found.Goals as goal

pub returns-in_ok-from_str-in-Some-clause-found : goal.returns-in_ok-from_str-in-Some-clause-found
returns-in_ok-from_str-in-Some-clause-found c =
    sym (first_value-rows (found_of c.args.matches.now) (codes "file")) ∙ sym c.in-Some.ensures
    ∙ ap Some (sym c.in_ok-from_str-in-Some.ensures.ok)

pub returns-in-None-clause-refused : goal.returns-in-None-clause-refused
returns-in-None-clause-refused c =
    let given = sym (first_value-rows (found_of c.args.matches.now) (codes "file")) ∙ sym c.in-None.ensures in
    always_refused c.refused.result (no_file (rows_of (found_of c.args.matches.now)) given)
