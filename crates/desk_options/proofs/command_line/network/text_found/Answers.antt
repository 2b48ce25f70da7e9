use Rattle.std.proofs.Common.{Some, ap, ◌∙◌}
use Rattle.clap.proofs.WalkLemmas.{first_value-rows}
use Rattle.clap.specs.Matches.{found_of}
use Rattle.desk_options.proofs.command_line.network.text_found.Goals as goal

pub returns-in_ok-from_str-in-Some-clause-found : goal.returns-in_ok-from_str-in-Some-clause-found
returns-in_ok-from_str-in-Some-clause-found c =
    ap Some c.in_ok-from_str-in-Some.ensures.ok ∙ c.in-Some.ensures
    ∙ first_value-rows (found_of c.args.matches.now) c.args.name.now

pub returns-in-None-clause-found : goal.returns-in-None-clause-found
returns-in-None-clause-found c = c.in-None.ensures ∙ first_value-rows (found_of c.args.matches.now) c.args.name.now
