use Rattle.std.proofs.Common.{◌∙◌}
use Rattle.clap.proofs.WalkLemmas.{one_text-rows}
use Rattle.clap.specs.Matches.{found_of}
use Rattle.desk_options.proofs.command_line.serve.flag_found.Goals as goal

pub returns : goal.returns
returns c =
    let same = one_text-rows (found_of c.args.matches.now) c.args.name.now in
    record {
      none = λ is. c.get_flag.ensures.none (same ∙ is);
      given = λ is. c.get_flag.ensures.value (same ∙ is);
      other = λ is. c.get_flag.ensures.other (same ∙ is);
    }
