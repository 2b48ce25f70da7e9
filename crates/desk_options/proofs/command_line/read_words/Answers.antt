use Rattle.std.proofs.Common.{◌≡◌, IfOk, subst}
use Rattle.clap.specs.Simple.{app_of}
use Rattle.desk_options.proofs.Matches.{found_by, refused_by}
use Rattle.desk_options.proofs.command_line.read_words.Goals as goal

pub returns-in-Ok-try_get_matches_from : goal.returns-in-Ok-try_get_matches_from
returns-in-Ok-try_get_matches_from c app simple is =
    let same = subst (λ it. IfOk it (λ made. app_of made ≡ app)) c.in-Ok.is is in
    found_by app _ _ _ simple same c.in-Ok-try_get_matches_from.ensures.matches
    c.in-Ok-try_get_matches_from.ensures.kinds

pub returns-in-Err : goal.returns-in-Err
returns-in-Err c app simple is =
    let same = subst (λ it. IfOk it (λ made. app_of made ≡ app)) c.in-Ok.is is in
    refused_by app _ _ c.in-Err.error _ simple same c.in-Err.ensures.kinds c.refused_by_clap.ensures
