use Rattle.std.proofs.lemmas.Slice.Eq.{strip_prefix_is}
use Rattle.std.proofs.lemmas.Bool.Decides.{Decides-eqb}
use Rattle.desk_follow.proofs.Prefixes.{found}
use Rattle.desk_follow.proofs.course.after_prefix.Goals as goal

pub returns : goal.returns
returns c =
    let text = c.args.text.now in
    let prefix = c.args.prefix.now in
    found text prefix c.strip_prefix.result
    (strip_prefix_is Decides-eqb text prefix c.strip_prefix.result c.strip_prefix.ensures.cases)
