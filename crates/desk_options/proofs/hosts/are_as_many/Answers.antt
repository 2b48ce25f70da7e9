use Rattle.std.proofs.Common.{lit<, sym, ◌∙◌}
use Rattle.std.proofs.lemmas.Bool.{eqb-true}
use Rattle.std.proofs.lemmas.Iterator.Consumers.{count_from_yields_List}
use Rattle.std.proofs.lemmas.Iterator.Splits.{YieldsList-from_str_split}
use Rattle.desk_options.proofs.hosts.are_as_many.Goals as goal

pub returns : goal.returns
returns c e =
    sym (count_from_yields_List _ c.count.result c.count.ensures.ran
    (YieldsList-from_str_split 44 c.args.hosts.now (lit< tt) c.split.ensures.text c.split.ensures.has_more
    c.split.ensures.pattern)) ∙ eqb-true c.count.result c.args.nodes e
