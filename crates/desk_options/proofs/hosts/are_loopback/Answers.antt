use Rattle.std.proofs.Common.{rules, lit<}
use Rattle.std.specs.Prelude.{⊤}
use Rattle.std.proofs.lemmas.Iterator.{cases_from_all}
use Rattle.std.proofs.lemmas.Iterator.Splits.{YieldsList-from_str_split}
use Rattle.desk_options.specs.Hosts.{hosts_in, IsLoopbackText}
use Rattle.desk_options.proofs.Parts.{all_of}
use Rattle.desk_options.proofs.hosts.are_loopback.Goals as goal

pub returns : goal.returns
returns c e =
    all_of IsLoopbackText (hosts_in c.args.hosts.now) c.all.result e
    (cases_from_all _ _ c.all.result IsLoopbackText (λ _. ⊤) c.all.ensures.ran
    (YieldsList-from_str_split 44 c.args.hosts.now (lit< tt) c.split.ensures.text c.split.ensures.has_more
    c.split.ensures.pattern) (λ x q k. search rules) (λ x q k. tt))
