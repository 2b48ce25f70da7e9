use Rattle.std.proofs.Common.{◌∙◌, ap, lit<, sym}
use Rattle.std.specs.Option.{option_map}
use Rattle.std.proofs.lemmas.Iterator.Consumers.{nth_from_yields_List}
use Rattle.std.proofs.lemmas.Iterator.Splits.{YieldsList-from_str_split}
use Rattle.desk_admission.specs.Hosts.{or_loopback}
use Rattle.desk_admission.proofs.address.host_in.Goals as goal

pub returns-in-Some : goal.returns-in-Some
returns-in-Some c =
    ap or_loopback (sym (ap (option_map (λ x. x.now)) c.in-Some.is)
    ∙ nth_from_yields_List _ _ c.args.node c.nth.ensures.ran
    (YieldsList-from_str_split 44 c.args.hosts.now (lit< tt) c.split.ensures.text c.split.ensures.has_more
    c.split.ensures.pattern))

pub returns-in-None : goal.returns-in-None
returns-in-None c =
    ap or_loopback (sym (ap (option_map (λ x. x.now)) c.in-None.is)
    ∙ nth_from_yields_List _ _ c.args.node c.nth.ensures.ran
    (YieldsList-from_str_split 44 c.args.hosts.now (lit< tt) c.split.ensures.text c.split.ensures.has_more
    c.split.ensures.pattern))
