use Rattle.desk_options.proofs.Parts.{allowed_by}
use Rattle.desk_options.proofs.hosts.check_hosts.Goals as goal

pub returns-in-None : goal.returns-in-None
returns-in-None c =
    allowed_by c.args.has_key c.args.nodes c.args.hosts.now c.in-Some.hosts c.as_str.result.now c.in-Some.is
    c.as_str.ensures.value c.in-None.ensures
