use Rattle.clap.specs.Simple.{with_rule}
use Rattle.desk_options.specs.CommandLine.{nodes_rule, domain_rule}
use Rattle.desk_options.proofs.Commands.{rule_named}
use Rattle.desk_options.proofs.command_line.with_group.Goals as goal

pub returns : goal.returns
returns c app is =
    rule_named _ _ _ domain_rule c.domain_argument.ensures.rule c.with_argument.ensures (with_rule app nodes_rule)
    (rule_named _ _ _ nodes_rule c.nodes_argument.ensures.rule c.with_argument-command.ensures app is)
