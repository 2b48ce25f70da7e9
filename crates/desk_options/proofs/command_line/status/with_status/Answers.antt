use Rattle.clap.specs.Simple.{with_rule}
use Rattle.desk_options.specs.CommandLine.{nodes_rule, port_rule}
use Rattle.desk_options.specs.declared.command_line.port.TheConstants.{MOST_GROUP_PORT}
use Rattle.desk_options.proofs.Commands.{rule_named}
use Rattle.desk_options.proofs.command_line.status.with_status.Goals as goal

pub returns : goal.returns
returns c app is =
    let ported = with_rule app (port_rule MOST_GROUP_PORT) in
    rule_named _ _ _ nodes_rule c.nodes_argument.ensures.rule c.with_argument.ensures ported
    (rule_named _ _ _ (port_rule MOST_GROUP_PORT) c.port_argument.ensures.rule c.with_argument-ported.ensures app is)
