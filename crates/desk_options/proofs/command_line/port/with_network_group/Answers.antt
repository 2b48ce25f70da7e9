use Rattle.desk_options.specs.CommandLine.{port_rule}
use Rattle.desk_options.specs.declared.command_line.port.TheConstants.{MOST_GROUP_PORT}
use Rattle.desk_options.proofs.Commands.{rule_named}
use Rattle.desk_options.proofs.command_line.port.with_network_group.Goals as goal

pub returns : goal.returns
returns c app is =
    rule_named _ _ _ (port_rule MOST_GROUP_PORT) c.port_argument.ensures.rule c.with_argument.ensures _
    (c.with_group.ensures app is)
