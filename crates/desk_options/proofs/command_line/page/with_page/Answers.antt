use Rattle.clap.specs.Simple.{with_rule}
use Rattle.desk_options.specs.CommandLine.{listen_rule, nodes_rule, port_rule, seconds_rule}
use Rattle.desk_options.specs.declared.command_line.port.TheConstants.{MOST_GROUP_PORT}
use Rattle.desk_options.proofs.Commands.{rule_named}
use Rattle.desk_options.proofs.command_line.page.with_page.Goals as goal

pub returns : goal.returns
returns c app is =
    let ported = with_rule app (port_rule MOST_GROUP_PORT) in
    let grouped = with_rule ported nodes_rule in
    rule_named _ _ _ seconds_rule c.seconds_argument.ensures.rule c.with_argument.ensures
    (with_rule grouped listen_rule)
    (rule_named _ _ _ listen_rule c.listen_argument.ensures.rule c.with_argument-listening.ensures grouped
    (rule_named _ _ _ nodes_rule c.nodes_argument.ensures.rule c.with_argument-grouped.ensures ported
    (rule_named _ _ _ (port_rule MOST_GROUP_PORT) c.port_argument.ensures.rule c.with_argument-ported.ensures app is)))
