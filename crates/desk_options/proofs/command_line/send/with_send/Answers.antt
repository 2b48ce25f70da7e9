use Rattle.clap.specs.Simple.{with_rule}
use Rattle.desk_options.specs.CommandLine.{nodes_rule, optional_rule, port_rule, seconds_rule}
use Rattle.desk_options.specs.declared.command_line.port.TheConstants.{MOST_SESSION_PORT}
use Rattle.desk_options.proofs.Commands.{rule_named}
use Rattle.desk_options.proofs.command_line.send.with_send.Goals as goal

pub returns : goal.returns
returns c app is =
    let ported = with_rule app (port_rule MOST_SESSION_PORT) in
    rule_named _ _ _ seconds_rule c.seconds_argument.ensures.rule c.with_argument.ensures
    (with_rule ported (optional_rule nodes_rule))
    (rule_named _ _ _ (optional_rule nodes_rule) c.followed_argument.ensures.rule c.with_argument-followed.ensures
    ported
    (rule_named _ _ _ (port_rule MOST_SESSION_PORT) c.port_argument.ensures.rule c.with_argument-ported.ensures app is))
