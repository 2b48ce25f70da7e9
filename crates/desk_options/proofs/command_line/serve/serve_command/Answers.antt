use Rattle.std.proofs.Common.{codes}
use Rattle.desk_options.specs.CommandLine.{node_rule, file_rule, flag_rule}
use Rattle.desk_options.proofs.Commands.{rule_named}
use Rattle.desk_options.proofs.command_line.serve.serve_command.Goals as goal

pub returns : goal.returns
returns c =
    c.with_hosts.ensures _ (c.with_epochs.ensures _
    (rule_named _ _ _ (flag_rule (codes "log")) c.flag_argument.ensures.rule c.with_argument-logged.ensures _
    (rule_named _ _ _ file_rule c.file_argument.ensures.rule c.with_argument-filed.ensures _
    (c.with_network_group.ensures _
    (rule_named _ _ _ node_rule c.node_argument.ensures.rule c.with_argument-command.ensures _ c.subcommand.ensures)))))
