use Rattle.desk_options.specs.CommandLine.{node_rule, file_rule}
use Rattle.desk_options.proofs.Commands.{rule_named}
use Rattle.desk_options.proofs.command_line.answer.answer_command.Goals as goal

pub returns : goal.returns
returns c =
    rule_named _ _ _ file_rule c.file_argument.ensures.rule c.with_argument.ensures _ (c.with_group.ensures _
    (rule_named _ _ _ node_rule c.node_argument.ensures.rule c.with_argument-command.ensures _ c.subcommand.ensures))
