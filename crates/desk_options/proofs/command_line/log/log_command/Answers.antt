use Rattle.desk_options.specs.CommandLine.{file_rule, from_rule}
use Rattle.desk_options.proofs.Commands.{rule_named}
use Rattle.desk_options.proofs.command_line.log.log_command.Goals as goal

pub returns : goal.returns
returns c =
    rule_named _ _ _ from_rule c.from_argument.ensures.rule c.with_argument.ensures _
    (rule_named _ _ _ file_rule c.read_file_argument.ensures.rule c.with_argument-filed.ensures _ c.subcommand.ensures)
