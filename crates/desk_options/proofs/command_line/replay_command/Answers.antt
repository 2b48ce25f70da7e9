use Rattle.desk_options.specs.CommandLine.{domain_rule}
use Rattle.desk_options.proofs.Commands.{rule_named}
use Rattle.desk_options.proofs.command_line.replay_command.Goals as goal

pub returns : goal.returns
returns c = rule_named _ _ _ domain_rule c.domain_argument.ensures.rule c.with_argument.ensures _ c.subcommand.ensures
