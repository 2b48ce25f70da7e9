use Rattle.desk_options.specs.CommandLine.{text_option_rule}
use Rattle.desk_options.proofs.Commands.{rule_named}
use Rattle.desk_options.proofs.command_line.network.with_text_option.Goals as goal

pub returns : goal.returns
returns c = rule_named _ _ _ (text_option_rule c.args.name.now) c.text_option.ensures.rule c.with_argument.ensures
