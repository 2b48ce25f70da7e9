use Rattle.std.proofs.Common.{codes}
use Rattle.desk_options.specs.CommandLine.{epoch_places_rule, flag_rule, member_rule}
use Rattle.desk_options.proofs.Commands.{rule_named}
use Rattle.desk_options.proofs.command_line.epochs.with_epochs.Goals as goal

pub returns : goal.returns
returns c app is =
    rule_named _ _ _ member_rule c.member_argument.ensures.rule c.with_argument.ensures _
    (rule_named _ _ _ epoch_places_rule c.epoch_places_argument.ensures.rule c.with_argument-placed.ensures _
    (rule_named _ _ _ (flag_rule (codes "next")) c.flag_argument.ensures.rule c.with_argument-going.ensures app is))
