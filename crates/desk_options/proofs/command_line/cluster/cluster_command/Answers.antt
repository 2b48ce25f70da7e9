use Rattle.desk_options.specs.CommandLine.{epoch_places_rule}
use Rattle.desk_options.proofs.Commands.{rule_named}
use Rattle.desk_options.proofs.command_line.cluster.cluster_command.Goals as goal

pub returns : goal.returns
returns c =
    rule_named _ _ _ epoch_places_rule c.epoch_places_argument.ensures.rule c.with_argument.ensures _
    (c.with_network_group-grouped.ensures _ c.subcommand.ensures)
