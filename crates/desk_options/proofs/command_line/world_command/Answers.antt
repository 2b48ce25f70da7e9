use Rattle.desk_options.proofs.command_line.world_command.Goals as goal

pub returns : goal.returns
returns c = c.with_group.ensures _ c.subcommand.ensures
