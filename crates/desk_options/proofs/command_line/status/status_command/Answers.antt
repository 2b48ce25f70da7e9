use Rattle.desk_options.proofs.command_line.status.status_command.Goals as goal

pub returns : goal.returns
returns c = c.with_hosts.ensures _ (c.with_status-command.ensures _ c.subcommand.ensures)
