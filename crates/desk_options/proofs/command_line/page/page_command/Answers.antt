use Rattle.desk_options.proofs.command_line.page.page_command.Goals as goal

pub returns : goal.returns
returns c = c.with_hosts.ensures _ (c.with_page-command.ensures _ c.subcommand.ensures)
