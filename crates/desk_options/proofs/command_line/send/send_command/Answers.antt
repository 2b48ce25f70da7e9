use Rattle.desk_options.proofs.command_line.send.send_command.Goals as goal

pub returns : goal.returns
returns c = c.with_hosts.ensures _ (c.with_text_option.ensures _ (c.with_send-command.ensures _ c.subcommand.ensures))
