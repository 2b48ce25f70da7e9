use Rattle.desk_options.proofs.command_line.network.with_hosts.Goals as goal

pub returns : goal.returns
returns c app is =
    c.with_text_option.ensures _ (c.with_text_option-keyed.ensures _ (c.with_text_option-hosted.ensures app is))
