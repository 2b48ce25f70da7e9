use Rattle.desk_options.proofs.Commands.{argument_added}
use Rattle.desk_options.proofs.command_line.with_argument.Goals as goal

pub returns-in-Ok : goal.returns-in-Ok
returns-in-Ok c = argument_added _ c.in-Ok.command c.args.argument c.arg.result c.in-Ok.is c.requires c.arg.ensures
