use Rattle.std.proofs.Common.{refl}
use Rattle.std.specs.Fmt.{digits}
use Rattle.json.specs.Print.{escape_byte}
use Rattle.desk_eido.proofs.reply.want_of_memory_line.Goals as goal

pub returns : goal.returns
unfolding digits escape_byte
returns c = refl
