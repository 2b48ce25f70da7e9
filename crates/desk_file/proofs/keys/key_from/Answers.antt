use Rattle.desk_file.proofs.KeyBytes.{whole_text}
use Rattle.desk_file.proofs.keys.key_from.Goals as goal

pub returns-in-Ok-clause-key : goal.returns-in-Ok-clause-key
returns-in-Ok-clause-key g c =
    whole_text (g.R.Read.remaining c.args.reader.now) (g.R.Read.remaining c.read_whole.new.reader) _ _
    c.in_ok-count.ensures.bytes c.in_ok-count.ensures.end c.in-Ok.ensures.key
