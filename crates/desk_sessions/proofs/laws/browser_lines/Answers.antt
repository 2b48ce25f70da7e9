use Rattle.desk_sessions.proofs.BrowserLines.{no_document}
use Rattle.desk_sessions.proofs.laws.browser_lines.Goals as goal

pub returns : goal.returns
returns c = record { documents = no_document }
