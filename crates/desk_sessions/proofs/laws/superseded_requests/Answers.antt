use Rattle.desk_sessions.proofs.PublishedRows.{superseded}
use Rattle.desk_sessions.proofs.laws.superseded_requests.Goals as goal

pub returns : goal.returns
returns c = record { later = superseded }
