use Rattle.desk_published.proofs.ReportedRows.{reported_has_row}
use Rattle.desk_published.proofs.laws.reported_rows.Goals as goal

pub returns : goal.returns
returns c = record { row = reported_has_row }
