-- A row for each node.
use Rattle.std.specs.Prelude.{ℕ, Option, None, false}
use Rattle.desk_log.proofs.NodeRows.{length_replicate}
use Rattle.desk_view_change.specs.declared.offer.Offer.{Offer}
use Rattle.desk_view_change.specs.Heard.{HasRowForEach, no_view_change}

pub no_rows : (n : ℕ) → HasRowForEach n (no_view_change n)
no_rows n = record { askers = length_replicate n false; offers = length_replicate {A = Option Offer} n None }
