use Rattle.std.proofs.Common.{◌≡◌, ℕ, take, map}
use Rattle.std.specs.BTreeSet.{contains}
use Rattle.std.specs.Ordering.{nat_cmp}
use Rattle.desk_log.specs.Clients.{different_clients, client_row}
use Rattle.desk_log.proofs.DifferentClients.{has_entry_of}
use Rattle.desk_log.proofs.clients.client_rows.Given as goal

abbrev pub invariant-loop-entry : goal.invariant-loop-entry
invariant-loop-entry l = record {
  met : (c : ℕ) → contains nat_cmp l.met c ≡ has_entry_of c (take l.entry-index l.log);
  rows : l.rows.items ≡ map (client_row l.log) (different_clients (take l.entry-index l.log));
}
