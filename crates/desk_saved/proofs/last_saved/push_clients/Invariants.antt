use Rattle.std.proofs.Common.{◌≡◌, ◌++◌, take}
use Rattle.desk_saved.specs.Clients.{clients_of}
use Rattle.desk_saved.proofs.last_saved.push_clients.Given as goal

abbrev pub invariant-loop-entry : goal.invariant-loop-entry
invariant-loop-entry l = record {
  clients : l.clients.items ≡ l.fn.clients.items ++ clients_of (take l.entry-index l.entries);
}
