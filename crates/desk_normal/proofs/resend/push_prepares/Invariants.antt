use Rattle.std.proofs.Common.{◌≡◌, ◌+◌, ◌++◌, drop}
use Rattle.desk_normal.specs.Rules.{prepare_packets}
use Rattle.desk_normal.proofs.resend.push_prepares.Given as goal

abbrev pub invariant-loop-entry : goal.invariant-loop-entry
invariant-loop-entry l = record {
  place_is : l.place ≡ l.entry-index + l.first;
  so_far : l.packets.items ++ prepare_packets l.member.id l.member.n l.saved l.place (drop l.entry-index l.entries) ≡
      l.fn.packets.items ++ prepare_packets l.member.id l.member.n l.saved l.first l.entries;
}
