use Rattle.std.proofs.Common.{◌≡◌, ◌+◌, ◌≤◌, ◌^◌, length}
use Rattle.desk_types.specs.declared.limits.TheConstants.{SESSION_PORTS}
use Rattle.desk_connections.specs.Ports.{ArePortsFrom}
use Rattle.desk_connections.proofs.ports.bind_group.Given as goal

-- one pair of ports for each node before this one, in their order
abbrev pub invariant-loop-id : goal.invariant-loop-id
invariant-loop-id g l =
    (length l.all.items ≡ l.id)
    × (l.first + l.n + SESSION_PORTS ≤ 2 ^ 16 → ArePortsFrom l.first 0 l.all.items)
