-- The ports of the nodes of a group, which are bound one after the other.
use Rattle.std.proofs.Common.{◌≡◌, ◌<◌, ℕ, ◌+◌, List, [], ◌∷◌, ◌++◌, length, refl, subst, arith}
use Rattle.desk_connections.specs.Ports.{ArePortsFrom, HasPortsOf, IsPortOf, IsPortOfGroup, RefusesOneOf}
use Rattle.desk_connections.specs.declared.ports.NodePorts.{NodePorts}
use Rattle.desk_connections.specs.declared.ports.PortRefused.{PortRefused}
use Rattle.desk_connections.specs.declared.ports.PortRefused.TheVariants.{InUse, NotBound, WantOfMemory}

-- the ports of one node more
pub one_more : (first id n : ℕ) (all : List NodePorts) (ports : NodePorts) → n ≡ id + length all →
    ArePortsFrom first id all → HasPortsOf first n ports → ArePortsFrom first id (all ++ ports ∷ [])
one_more first id n [] ports is h k = (subst (λ m. HasPortsOf first m ports) (omega (arith, is)) k, tt)
one_more first id n (p ∷ all) ports is h k =
    (h.0, one_more first (id + 1) n all ports (omega (arith, is)) h.1 k)

pub one_longer : (all : List NodePorts) (ports : NodePorts) (n : ℕ) → length all ≡ n →
    length (all ++ ports ∷ []) ≡ n + 1
one_longer [] ports n h = omega (arith, h)
one_longer (p ∷ all) ports n h = omega (arith, h, one_longer all ports (length all) refl)

-- the ports of a node of the group are ports of the group
pub of_group : (first id n : ℕ) → id < n → (refused : PortRefused) → RefusesOneOf (IsPortOf first id) refused →
    RefusesOneOf (IsPortOfGroup first n) refused
of_group first id n h (InUse port) is = (id, h, is)
of_group first id n h (NotBound port) is = (id, h, is)
of_group first id n h WantOfMemory is = tt
