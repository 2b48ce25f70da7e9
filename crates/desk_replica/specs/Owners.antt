-- Whose a node is.
use Rattle.desk_types.specs.declared.owner.Owner.{Owner}
use Rattle.desk_node.specs.NodeValue.{NodeValue}

-- the member of a group that the node is
abbrev pub owner_of_node : NodeValue → Owner
owner_of_node k = record { id = k.id; n = k.n; domain = k.domain }
