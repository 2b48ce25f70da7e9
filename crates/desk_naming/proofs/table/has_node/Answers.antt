use Rattle.desk_naming.proofs.table.has_node.Goals as goal

pub returns : goal.returns
returns g c = rw c.schema.ensures.value at c.has_node_table.ensures
