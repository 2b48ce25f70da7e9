use Rattle.std.proofs.Common.{◌≡◌, codes, Some, sym, ap, ◌∙◌}
use Rattle.std.specs.Option.{option_copied}
use Rattle.desk_naming.specs.TableInSchema.{table_of}
use Rattle.desk_naming.proofs.NodeTable.{stands_so, stands_alone, node_is_there}
use Rattle.desk_naming.proofs.table.has_node_table.Goals as goal

pub returns : goal.returns
returns c =
    let node : table_of c.args.schema.now (codes "node") ≡ Some c.in-Some.node.now =
    sym c.find_table.ensures ∙ ap option_copied c.in-Some.is in (
      λ is. stands_so c.args.schema.now c.in-Some.node.now node (c.is_own_node.ensures.0 is),
      λ has. c.is_own_node.ensures.1 (stands_alone c.args.schema.now c.in-Some.node.now node has),
    )

pub returns-in_default : goal.returns-in_default
returns-in_default c = (
  λ is. absurd cc,
  λ has. absurd (node_is_there c.args.schema.now has (sym c.find_table.ensures ∙ ap option_copied c.in_default.is)),
)
