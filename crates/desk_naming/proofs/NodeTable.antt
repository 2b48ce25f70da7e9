-- The table of the node, be there the other two or not, and the node that its row names.
use Rattle.std.proofs.Common.{◌≡◌, ◌≢◌, List, codes, None, Some, Option, MatchOption, map, refl, sym, subst}
use Rattle.std.proofs.Common.{IsPermutation}
use Rattle.sqlite_value.specs.Order.{Row}
use Rattle.sqlite_schema.specs.declared.schema.Table.{Table}
use Rattle.sqlite_schema.specs.declared.schema.Schema.{Schema}
use Rattle.sqlite.specs.Effect.{Database}
use Rattle.desk_naming.specs.declared.named.NamedOwner.{NamedOwner}
use Rattle.desk_naming.specs.Tables.{node_table}
use Rattle.desk_naming.specs.TableInSchema.{HasOwnTree, StandsAt, table_of}
use Rattle.desk_naming.specs.Named.{NodeTable, shown_node, HasNodeTable, AreRowsOf, AreRowsOfNone, NamesOwner}
use Rattle.desk_naming.specs.Named.{NamesNobody}
use Rattle.desk_naming.proofs.StandingTables.{in_schema}
use Rattle.desk_naming.proofs.NodeAnswer.{one_shown, one_stands}

module _ (schema : Schema) (has : HasNodeTable schema) where
  it_stands : StandsAt schema (node_table has.0.node.tree) has.0.node.at
  it_stands = subst (λ s. StandsAt s (node_table has.0.node.tree) has.0.node.at) (sym has.1) has.0.node.stands

  pub node_is_there : table_of schema (codes "node") ≢ None
  node_is_there none =
      let found : table_of schema (codes "node") ≡ Some (node_table has.0.node.tree) =
      rw it_stands.named it_stands.found in
      absurd cc

module _ (schema : Schema) (node : Table) (found : table_of schema (codes "node") ≡ Some node) where
  -- what is compared makes the table
  pub stands_so : (node ≡ node_table node.tree) × HasOwnTree schema node → HasNodeTable schema
  stands_so same =
      let d : NodeTable = record {
        schema = schema;
        node = in_schema schema node_table node found same.0 same.1;
      } in (d, refl)

  -- and the table has it
  pub stands_alone : HasNodeTable schema → (node ≡ node_table node.tree) × HasOwnTree schema node
  stands_alone has =
      let it = it_stands schema has in
      let node_is : node ≡ node_table has.0.node.tree = (let p = it.named in let q = it.found in cc) in (
        (let e = node_is in cc),
        subst (HasOwnTree schema) (sym node_is) it.own,
      )

-- what the rows name is what the database names
pub owner_found : (db : Database) (rows : List Row)
    → ((d : NodeTable) → db.schema ≡ d.schema → IsPermutation rows (map shown_node (db.trees d.node.tree)))
    → HasNodeTable db.schema → (found : Option NamedOwner)
    → MatchOption found (AreRowsOfNone rows) (λ o. AreRowsOf o rows)
    → MatchOption found (NamesNobody db) (λ o. NamesOwner db o)
owner_found db rows shown has None none = λ o lower names.
    none o names.rows.0 lower
    (one_shown db.trees names.table.node.tree rows (shown names.table names.schema) _ names.rows.1)
owner_found db rows shown has (Some o) are = record {
  table = has.0;
  schema = has.1;
  rows = (are.0, one_stands db.trees has.0.node.tree rows (shown has.0 has.1) _ are.1);
}
