-- How the three tables come into a database that has none of them.
use Rattle.std.specs.Prelude.{◌≡◌, ℕ, ◌+◌, ◌<◌, List, [], None, codes, true, false}
use Rattle.sqlite_schema.specs.declared.schema.Schema.{Schema}
use Rattle.sqlite_schema.specs.declared.schema.Table.{Table}
use Rattle.sqlite_schema.specs.Names.{table_named, view_named, index_named}
use Rattle.sqlite_catalog.specs.Change.{created, next_tree, KeepsRows}
use Rattle.sqlite.specs.Does.{lacks_sequence}
use Rattle.sqlite.specs.Effect.{IsDatabase}
use Rattle.sqlite.specs.State.{State, Shows}
use Rattle.desk_naming.specs.declared.limits.TheConstants.{TREES}
use Rattle.desk_naming.specs.Tables.{node_table, entry_table, client_table}
use Rattle.desk_saved.specs.ForeignKeys.{NamesNone}
use Rattle.desk_saved.specs.DeskTables.{Layout}

-- no table, view or index has the name
pub record IsFree (schema : Schema) (name : List ℕ) : Type 0 where
  pub table : table_named schema name ≡ None
  pub view : view_named schema name ≡ None
  pub index : index_named schema name ≡ None

-- a table can be made, and no other comes with it
pub record CanTake (schema : Schema) (table : Table) : Type 0 where
  pub free : IsFree schema table.name
  pub alone : lacks_sequence (created schema table) ≡ false

-- a schema with the table of the node, made last
abbrev pub with_node_table : Schema → Schema
with_node_table schema = created schema (node_table 0)

-- a schema with the table of the node, and then that of the entries
abbrev pub with_entry_table : Schema → Schema
with_entry_table schema = created (with_node_table schema) (entry_table 0)

-- the schema has none of the tables, and with all it is that of the desk
pub record Becomes (schema : Schema) (d : Layout) : Type 0 where
  pub node_can : CanTake schema (node_table 0)
  pub entry_can : CanTake (with_node_table schema) (entry_table 0)
  pub client_can : CanTake (with_entry_table schema) (client_table 0)
  pub desk : created (with_entry_table schema) (client_table 0) ≡ d.schema
  pub node_is : next_tree schema ≡ d.node.tree
  pub entry_is : next_tree (with_node_table schema) ≡ d.entry.tree
  pub client_is : next_tree (with_entry_table schema) ≡ d.client.tree

-- The three tables can be added: nothing bears their names, no foreign key names them, a database with an AUTOINCREMENT
-- table has its sqlite_sequence, and there are numbers for three trees more.
pub record HasRoomForTables (schema : Schema) : Type 0 where
  pub node : IsFree schema (codes "node")
  pub entry : IsFree schema (codes "entry")
  pub client : IsFree schema (codes "client")
  pub unnamed : NamesNone schema
  pub sequence : lacks_sequence schema ≡ false
  pub small : next_tree schema + 2 < TREES

-- the empty table stands after the others, whose rows stay
pub record MakesTable (old new : State) (table : Table) : Type 0 where
  pub schema : new.now.schema ≡ created old.now.schema table
  pub empty : new.now.trees (next_tree old.now.schema) ≡ []
  pub others : KeepsRows old.now.schema.tables old.now.trees new.now.trees
  pub sound : IsDatabase new.now
  pub shows : Shows old new new.now old.committed true
