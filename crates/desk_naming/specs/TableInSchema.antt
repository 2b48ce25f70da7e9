-- A table that stands in a schema, wherever it stands.
use Rattle.std.specs.Prelude.{◌≡◌, ℕ, List, false, Some, slice_get, nat_le, Option}
use Rattle.std.specs.List.{AllByRecursion}
use Rattle.sqlite_schema.specs.declared.schema.Schema.{Schema}
use Rattle.sqlite_schema.specs.declared.schema.Table.{Table}
use Rattle.sqlite_schema.specs.Names.{table_named}
use Rattle.desk_naming.specs.declared.limits.TheConstants.{TREES}
use Rattle.std.specs.Option.{option_and_then}

-- the table has its tree to itself, whose number is below TREES
pub record HasOwnTree (schema : Schema) (table : Table) : Type 0 where
  pub alone : AllByRecursion (λ t. t.tree ≡ table.tree → t.name ≡ table.name) schema.tables
  pub small : nat_le TREES table.tree ≡ false

-- the table is the one of its name, stands at the place, and has its tree to itself
pub record StandsAt (schema : Schema) (table : Table) (at : ℕ) : Type 0 where
  pub named : table_named schema table.name ≡ Some at
  pub found : slice_get schema.tables at ≡ Some table
  pub own : HasOwnTree schema table

-- where one of our tables stands in a schema: its tree, its place in the list of tables, and that it stands there
pub record TableIn (schema : Schema) (table : ℕ → Table) : Type 0 where
  pub tree : ℕ
  pub at : ℕ
  pub stands : StandsAt schema (table tree) at

-- the table that SQL finds by a name
abbrev pub table_of : Schema → List ℕ → Option Table
table_of schema name = option_and_then (slice_get schema.tables) (table_named schema name)
