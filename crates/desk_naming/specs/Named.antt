-- Which node's file a database is, as the row of the node says it.
use Rattle.std.specs.Prelude.{map, ◌≡◌, pos, List, [], ◌∷◌}
use Rattle.sqlite_value.specs.declared.value.Value.TheVariants.{Int, Text as Words}
use Rattle.sqlite_value.specs.Order.{Row, column}
use Rattle.sqlite_schema.specs.declared.schema.Schema.{Schema}
use Rattle.sqlite.specs.Effect.{Database}
use Rattle.desk_naming.specs.Tables.{node_table}
use Rattle.desk_naming.specs.TableInSchema.{TableIn}
use Rattle.desk_types.specs.Identifier.{IsLowerDomain}
use Rattle.desk_naming.specs.declared.named.NamedOwner.{NamedOwner}

-- the table of the node in a schema, be there the other two or not
pub record NodeTable : Type 0 where
  pub schema : Schema
  pub node : TableIn schema node_table

-- the columns of a row of `node`, in their order, as a query shows them
abbrev pub shown_node : Row → Row
shown_node r = column r 0 ∷ column r 2 ∷ column r 3 ∷ column r 4 ∷ column r 5 ∷ column r 6 ∷ column r 7 ∷ column r 8
    ∷ []

-- the table of the node stands in the schema
abbrev pub HasNodeTable : Schema → Type 0
HasNodeTable schema = (d : NodeTable) × (schema ≡ d.schema)

-- a row of this node, as a query shows it, whatever numbers stand after its domain
abbrev pub named_row : NamedOwner → Row → Row
named_row o numbers =
    Int (pos 1) ∷ Int (pos o.version) ∷ Int (pos o.id) ∷ Int (pos o.n) ∷ Words o.domain ∷ numbers

-- the row is that of no node
abbrev pub IsRowOfNone : Row → Type 0
IsRowOfNone row = (o : NamedOwner) (numbers : Row) → IsLowerDomain o.domain → ¬ (row ≡ named_row o numbers)

-- there is one row, which is that of this node
abbrev pub AreRowsOf : NamedOwner → List Row → Type 0
AreRowsOf o rows = (numbers : Row) × (rows ≡ named_row o numbers ∷ [])

-- there is no row, or more than one, or one that is that of no node
abbrev pub AreRowsOfNone : List Row → Type 0
AreRowsOfNone rows = (o : NamedOwner) (numbers : Row) → IsLowerDomain o.domain
    → ¬ (rows ≡ named_row o numbers ∷ [])

-- the table of the node stands in the database, and has one row, which is that of this node
pub record NamesOwner (db : Database) (o : NamedOwner) : Type 0 where
  pub table : NodeTable
  pub schema : db.schema ≡ table.schema
  pub rows : AreRowsOf o (map shown_node (db.trees table.node.tree))

-- it names no node
abbrev pub NamesNobody : Database → Type 0
NamesNobody db = (o : NamedOwner) → IsLowerDomain o.domain → ¬ NamesOwner db o
