-- The three tables wherever they stand, and the rows of a saved state in them.
use Rattle.std.specs.Prelude.{map, ◌≡◌, ◌≢◌, ℕ, pos, Bool, true, false, not, List, [], ◌∷◌, filter, IsTrue}
use Rattle.std.specs.List.{AllByRecursion}
use Rattle.std.specs.List.Sorted.{IsPermutation}
use Rattle.std.specs.Ordering.{is_gt, is_eq}
use Rattle.sqlite_value.specs.declared.value.Value.TheVariants.{Int, Blob, Text as Words}
use Rattle.sqlite_value.specs.Order.{Row, column, value_cmp}
use Rattle.sqlite_trees.specs.Tree.{Trees, rowid}
use Rattle.sqlite_schema.specs.declared.schema.Schema.{Schema}
use Rattle.sqlite_rules.specs.Edit.{id_in}
use Rattle.sqlite_catalog.specs.Listing.{IsSound}
use Rattle.sqlite.specs.Effect.{Database, IsDatabase}
use Rattle.sqlite.specs.State.{State, Shows}
use Rattle.desk_naming.specs.Tables.{node_table, entry_table, client_table}
use Rattle.desk_naming.specs.TableInSchema.{TableIn}
use Rattle.desk_saved.specs.ForeignKeys.{NamesNone}
use Rattle.desk_naming.specs.Named.{shown_node, NodeTable}

-- A schema with the three tables among any others: the tables that bear their names have exactly the columns, types and
-- keys of the texts that make them, stand in trees of their own, and no foreign key of any table names them.
pub record Layout : Type 0 where
  pub schema : Schema
  pub node : TableIn schema node_table
  pub entry : TableIn schema entry_table
  pub client : TableIn schema client_table
  pub apart : (node.tree ≢ entry.tree) × (node.tree ≢ client.tree) × (entry.tree ≢ client.tree)
  pub unnamed : NamesNone schema

-- the tables of the node and of the entries in a schema, be there one of the clients or not
pub record LogTables : Type 0 where
  pub schema : Schema
  pub node : TableIn schema node_table
  pub entry : TableIn schema entry_table

-- both stand in the schema
abbrev pub HasLogTables : Schema → Type 0
HasLogTables schema = (d : LogTables) × (schema ≡ d.schema)

-- that of a schema with the entries too
abbrev pub node_table_of : LogTables → NodeTable
node_table_of d = record { schema = d.schema; node = d.node }

-- those of a desk
abbrev pub log_tables : Layout → LogTables
log_tables d = record { schema = d.schema; node = d.node; entry = d.entry }

-- the trees of the three tables
abbrev pub our_trees : Layout → List ℕ
our_trees d = d.node.tree ∷ d.entry.tree ∷ d.client.tree ∷ []

-- whether the rowid of a row is over a place
abbrev pub is_past : ℕ → Row → Bool
is_past front row = is_gt (value_cmp (rowid row) (Int (pos front)))

-- a row's first value is a whole number, as a rowid is
abbrev pub IsKeyed : Row → Type 0
IsKeyed r = rowid r ≡ Int (id_in (rowid r))

-- the rows whose rowid is at most a place
abbrev pub up_to : ℕ → List Row → List Row
up_to front rows = filter (λ r. not (is_past front r)) rows

-- the columns of a row in the order of the table, as a query shows them
abbrev pub shown_entry : Row → Row
shown_entry r = column r 0 ∷ column r 2 ∷ column r 3 ∷ column r 4 ∷ []

-- the row of an entry at a place, as a query shows it
abbrev pub entry_row : ℕ → ℕ → ℕ → List ℕ → Row
entry_row place client number body = Int (pos place) ∷ Int (pos client) ∷ Int (pos number) ∷ Blob body ∷ []

-- whether the rowid of a row is a client
abbrev pub is_client : ℕ → Row → Bool
is_client client row = is_eq (value_cmp (rowid row) (Int (pos client)))

-- the rows other than that of a client
abbrev pub without_client : ℕ → List Row → List Row
without_client client rows = filter (λ r. not (is_client client r)) rows

-- the columns of a row of `client`, in their order, as a query shows them
abbrev pub shown_client : Row → Row
shown_client r = column r 0 ∷ column r 2 ∷ column r 3 ∷ []

-- the row of a client, as a query shows it, with the number and the place of its latest entry
abbrev pub client_table_row : ℕ → ℕ → ℕ → Row
client_table_row client number place = Int (pos client) ∷ Int (pos number) ∷ Int (pos place) ∷ []

-- the row of a node in a file of a version, as a query shows it: slot 1, the version, the node, the number of nodes,
-- the domain, and the numbers
abbrev pub versioned_row : ℕ → ℕ → ℕ → List ℕ → ℕ → ℕ → ℕ → Row
versioned_row version id n domain view normal commit = Int (pos 1) ∷ Int (pos version) ∷ Int (pos id) ∷ Int (pos n)
    ∷ Words domain ∷ Int (pos view) ∷ Int (pos normal) ∷ Int (pos commit) ∷ []

-- that of a node in a file of version 2
abbrev pub own_row : ℕ → ℕ → List ℕ → ℕ → ℕ → ℕ → Row
own_row id n domain view normal commit = versioned_row 2 id n domain view normal commit

-- the rows of a state: those of `node`, and those of `entry` and of `client` in any order
pub record StateRows : Type 0 where
  pub own : List Row
  pub entries : List Row
  pub clients : List Row

-- the rows of a state whose node has this row alone
abbrev pub own_rows : ℕ → ℕ → List ℕ → ℕ → ℕ → ℕ → List Row → List Row → StateRows
own_rows id n domain view normal commit entries clients =
    record { own = own_row id n domain view normal commit ∷ []; entries = entries; clients = clients }

-- the rows of the three tables, as queries show them
abbrev pub HasRows : Layout → Trees → StateRows → Type 0
HasRows d trees rows =
    (map shown_node (trees d.node.tree) ≡ rows.own) × IsPermutation rows.entries (map shown_entry (trees d.entry.tree))
    × IsPermutation rows.clients (map shown_client (trees d.client.tree))

-- the tree is none of the three
abbrev pub IsOther : Layout → ℕ → Type 0
IsOther d tree = AllByRecursion (λ ours. tree ≢ ours) (our_trees d)

-- the other tables have the rows that they had
abbrev pub KeepsOthers : Layout → Trees → Trees → Type 0
KeepsOthers d old new = AllByRecursion (λ t. IsOther d t.tree → new t.tree ≡ old t.tree) d.schema.tables

-- the rows of the entries are what they were, byte for byte
abbrev pub KeepsEntryRows : Layout → State → State → Type 0
KeepsEntryRows d old new = new.now.trees d.entry.tree ≡ old.now.trees d.entry.tree

-- the database has the three tables where the desk says, and in them these rows
pub record Keeps (d : Layout) (db : Database) (shown : StateRows) : Type 0 where
  pub schema : db.schema ≡ d.schema
  pub rows : HasRows d db.trees shown

-- The three tables come to have these rows, and the other tables keep theirs. The trees list the schema, and obey it.
abbrev pub Changes : Layout → Trees → Trees → StateRows → Type 0
Changes d old new rows = HasRows d new rows × KeepsOthers d old new × IsSound d.schema new

-- a statement of an open transaction leaves these rows in a database that obeys its schema, and commits nothing
pub record Leaves (d : Layout) (old new : State) (rows : StateRows) : Type 0 where
  pub keeps : Keeps d new.now rows
  pub others : KeepsOthers d old.now.trees new.now.trees
  pub sound : IsDatabase new.now
  pub shows : Shows old new new.now old.committed true

-- a transaction is open, in a database that obeys its schema
pub record IsInside (s : State) : Type 0 where
  pub is_open : IsTrue s.is_open
  pub in_transaction : IsTrue s.in_transaction
  pub sound : IsDatabase s.now

-- each row's first value is a whole number
abbrev pub AreKeyed : List Row → Type 0
AreKeyed = AllByRecursion IsKeyed

-- the rows have whole numbers as rowids, and none is past the place
pub record AreWithin (held : ℕ) (rows : List Row) : Type 0 where
  pub keyed : AreKeyed rows
  pub none_past : up_to held rows ≡ rows

-- the rows are committed, in trees that list the schema and obey it, and no transaction is open
pub record Saves (d : Layout) (s : State) (rows : StateRows) : Type 0 where
  pub keeps : Keeps d s.now rows
  pub sound : IsSound d.schema s.now.trees
  pub committed : s.committed ≡ s.now
  pub is_open : IsTrue s.is_open
  pub autocommit : s.in_transaction ≡ false
