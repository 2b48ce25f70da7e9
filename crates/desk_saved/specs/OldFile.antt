-- A file of version 1: the tables of the node and of the entries alone, and the row of the node says so.
use Rattle.std.specs.Prelude.{◌≡◌, ◌<◌, ◌≤◌, List, codes, false, length}
use Rattle.sqlite_value.specs.Order.{Row}
use Rattle.std.specs.List.{list_any}
use Rattle.sqlite_trees.specs.Tree.{Trees}
use Rattle.sqlite_schema.specs.declared.schema.Schema.{Schema}
use Rattle.sqlite_catalog.specs.Change.{created, next_tree}
use Rattle.sqlite.specs.Does.{lacks_sequence}
use Rattle.sqlite.specs.Effect.{Database}
use Rattle.desk_types.specs.declared.owner.Owner.{Owner}
use Rattle.desk_log.specs.SavedValue.{SavedValue}
use Rattle.desk_codec.specs.Version.{is_new_entry}
use Rattle.desk_types.specs.declared.limits.TheConstants.{FIRST_LOG_ENTRIES}
use Rattle.desk_naming.specs.declared.limits.TheConstants.{TREES}
use Rattle.desk_naming.specs.Tables.{client_table}
use Rattle.desk_saved.specs.ForeignKeys.{NamesNone}
use Rattle.desk_saved.specs.DeskTables.{Layout, LogTables, Changes, log_tables}
use Rattle.desk_saved.specs.File.{HasOwnRow, HasEntryRows, HasLogFile, IsState, bears, state_rows}
use Rattle.desk_saved.specs.NewTables.{IsFree, CanTake}

-- the schema has the tables of the node and of the entries as a desk has them, and none of the third name
pub record HasOldTables (schema : Schema) : Type 0 where
  pub tables : LogTables
  pub schema_is : schema ≡ tables.schema
  pub alone : bears schema (codes "client") ≡ false

-- with the table of the clients the schema is that of the desk, in which the other two stand where they stood
pub record GrowsTo (schema : Schema) (d : Layout) : Type 0 where
  pub client_can : CanTake schema (client_table 0)
  pub desk : created schema (client_table 0) ≡ d.schema
  pub client_is : next_tree schema ≡ d.client.tree

-- The table of the clients can be added: nothing bears its name, no foreign key names a table of the desk, a database
-- with an AUTOINCREMENT table has its sqlite_sequence, and there is a number for one tree more.
pub record HasRoomForClients (schema : Schema) : Type 0 where
  pub client : IsFree schema (codes "client")
  pub unnamed : NamesNone schema
  pub sequence : lacks_sequence schema ≡ false
  pub small : next_tree schema < TREES

-- the rows of the node and of the entries, where the table of the clients is still to be made
abbrev pub HasOldRows : Layout → Trees → Row → List Row → Type 0
HasOldRows d trees own entries = HasOwnRow (log_tables d) trees own × HasEntryRows (log_tables d) trees entries

-- a state that a node of version 1 can have saved: no verb is newer, and the log is no longer than its were
pub record IsOldState (s : SavedValue) : Type 0 where
  pub state : IsState s
  pub within : length s.log ≤ FIRST_LOG_ENTRIES
  pub older : list_any is_new_entry s.log ≡ false

-- the two tables have the rows of a state, in a file of version 1
abbrev pub HasOldFile : LogTables → Owner → SavedValue → Trees → Type 0
HasOldFile d own s trees = HasLogFile d 1 own s trees

-- no state that a node of version 1 can have saved has the rows
abbrev pub HasNoOldState : LogTables → Owner → Trees → Type 0
HasNoOldState d own trees = (s : SavedValue) → IsOldState s → ¬ HasOldFile d own s trees

-- the database is a file of version 1 of this state of the node
pub record IsOldFileOf (own : Owner) (db : Database) (s : SavedValue) : Type 0 where
  pub tables : HasOldTables db.schema
  pub state : IsOldState s
  pub rows : HasOldFile tables.tables own s db.trees

-- The trees come to be those of a file of version 2 with this state: the rows of the entries are what they were, byte
-- for byte, and so are those of other tables.
abbrev pub IsGrown : Layout → Owner → SavedValue → Trees → Trees → Type 0
IsGrown d own s old new = Changes d old new (state_rows own s) × (new d.entry.tree ≡ old d.entry.tree)
