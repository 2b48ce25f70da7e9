-- The rows of a saved state.
use Rattle.std.specs.Prelude.{codes, IsTrue, map, ◌≡◌, ℕ, ◌+◌, Bool, false, List, [], ◌∷◌}
use Rattle.std.specs.List.{list_any}
use Rattle.std.specs.List.Sorted.{IsPermutation, IsNonDecreasingBy}
use Rattle.sqlite_value.specs.Order.{Row}
use Rattle.sqlite_trees.specs.Tree.{Trees}
use Rattle.sqlite_trees.specs.declared.store.Store.{Ghosts}
use Rattle.sqlite_schema.specs.declared.schema.Schema.{Schema}
use Rattle.sqlite_schema.specs.Names.{same_name}
use Rattle.sqlite.specs.Effect.{Database}
use Rattle.sqlite.specs.State.{HasCleanDisk}
use Rattle.sqlite.specs.Held.{Held, state}
use Rattle.desk_types.specs.declared.command.Entry.{Entry}
use Rattle.desk_codec.specs.Ranges.{FitsEntry, FitsEntries}
use Rattle.desk_codec.specs.Spelling.{body_spelling}
use Rattle.desk_log.specs.SavedValue.{SavedValue, IsSaved}
use Rattle.desk_types.specs.declared.owner.Owner.{Owner}
use Rattle.desk_log.specs.declared.clients.ClientRow.{ClientRow}
use Rattle.desk_log.specs.Clients.{clients}
use Rattle.desk_saved.specs.DeskTables.{shown_entry, shown_client, entry_row, client_table_row, own_rows, Layout}
use Rattle.desk_saved.specs.DeskTables.{LogTables, versioned_row, StateRows, Saves, HasRows}
use Rattle.desk_naming.specs.Named.{shown_node}

-- the row of an entry at a place, with the spelling of its command as the body
abbrev pub entry_row_at : ℕ → Entry → Row
entry_row_at place e = entry_row place e.client e.number (body_spelling e.command)

-- the rows of entries that stand after so many others
abbrev pub rows_from : ℕ → List Entry → List Row
rows_from front [] = []
rows_from front (e ∷ more) = entry_row_at (front + 1) e ∷ rows_from (front + 1) more

-- no entry at the place has this row
abbrev pub IsNoEntryAt : ℕ → Row → Type 0
IsNoEntryAt place row = (e : Entry) → FitsEntry e → ¬ (row ≡ entry_row_at place e)

-- no log has these rows
abbrev pub AreNoLog : List Row → Type 0
AreNoLog rows = (log : List Entry) → FitsEntries log → ¬ (rows ≡ rows_from 0 log)

-- the table of entries has these rows, in any order
abbrev pub HasEntryRows : LogTables → Trees → List Row → Type 0
HasEntryRows d trees rows = IsPermutation rows (map shown_entry (trees d.entry.tree))

-- the rows of the table of entries are those of a log
abbrev pub HasLog : LogTables → Trees → List Entry → Type 0
HasLog d trees log = HasEntryRows d trees (rows_from 0 log)

-- the rows of the table of entries are those of no log
abbrev pub HasNoLog : LogTables → Trees → Type 0
HasNoLog d trees = (log : List Entry) → FitsEntries log → ¬ HasLog d trees log

-- the row is no row of this node in this group, in a file of the version
abbrev pub IsNotOwn : ℕ → ℕ → ℕ → List ℕ → Row → Type 0
IsNotOwn version id n domain row = (v u c : ℕ) → ¬ (row ≡ versioned_row version id n domain v u c)

-- the table of the node has this row alone
abbrev pub HasOwnRow : LogTables → Trees → Row → Type 0
HasOwnRow d trees row = map shown_node (trees d.node.tree) ≡ row ∷ []

-- the row of the table of the node is that of this node in this group with these numbers, in a file of the version
abbrev pub HasOwn : LogTables → Trees → ℕ → ℕ → ℕ → List ℕ → ℕ → ℕ → ℕ → Type 0
HasOwn d trees version id n domain v u c = HasOwnRow d trees (versioned_row version id n domain v u c)

-- the table of the node has no row of this node in this group, or others beside it
abbrev pub HasNoOwn : LogTables → Trees → ℕ → ℕ → ℕ → List ℕ → Type 0
HasNoOwn d trees version id n domain = (v u c : ℕ) → ¬ HasOwn d trees version id n domain v u c

-- the row of a client of a log
abbrev pub row_of_client : ClientRow → Row
row_of_client r = client_table_row r.client r.number r.place

-- the rows of the clients of a log
abbrev pub client_rows : List Entry → List Row
client_rows log = map row_of_client (clients log)

-- the clients of a log, by rising client
abbrev pub AreRisingClients : List Entry → List ClientRow → Type 0
AreRisingClients log rows = IsPermutation (clients log) rows × IsNonDecreasingBy (λ r. r.client) rows

-- the rows of the table of clients are those of a log
abbrev pub HasClients : Layout → Trees → List Entry → Type 0
HasClients d trees log = IsPermutation (client_rows log) (map shown_client (trees d.client.tree))

-- the rows of the log of a saved state
abbrev pub log_of : SavedValue → List Row
log_of s = rows_from 0 s.log

-- the rows of a node with this saved state
abbrev pub state_rows : Owner → SavedValue → StateRows
state_rows own s = own_rows own.id own.n own.domain s.view s.normal s.commit (log_of s) (client_rows s.log)

-- the tables of the node and of the entries have the rows of the saved state, in a file of the version
abbrev pub HasLogFile : LogTables → ℕ → Owner → SavedValue → Trees → Type 0
HasLogFile d version own s trees =
    HasOwn d trees version own.id own.n own.domain s.view s.normal s.commit × HasLog d trees s.log

-- the trees have the rows of the saved state
abbrev pub HasFile : Layout → Owner → SavedValue → Trees → Type 0
HasFile d own s trees = HasRows d trees (state_rows own s)

-- the saved state is committed, and no transaction is open
abbrev pub HoldsFile : {S : Type 0} → Ghosts S → Layout → Held S → Owner → SavedValue → Type 0
HoldsFile g d conn own s = HasCleanDisk (state g conn) → Saves d (state g conn) (state_rows own s)

-- The numbers of a saved state fit together, and each of its entries is within its ranges.
pub record IsState (s : SavedValue) : Type 0 where
  pub saved : IsSaved s
  pub entries : FitsEntries s.log

-- no saved state of this node in this group has the rows of the node and of the entries
abbrev pub HasNoLogFile : LogTables → ℕ → Owner → Trees → Type 0
HasNoLogFile d version own trees = (s : SavedValue) → IsState s → ¬ HasLogFile d version own s trees

-- no saved state of this node in this group has the rows
abbrev pub HasNoState : Layout → Owner → Trees → Type 0
HasNoState d own trees = (s : SavedValue) → IsState s → ¬ HasFile d own s trees

-- the database has the schema of a desk, and the three tables the rows of this saved state of the node
pub record IsFileOf (own : Owner) (db : Database) (s : SavedValue) : Type 0 where
  pub desk : Layout
  pub schema : db.schema ≡ desk.schema
  pub state : IsState s
  pub rows : HasFile desk own s db.trees

-- the schema has a table of the name
abbrev pub bears : Schema → List ℕ → Bool
bears schema name = list_any (λ t. same_name t.name name) schema.tables

-- all three tables are there
abbrev pub HasAll : Schema → Type 0
HasAll schema = IsTrue (bears schema (codes "node")) × IsTrue (bears schema (codes "entry"))
    × IsTrue (bears schema (codes "client"))

-- none of the tables is there
abbrev pub HasNoTable : Schema → Type 0
HasNoTable schema = (bears schema (codes "node") ≡ false) × (bears schema (codes "entry") ≡ false)
    × (bears schema (codes "client") ≡ false)
