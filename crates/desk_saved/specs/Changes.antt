-- A change of the rows of a desk, as data: the SQL that makes it, and what it makes of the rows.
use Rattle.std.specs.Prelude.{◌≡◌, ℕ, pos, List, [], ◌∷◌, ◌<◌, ◌^◌, fold, map, take, drop, length, ◌+◌, ◌++◌}
use Rattle.std.specs.List.{AllByRecursion}
use Rattle.std.specs.List.Sorted.{IsPermutation}
use Rattle.sqlite_value.specs.declared.value.Value.TheVariants.{Int, Text as Words}
use Rattle.sqlite_value.specs.Order.{Row}
use Rattle.sqlite_schema.specs.declared.schema.Table.{Table}
use Rattle.sqlite.specs.Effect.{Database}
use Rattle.desk_codec.specs.Ranges.{FitsEntry, FitsEntries}
use Rattle.desk_saved.specs.declared.changes.RowChange.{RowChange}
use Rattle.desk_saved.specs.declared.changes.RowChange.TheVariants as changes
use Rattle.desk_saved.specs.declared.changes.DeskTable.{DeskTable}
use Rattle.desk_saved.specs.declared.changes.DeskTable.TheVariants as tables
use Rattle.desk_saved.specs.declared.steps.RowStep.{RowStep}
use Rattle.desk_saved.specs.declared.steps.RowStep.TheVariants as steps
use Rattle.desk_saved.specs.declared.changes.Missing.{Missing}
use Rattle.desk_saved.specs.declared.changes.Missing.TheVariants as missings
use Rattle.desk_saved.specs.declared.transactions.Numbers.{Numbers}
use Rattle.desk_saved.specs.Clients.{settle_all}
use Rattle.desk_saved.specs.DeskTables.{Layout, StateRows, Keeps, AreKeyed, AreWithin, up_to, without_client}
use Rattle.desk_saved.specs.DeskTables.{client_table_row, own_row, versioned_row, shown_entry}
use Rattle.desk_naming.specs.Named.{shown_node}
use Rattle.desk_saved.specs.File.{entry_row_at, rows_from}
use Rattle.desk_saved.specs.NewTables.{Becomes}
use Rattle.desk_saved.specs.OldFile.{GrowsTo}
use Rattle.desk_naming.specs.Tables.{node_table, entry_table, client_table}
use Rattle.desk_saved.specs.Tables.{make_node, make_entry, make_client, cut_entries, add_entry, cut_client, add_client}
use Rattle.desk_saved.specs.Tables.{first_node, set_node, set_version}

-- the text of its statement
abbrev pub sql_of : RowChange → List ℕ
sql_of (changes.CutEntries front) = cut_entries
sql_of (changes.AddEntry place entry) = add_entry
sql_of (changes.CutClient client) = cut_client
sql_of (changes.AddClient client number place) = add_client
sql_of (changes.PutFirst id n domain) = first_node
sql_of (changes.SetNumbers view normal commit) = set_node
sql_of changes.SetVersion = set_version

-- the values of its parameters
abbrev pub values_of : RowChange → Row
values_of (changes.CutEntries front) = Int (pos front) ∷ []
values_of (changes.AddEntry place entry) = entry_row_at place entry.now
values_of (changes.CutClient client) = Int (pos client) ∷ []
values_of (changes.AddClient client number place) = client_table_row client number place
values_of (changes.PutFirst id n domain) = Int (pos id) ∷ Int (pos n) ∷ Words domain.now ∷ []
values_of (changes.SetNumbers view normal commit) = Int (pos view) ∷ Int (pos normal) ∷ Int (pos commit) ∷ []
values_of changes.SetVersion = []

-- the row of a node with other numbers
abbrev pub with_numbers : ℕ → ℕ → ℕ → Row → Row
with_numbers view normal commit row = take 5 row ++ (Int (pos view) ∷ Int (pos normal) ∷ Int (pos commit) ∷ [])

-- the row of a node in a file of version 2, where it was of another
abbrev pub with_version : Row → Row
with_version row = take 1 row ++ (Int (pos 2) ∷ drop 2 row)

-- what it makes of the rows
abbrev pub change_effect : RowChange → StateRows → StateRows
change_effect (changes.CutEntries front) rows = record rows { entries = up_to front rows.entries }
change_effect (changes.AddEntry place entry) rows = record rows {
  entries = entry_row_at place entry.now
      ∷ rows.entries;
}
change_effect (changes.CutClient client) rows = record rows { clients = without_client client rows.clients }
change_effect (changes.AddClient client number place) rows =
    record rows { clients = client_table_row client number place ∷ rows.clients }
change_effect (changes.PutFirst id n domain) rows = record rows { own = own_row id n domain.now 0 0 0 ∷ rows.own }
change_effect (changes.SetNumbers view normal commit) rows =
    record rows { own = map (with_numbers view normal commit) rows.own }
change_effect changes.SetVersion rows = record rows { own = map with_version rows.own }

-- the change of the numbers to these
abbrev pub numbers_set : Numbers → RowChange
numbers_set numbers = changes.SetNumbers numbers.view numbers.normal numbers.commit

-- what a step makes of them
abbrev pub step_effect : RowStep → StateRows → StateRows
step_effect (steps.One change) rows = change_effect change rows
step_effect (steps.CutPast front held) rows = change_effect (changes.CutEntries front) rows
step_effect (steps.SetChanged before numbers) rows = change_effect (numbers_set numbers) rows
step_effect (steps.AddEntries front more) rows = record rows { entries = rows.entries ++ rows_from front more.now }
step_effect (steps.Settle log clients) rows =
    record rows { clients = settle_all log.now clients.now rows.clients }

-- what steps make of them, one after the other
abbrev pub effects : List RowStep → StateRows → StateRows
effects all rows = fold (λ made step. step_effect step made) rows all

-- its numbers are numbers of SQL
abbrev pub IsSmall : RowChange → Type 0
IsSmall (changes.CutEntries front) = front < 2 ^ 63
IsSmall (changes.AddEntry place entry) = place < 2 ^ 63
IsSmall (changes.CutClient client) = client < 2 ^ 63
IsSmall (changes.AddClient client number place) = (client < 2 ^ 63) × (number < 2 ^ 63) × (place < 2 ^ 63)
IsSmall (changes.PutFirst id n domain) = (id < 2 ^ 63) × (n < 2 ^ 63)
IsSmall (changes.SetNumbers view normal commit) = (view < 2 ^ 63) × (normal < 2 ^ 63) × (commit < 2 ^ 63)
IsSmall changes.SetVersion = Unit {0}

-- those of a step are
abbrev pub IsSmallStep : RowStep → Type 0
IsSmallStep (steps.One change) = IsSmall change
IsSmallStep (steps.CutPast front held) = front < 2 ^ 63
IsSmallStep (steps.SetChanged before numbers) = IsSmall (numbers_set numbers)
IsSmallStep (steps.AddEntries front more) = front + length more.now < 2 ^ 63
IsSmallStep _ = Unit {0}

-- the entry that it writes is within its ranges
abbrev pub IsFit : RowChange → Type 0
IsFit (changes.AddEntry place entry) = FitsEntry entry.now
IsFit _ = Unit {0}

-- the entries that a step writes are
abbrev pub IsFitStep : RowStep → Type 0
IsFitStep (steps.One change) = IsFit change
IsFitStep (steps.AddEntries front more) = FitsEntries more.now
IsFitStep _ = Unit {0}

-- the one row of a node in a file of a version
pub record IsOwnRow (version : ℕ) (rows : List Row) : Type 0 where
  pub id : ℕ
  pub n : ℕ
  pub domain : List ℕ
  pub view : ℕ
  pub normal : ℕ
  pub commit : ℕ
  pub is : rows ≡ versioned_row version id n domain view normal commit ∷ []

-- the rows are such as it can be made of
abbrev pub IsApt : RowChange → StateRows → Type 0
IsApt (changes.CutEntries front) rows = AreKeyed rows.entries
IsApt (changes.CutClient client) rows = AreKeyed rows.clients
IsApt (changes.PutFirst id n domain) rows = rows.own ≡ []
IsApt (changes.SetNumbers view normal commit) rows = IsOwnRow 2 rows.own
IsApt changes.SetVersion rows = IsOwnRow 1 rows.own
IsApt _ rows = Unit {0}

-- they are such as a step can be made of
abbrev pub IsAptStep : RowStep → StateRows → Type 0
IsAptStep (steps.One change) rows = IsApt change rows
IsAptStep (steps.CutPast front held) rows = AreWithin held rows.entries
IsAptStep (steps.SetChanged before numbers) rows =
    IsOwnRow 2 rows.own × (change_effect (numbers_set before) rows ≡ rows)
IsAptStep (steps.Settle log clients) rows = AreKeyed rows.clients
IsAptStep _ rows = Unit {0}

-- each step can be made of what those before it leave
abbrev pub AreApt : List RowStep → StateRows → Type 0
AreApt [] rows = Unit {0}
AreApt (step ∷ more) rows = IsAptStep step rows × AreApt more (step_effect step rows)

-- it writes no row of the entries
abbrev pub Spares : RowChange → Type 0
Spares (changes.CutEntries front) = ⊥
Spares (changes.AddEntry place entry) = ⊥
Spares _ = Unit {0}

-- a step writes none
abbrev pub SparesStep : RowStep → Type 0
SparesStep (steps.One change) = Spares change
SparesStep (steps.CutPast front held) = ⊥
SparesStep (steps.AddEntries front more) = ⊥
SparesStep _ = Unit {0}

-- making the tables that are missing makes none for the entries
abbrev pub SparesMissing : Missing → Type 0
SparesMissing missings.All = ⊥
SparesMissing _ = Unit {0}

-- a transaction of such steps writes none
abbrev pub SparesAll : Missing → List RowStep → Type 0
SparesAll missing all = SparesMissing missing × AllByRecursion SparesStep all

-- the table that is made, and the text that makes it
abbrev pub made_table : DeskTable → Table
made_table tables.Node = node_table 0
made_table tables.Entries = entry_table 0
made_table tables.Clients = client_table 0

abbrev pub making_text : DeskTable → List ℕ
making_text tables.Node = make_node
making_text tables.Entries = make_entry
making_text tables.Clients = make_client

-- What stands before tables are made, in a database that comes to have the desk's: of a file of version 1 the rows of
-- the node and of the entries, and of a new file none.
abbrev pub StandsBefore : Missing → Layout → Database → StateRows → Type 0
StandsBefore missings.Nothing d db rows = Keeps d db rows
StandsBefore missings.Clients d db rows = GrowsTo db.schema d × (map shown_node (db.trees d.node.tree) ≡ rows.own)
    × IsPermutation rows.entries (map shown_entry (db.trees d.entry.tree)) × (rows.clients ≡ [])
StandsBefore missings.All d db rows =
    Becomes db.schema d × (rows ≡ record { own = []; entries = []; clients = [] })
