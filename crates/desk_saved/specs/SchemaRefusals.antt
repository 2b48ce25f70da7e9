-- What the schema of a database shows of the three tables.
use Rattle.std.specs.Prelude.{◌≡◌, ◌⊎◌, Bool, Option, None, Some}
use Rattle.std.specs.List.{list_any}
use Rattle.sqlite_schema.specs.declared.schema.Table.{Table}
use Rattle.sqlite_schema.specs.declared.schema.Schema.{Schema}
use Rattle.desk_types.specs.declared.refusal.Refusal.{Refusal}
use Rattle.desk_types.specs.declared.refusal.Refusal.TheVariants as refusals
use Rattle.desk_naming.specs.Tables.{node_table, entry_table, client_table}
use Rattle.desk_naming.specs.TableInSchema.{TableIn}
use Rattle.desk_saved.specs.ForeignKeys.{NamesNone, is_desk_name}
use Rattle.desk_saved.specs.DeskTables.{Layout}
use Rattle.desk_saved.specs.File.{HasNoTable}
use Rattle.desk_saved.specs.NewTables.{HasRoomForTables}
use Rattle.desk_saved.specs.OldFile.{HasOldTables}

-- our three tables stand in the schema, and no foreign key names them
abbrev pub IsDeskSchema : Schema → Type 0
IsDeskSchema schema = (d : Layout) × (schema ≡ d.schema)

-- The three tables stand in the schema, with exactly the columns, types and keys of the texts that make them. A foreign
-- key may name them.
pub record HasTables (schema : Schema) : Type 0 where
  pub node : TableIn schema node_table
  pub entry : TableIn schema entry_table
  pub client : TableIn schema client_table

-- a foreign key of the table names one of the three
abbrev pub refers_to_desk : Table → Bool
refers_to_desk t = list_any (λ r. is_desk_name r.parent) t.references

-- The three tables are those of a desk, but for a foreign key that names one of them.
pub record IsReferredTo (schema : Schema) : Type 0 where
  pub tables : HasTables schema
  pub named : ¬ NamesNone schema

-- By what a database that is no desk's is refused: `WrongFile` where one of the tables is there, and they are neither
-- the three of a desk nor the two of version 1; `StoreFault` where they are the three but for a foreign key, or where
-- there is none and no room for them. Nothing where the three can be added.
abbrev pub IsRefusedBy : Schema → Option Refusal → Type 0
IsRefusedBy schema None = HasNoTable schema × HasRoomForTables schema
IsRefusedBy schema (Some refusal) =
    ((refusal ≡ refusals.WrongFile) × ¬ HasNoTable schema × ¬ HasTables schema × ¬ HasOldTables schema)
    ⊎ ((refusal ≡ refusals.StoreFault) × (IsReferredTo schema ⊎ (HasNoTable schema × ¬ HasRoomForTables schema)))
