-- A schema has the tables of version 1 exactly where its tables of two names are those, and there is none of the third.
use Rattle.std.proofs.Common.{◌≡◌, ◌≢◌, codes, None, Some, false, IsTrue, refl, sym, subst}
use Rattle.sqlite_schema.specs.declared.schema.Table.{Table}
use Rattle.sqlite_schema.specs.declared.schema.Schema.{Schema}
use Rattle.desk_naming.specs.Tables.{node_table, entry_table}
use Rattle.desk_naming.specs.TableInSchema.{HasOwnTree, StandsAt, table_of}
use Rattle.desk_saved.specs.File.{HasAll, HasNoTable, bears}
use Rattle.desk_saved.specs.OldFile.{HasOldTables}
use Rattle.desk_saved.specs.SchemaRefusals.{HasTables, IsDeskSchema}
use Rattle.desk_naming.proofs.StandingTables.{in_schema}
use Rattle.desk_saved.proofs.DeskTables.{borne, tables_all, desk_has}

-- what is compared of the two tables
abbrev pub AreOldTables : Schema → Table → Table → Type 0
AreOldTables schema node entry = (node ≡ node_table node.tree) × (entry ≡ entry_table entry.tree)
    × HasOwnTree schema node × HasOwnTree schema entry × (bears schema (codes "client") ≡ false)

module _ (schema : Schema) (old : HasOldTables schema) where
  pub old_node : StandsAt schema (node_table old.tables.node.tree) old.tables.node.at
  old_node = subst (λ s. StandsAt s (node_table old.tables.node.tree) old.tables.node.at) (sym old.schema_is)
      old.tables.node.stands

  pub old_entry : StandsAt schema (entry_table old.tables.entry.tree) old.tables.entry.at
  old_entry = subst (λ s. StandsAt s (entry_table old.tables.entry.tree) old.tables.entry.at) (sym old.schema_is)
      old.tables.entry.stands

  pub old_node_there : table_of schema (codes "node") ≢ None
  old_node_there none =
      let found : table_of schema (codes "node") ≡ Some (node_table old.tables.node.tree) =
      rw old_node.named old_node.found in
      absurd cc

  pub old_entry_there : table_of schema (codes "entry") ≢ None
  old_entry_there none =
      let found : table_of schema (codes "entry") ≡ Some (entry_table old.tables.entry.tree) =
      rw old_entry.named old_entry.found in
      absurd cc

  -- so it is not a schema without any of the tables, nor one with all
  pub old_not_none : ¬ HasNoTable schema
  old_not_none none =
      let there : IsTrue (bears schema (codes "node")) = borne _ 0 old.tables.node.at schema.tables old_node.named in
      let gone = none.0 in
      cc

  pub old_not_all : ¬ HasAll schema
  old_not_all all = let there = all.2 in let gone = old.alone in cc

  pub old_not_tables : ¬ HasTables schema
  old_not_tables tables = old_not_all (tables_all schema tables)

  pub old_not_desk : ¬ IsDeskSchema schema
  old_not_desk desk = old_not_all (desk_has schema desk)

module _ (schema : Schema) (node entry : Table) (node_found : table_of schema (codes "node") ≡ Some node)
    (entry_found : table_of schema (codes "entry") ≡ Some entry) where
  -- what is compared makes the two tables
  pub old_stand : AreOldTables schema node entry → HasOldTables schema
  old_stand tables =
      record {
        tables = record {
          schema = schema;
          node = in_schema schema node_table node node_found tables.0 tables.2;
          entry = in_schema schema entry_table entry entry_found tables.1 tables.3;
        };
        schema_is = refl;
        alone = tables.4;
      }

  -- and the two tables have it
  pub old_of : HasOldTables schema → AreOldTables schema node entry
  old_of old =
      let first = old_node schema old in
      let second = old_entry schema old in
      let node_is : node ≡ node_table old.tables.node.tree = (let p = first.named in let q = first.found in cc) in
      let entry_is : entry ≡ entry_table old.tables.entry.tree =
      (let p = second.named in let q = second.found in cc) in (
        (let e = node_is in cc),
        (let e = entry_is in cc),
        subst (HasOwnTree schema) (sym node_is) first.own,
        subst (HasOwnTree schema) (sym entry_is) second.own,
        old.alone,
      )
