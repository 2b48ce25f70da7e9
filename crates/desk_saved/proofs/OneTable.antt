-- What a DELETE by rowid, an INSERT and an UPDATE leave, whichever table they write.
use Rattle.std.proofs.Common.{◌≡◌, ◌≢◌, ◌&&◌, ℕ, pos, negsuc, List, [], ◌∷◌, ◌++◌, map, filter, flat_map, not, Bool}
use Rattle.std.proofs.Common.{true, false, cond, None, Some, Ok, length, IsPermutation, refl, sym, ap, subst, ◌∙◌}
use Rattle.std.proofs.Common.{append-nil}
use Rattle.std.specs.Prelude.{nat_le, ◌^◌, ◌/◌}
use Rattle.std.specs.List.{list_all, AllByRecursion}
use Rattle.std.proofs.lemmas.List.Sorted.{IsPermutation-map, IsPermutation-refl}
use Rattle.sqlite_value.specs.declared.value.Value.TheVariants.{Null}
use Rattle.sqlite_value.specs.Order.{Row, value_cmp}
use Rattle.sqlite_sql.specs.Term.{Term, holds}
use Rattle.sqlite_sql.specs.Query.{Query, IsAnswer, output, Output}
use Rattle.sqlite_sql.specs.Program.{overlay}
use Rattle.sqlite_trees.specs.Tree.{Trees, rowid, put_row}
use Rattle.sqlite_schema.specs.declared.schema.Schema.{Schema}
use Rattle.sqlite_schema.specs.declared.schema.Table.{Table}
use Rattle.sqlite_schema.specs.declared.schema.Column.{Column}
use Rattle.sqlite_schema.specs.declared.command.Command.{Command}
use Rattle.sqlite_schema.specs.declared.command.Command.TheVariants.{Delete, Insert, Update}
use Rattle.sqlite_schema.specs.declared.command.Source.TheVariants.{Values}
use Rattle.sqlite_resolve.specs.declared.compiled.Compiled.{Compiled}
use Rattle.sqlite_rules.specs.declared.error.Rowids.TheVariants.{Given, Chosen}
use Rattle.sqlite_rules.specs.Edit.{edit_of, edited, id_in, taken_by, left_by, is_taken, are_fresh, put_all}
use Rattle.sqlite_rules.specs.Calls.{ids_of}
use Rattle.sqlite.specs.Does.{Tally, Does}
use Rattle.sqlite.specs.Rows.{Written}
use Rattle.sqlite.specs.Effect.{Database, IsDatabase, value_rows}
use Rattle.sqlite.specs.Listing.{understood}
use Rattle.sqlite.specs.State.{State, mode_of, Executes}
use Rattle.sqlite.proofs.Callers.{runs_as, statement_of, one_step, command_of, IsPlain}
use Rattle.desk_naming.specs.TableInSchema.{StandsAt}
use Rattle.desk_saved.specs.DeskTables.{IsKeyed, AreKeyed}
use Rattle.desk_naming.specs.Tables.{desk_table}
use Rattle.desk_saved.proofs.Common.{went, same_value, put_fresh}
use Rattle.desk_naming.proofs.Common.{all_rowids}
use Rattle.desk_saved.proofs.NoWorks.{no_works}
use Rattle.desk_saved.proofs.StandingTables.{NobodyRefersTo}
use Rattle.desk_saved.proofs.RowsLeft.{taken_out}

-- the rows of one tree are these, in any order, and those of the other tables are what they were
pub record WroteTable (schema : Schema) (tree : ℕ) (old new : State) (rows : List Row) : Type 0 where
  pub schema_is : new.now.schema ≡ schema
  pub rows_are : IsPermutation rows (new.now.trees tree)
  pub others : AllByRecursion (λ (t : Table). t.tree ≢ tree → new.now.trees t.tree ≡ old.now.trees t.tree) schema.tables
  pub sound : IsDatabase new.now

-- the text compiles to the command
pub record Means (schema : Schema) (sql : List ℕ) (command : Command) : Type 0 where
  pub is : command_of (understood schema sql) ≡ command
  pub plain : IsPlain (understood schema sql)

pub means : (schema : Schema) (sql : List ℕ) (c : Compiled) → understood schema sql ≡ Ok c → IsPlain (Ok c)
    → Means schema sql c.command
means schema sql c known plain = record { is = ap command_of known; plain = subst IsPlain (sym known) plain }

not_taken : (b : Bool) → (not b && true) ≡ true → b ≡ false
not_taken true h = absurd cc
not_taken false h = refl

-- the query of a DELETE: the rowids of the rows that pass a test
abbrev pub rowids_where : Term → ℕ → Query
rowids_where test tree = record (all_rowids tree) { filter = test ∷ [] }

module _ (params : Row) (test : Term) (p : Row → Bool)
    (tested : (r : Row) → IsKeyed r → list_all (holds (params ∷ r ∷ [])) (test ∷ []) ≡ p r) where
  abbrev found : List Row → List Row
  found rows = map (λ (o : Output). o.1)
      (map (output (rowids_where test 0))
      (flat_map (λ r. cond (list_all (holds (params ∷ r ∷ [])) (test ∷ [])) ((params ∷ r ∷ []) ∷ []) []) rows))

  found_is : (rows : List Row) → AreKeyed rows → found rows ≡ map (λ r. rowid r ∷ []) (filter p rows)
  found_is [] keyed = refl
  found_is (r ∷ rows) keyed =
      go (list_all (holds (params ∷ r ∷ [])) (test ∷ [])) (p r) (tested r keyed.0) (found_is rows keyed.1)
    where
      go : (b c : Bool) → b ≡ c → found rows ≡ map (λ r. rowid r ∷ []) (filter p rows)
          → map (λ (o : Output). o.1)
          (map (output (rowids_where test 0))
          (cond b ((params ∷ r ∷ []) ∷ []) []
          ++ flat_map (λ r. cond (list_all (holds (params ∷ r ∷ [])) (test ∷ [])) ((params ∷ r ∷ []) ∷ []) []) rows))
          ≡ map (λ r. rowid r ∷ []) (cond c (r ∷ filter p rows) (filter p rows))
      go true true e more = ap (λ l. (rowid r ∷ []) ∷ l) more
      go true false e more = absurd cc
      go false true e more = absurd cc
      go false false e more = more

  ids_shown : (rows : List Row) → ids_of (map (λ r. rowid r ∷ []) rows) ≡ ids_of rows
  ids_shown [] = refl
  ids_shown (r ∷ rows) = ap (λ l. id_in (rowid r) ∷ l) (ids_shown rows)

  -- the rowids that the query names
  named_ids : (tree : ℕ) → nat_le (2 ^ 31) tree ≡ false → (db : Trees) (rows : List Row) → AreKeyed (db tree)
      → IsAnswer (rowids_where test tree) (overlay db []) params rows
      → IsPermutation (ids_of (filter p (db tree))) (ids_of rows)
  named_ids tree small db rows keyed a =
      let shown : map (λ (o : Output). o.1) a.kept ≡ map (λ r. rowid r ∷ []) (filter p (db tree)) =
      ap (λ ks. map (λ (o : Output). o.1) ks) a.distinct
      ∙ ap (λ es. map (λ (o : Output). o.1) (map (output (rowids_where test 0)) es)) (rw small at a.grouped)
      ∙ found_is (db tree) keyed in
      let same = IsPermutation-map (λ (o : Output). o.1) a.kept a.ordered a.same in
      let ids = IsPermutation-map (λ r. id_in (rowid r)) _ _ same in
      subst (λ l. IsPermutation l (ids_of rows)) (ap ids_of shown ∙ ids_shown (filter p (db tree)))
      (subst (λ l. IsPermutation (ids_of (map (λ (o : Output). o.1) a.kept)) (ids_of l)) (sym a.shown) ids)

  module _ (congr : (x y : Row) → value_cmp (rowid x) (rowid y) ≡ Rattle.std.proofs.Common.Equal → p x ≡ p y)
      (schema : Schema) (table : Table) (at : ℕ) (it : StandsAt schema table at)
      (free : NobodyRefersTo schema table.tree) where
    pub deletes : (sql : List ℕ)
        → Means schema sql (Delete at (record { lets = []; body = rowids_where test table.tree }))
        → (old new : State) (count : ℕ) → old.now.schema ≡ schema → AreKeyed (old.now.trees table.tree)
        → Executes sql params old new (Ok count)
        → WroteTable schema table.tree old new (filter (λ r. not (p r)) (old.now.trees table.tree))
    deletes sql meant old new count has keyed h =
        let db = old.now.trees in
        let command = Delete at (record { lets = []; body = rowids_where test table.tree }) in
        let w = runs_as sql params old new schema has command meant.is meant.plain count h in
        let text = statement_of sql (understood schema sql) in
        let does = subst (λ s. Does old.step_limit (mode_of old) params
        (record old.now { schema = s }) text None command
        (Ok (w.tally, new.now))) has w.changed in
        let done = went (rw it.found at does) in
        let now = ap (λ (p : Tally × Database). p.1) (same_value (went (went done.2).2).2) in
        let given = went done.1 in
        let written = went given.2 in
        let trees : done.0.trees ≡ written.0 = ap (λ (it : Written). it.trees) (same_value written.2) in
        let edit = edit_of db table (ids_of given.0) Given 0 [] in
        let none = no_works schema (mode_of old).keys table.tree (taken_by db edit) edit.news free in
        let one = one_step schema _ db written.0 edit none written.1 in
        let left = taken_out p congr (db table.tree) (ids_of given.0) keyed
        (named_ids table.tree it.own.small db given.0 keyed (given.1.answer Null)) in
        let all : new.now.trees ≡ written.0 = ap (λ (d : Database). d.trees) now ∙ trees in
        record {
          schema_is = ap (λ (d : Database). d.schema) now;
          rows_are = subst (IsPermutation _) (sym (ap (λ (t : Trees). t table.tree) all ∙ one.rows ∙ left))
              (IsPermutation-refl _);
          others = subst
              (λ (ts : Trees). AllByRecursion (λ (t : Table). t.tree ≢ table.tree
              → ts t.tree ≡ db t.tree) schema.tables)
              (sym all) one.tables;
          sound = w.sound;
        }

module _ (schema : Schema) (name : List ℕ) (tree : ℕ) (columns : List Column)
    (checks : List Term) (at : ℕ) (it : StandsAt schema (desk_table name columns checks tree) at)
    (free : NobodyRefersTo schema tree) where
  pub inserts : (sql : List ℕ) (params : Row) (terms : List Term) (width : ℕ) (row : Row)
      → Means schema sql (Insert at (Values terms width)) → (old new : State) (count : ℕ) → old.now.schema ≡ schema
      → (edit_of old.now.trees (desk_table name columns checks tree) [] Chosen 0
      (value_rows params width (length terms / width) terms)).news ≡ row ∷ []
      → Executes sql params old new (Ok count)
      → WroteTable schema tree old new (row ∷ old.now.trees tree)
  inserts sql params terms width row meant old new count has news_are h =
      let db = old.now.trees in
      let table = desk_table name columns checks tree in
      let command = Insert at (Values terms width) in
      let w = runs_as sql params old new schema has command meant.is meant.plain count h in
      let text = statement_of sql (understood schema sql) in
      let does = subst (λ s. Does old.step_limit (mode_of old) params (record old.now { schema = s }) text None command
      (Ok (w.tally, new.now))) has w.changed in
      let done = went (rw it.found at does) in
      let now = ap (λ (p : Tally × Database). p.1) (same_value (went (went done.2).2).2) in
      let given = went done.1 in
      let written = went (went given.2).2 in
      let counted = went written.2 in
      let trees : done.0.trees ≡ written.0 = ap (λ (it : Written). it.trees) (same_value counted.2)
      ∙ same_value counted.1 in
      let edit = edit_of db table [] Chosen 0 given.0 in
      let none = no_works schema (mode_of old).keys tree (taken_by db edit) edit.news free in
      let one = one_step schema _ db written.0 edit none written.1 in
      let news : edit.news ≡ row ∷ [] = ap (λ all. (edit_of db table [] Chosen 0 all).news)
      (given.1.1 ∙ ap (λ ps. value_rows ps width (length terms / width) terms) (append-nil params)) ∙ news_are in
      let rows : edited db edit ≡ put_row row (db tree) = ap (λ rs. put_all (left_by db edit) rs) news in
      let fresh : is_taken (db tree) row ≡ false =
      not_taken _ (subst (λ rs. are_fresh (left_by db edit) rs ≡ true) news one.fresh) in
      let all : new.now.trees ≡ written.0 = ap (λ (d : Database). d.trees) now ∙ trees in
      record {
        schema_is = ap (λ (d : Database). d.schema) now;
        rows_are = subst (IsPermutation _) (sym (ap (λ (t : Trees). t tree) all ∙ one.rows ∙ rows))
            (put_fresh row (db tree) fresh);
        others = subst
            (λ (ts : Trees). AllByRecursion (λ (t : Table). t.tree ≢ tree → ts t.tree ≡ db t.tree) schema.tables)
            (sym all) one.tables;
        sound = w.sound;
      }

module _ (schema : Schema) (table : Table) (at : ℕ) (it : StandsAt schema table at)
    (free : NobodyRefersTo schema table.tree) where
  pub updates : (sql : List ℕ) (params : Row) (q : Query) (picked rows : List Row)
      → Means schema sql (Update at (record { lets = []; body = q })) → (old new : State) (count : ℕ)
      → old.now.schema ≡ schema
      → ((shown : List Row) → IsAnswer q (overlay old.now.trees []) params shown → shown ≡ picked)
      → edited old.now.trees (edit_of old.now.trees table (ids_of picked) Given 1 picked) ≡ rows
      → Executes sql params old new (Ok count) → WroteTable schema table.tree old new rows
  updates sql params q picked rows meant old new count has answers edit_is h =
      let db = old.now.trees in
      let command = Update at (record { lets = []; body = q }) in
      let w = runs_as sql params old new schema has command meant.is meant.plain count h in
      let text = statement_of sql (understood schema sql) in
      let does = subst (λ s. Does old.step_limit (mode_of old) params (record old.now { schema = s }) text None command
      (Ok (w.tally, new.now))) has w.changed in
      let done = went (rw it.found at does) in
      let now = ap (λ (p : Tally × Database). p.1) (same_value (went (went done.2).2).2) in
      let got = went done.1 in
      let written = went got.2 in
      let trees : done.0.trees ≡ written.0 = ap (λ (it : Written). it.trees) (same_value written.2) in
      let edit = edit_of db table (ids_of got.0) Given 1 got.0 in
      let none = no_works schema (mode_of old).keys table.tree (taken_by db edit) edit.news free in
      let one = one_step schema _ db written.0 edit none written.1 in
      let all : new.now.trees ≡ written.0 = ap (λ (d : Database). d.trees) now ∙ trees in
      let rows_is : new.now.trees table.tree ≡ rows = ap (λ (t : Trees). t table.tree) all ∙ one.rows
      ∙ ap (λ rs. edited db (edit_of db table (ids_of rs) Given 1 rs)) (answers got.0 (got.1.answer Null)) ∙ edit_is in
      record {
        schema_is = ap (λ (d : Database). d.schema) now;
        rows_are = subst (IsPermutation rows) (sym rows_is) (IsPermutation-refl rows);
        others = subst
            (λ (ts : Trees). AllByRecursion (λ (t : Table). t.tree ≢ table.tree → ts t.tree ≡ db t.tree) schema.tables)
            (sym all) one.tables;
        sound = w.sound;
      }
