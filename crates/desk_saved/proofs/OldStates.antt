-- A file of version 1 is that of one saved state, and so is what becomes of it.
use Rattle.std.proofs.Common.{◌≡◌, map, ◌∷◌, [], IsPermutation, refl, sym, ap, subst, ◌∙◌}
use Rattle.sqlite_trees.specs.Tree.{Trees}
use Rattle.sqlite.specs.Effect.{Database, IsDatabase}
use Rattle.desk_types.specs.declared.owner.Owner.{Owner}
use Rattle.desk_log.specs.SavedValue.{SavedValue}
use Rattle.desk_naming.specs.Tables.{node_table, entry_table}
use Rattle.desk_saved.specs.DeskTables.{Layout, shown_entry, versioned_row}
use Rattle.desk_naming.specs.Named.{shown_node}
use Rattle.desk_saved.specs.File.{HasOwn, HasLog, IsState, IsFileOf, rows_from}
use Rattle.desk_saved.specs.OldFile.{HasOldTables, IsGrown, IsOldFileOf}
use Rattle.desk_saved.proofs.DeskTables.{one_tree}
use Rattle.desk_saved.proofs.LoadStateAnswers.{same_view}
use Rattle.desk_saved.proofs.OldTables.{old_node, old_entry}
use Rattle.desk_saved.proofs.Restarts.{file_of, same_log}

-- two saved states are one where their parts are
one_saved : (s t : SavedValue) → (s.view ≡ t.view) × (s.normal ≡ t.normal) × (s.commit ≡ t.commit) → s.log ≡ t.log
    → s ≡ t
one_saved s t numbers log =
    ap (λ x. record { view = x; normal = s.normal; log = s.log; commit = s.commit }) numbers.0
    ∙ ap (λ x. record { view = t.view; normal = x; log = s.log; commit = s.commit }) numbers.1
    ∙ ap (λ x. record { view = t.view; normal = t.normal; log = x; commit = s.commit }) log
    ∙ ap (λ x. record { view = t.view; normal = t.normal; log = t.log; commit = x }) numbers.2

module _ (db : Database) (one other : HasOldTables db.schema) where
  same_node : other.tables.node.tree ≡ one.tables.node.tree
  same_node = one_tree db.schema (node_table other.tables.node.tree) (node_table one.tables.node.tree)
      other.tables.node.at one.tables.node.at (old_node db.schema other) (old_node db.schema one) refl

  same_entry : other.tables.entry.tree ≡ one.tables.entry.tree
  same_entry = one_tree db.schema (entry_table other.tables.entry.tree) (entry_table one.tables.entry.tree)
      other.tables.entry.at one.tables.entry.at (old_entry db.schema other) (old_entry db.schema one) refl

-- What a stop leaves of one that has become a file of version 2 is that of the state.
pub grown_file : (own : Owner) (d : Layout) (s : SavedValue) (old : Trees) (db : Database) → IsState s → IsDatabase db
    → IsGrown d own s old db.trees → IsFileOf own db s
grown_file own d s old db is sound grown = file_of d own s db sound grown.0.2 grown.0.0 is

-- a file of version 1 is that of one state
pub one_old_file : (own : Owner) (db : Database) (s t : SavedValue) → IsOldFileOf own db s → IsOldFileOf own db t
    → s ≡ t
one_old_file own db s t p q =
    let d = p.tables.tables in
    let own_t : HasOwn d db.trees 1 own.id own.n own.domain t.view t.normal t.commit =
    subst (λ n. map shown_node (db.trees n)
    ≡ versioned_row 1 own.id own.n own.domain t.view t.normal t.commit ∷ []) (same_node db p.tables q.tables)
    q.rows.0 in
    let log_t : HasLog d db.trees t.log =
    subst (λ n. IsPermutation (rows_from 0 t.log) (map shown_entry (db.trees n))) (same_entry db p.tables q.tables)
    q.rows.1 in
    one_saved s t (same_view {version = 1} {id = own.id} {n = own.n} {domain = own.domain} (sym p.rows.0 ∙ own_t))
    (same_log d db.trees s.log t.log p.state.state.entries q.state.state.entries p.rows.1 log_t)
