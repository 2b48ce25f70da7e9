-- The texts of the statements that write: what each parses to, found by computation, and the command that it means.
use Rattle.std.proofs.Common.{◌≡◌, ◌+◌, ℕ, pos, List, [], ◌∷◌, codes, None, Option, Ok, Err, refl, true, false}
use Rattle.sqlite_schema.specs.declared.command.Command.{Command}
use Rattle.sqlite_schema.specs.declared.command.Command.TheVariants.{Delete, Insert, Update}
use Rattle.sqlite_schema.specs.declared.command.Source.TheVariants.{Values}
use Rattle.sqlite_schema.specs.declared.schema.Schema.{Schema}
use Rattle.sqlite_schema.specs.declared.schema.Column.{Column}
use Rattle.sqlite_schema.specs.declared.schema.Table.{Table}
use Rattle.sqlite_resolve.specs.declared.compiled.Compiled.{Compiled}
use Rattle.sqlite_value.specs.declared.keys.Collation.TheVariants.{Binary}
use Rattle.sqlite_value.specs.declared.value.Value.TheVariants.{Int, Null}
use Rattle.sqlite_ast.specs.declared.Expr.{Expr}
use Rattle.sqlite_ast.specs.declared.Rows.{Rows}
use Rattle.sqlite_ast.specs.declared.Rows.TheVariants as rows
use Rattle.sqlite_ast.specs.declared.Conflict.TheVariants as conflict
use Rattle.sqlite_ast.specs.declared.Statement.{Statement}
use Rattle.sqlite_ast.specs.declared.Statement.TheVariants as written
use Rattle.sqlite_sql.specs.Query.{Query}
use Rattle.sqlite_sql.specs.Term.{Term, col, lit, op2}
use Rattle.sqlite_sql.specs.declared.ops.BinaryOp.TheVariants.{Compare}
use Rattle.sqlite_sql.specs.declared.ops.CompareOp.TheVariants.{Gt, Eq}
use Rattle.sqlite_syntax.specs.declared.statement.Parsed.{Parsed}
use Rattle.sqlite_draft.specs.declared.query.Draft.{Draft}
use Rattle.sqlite_draft.specs.declared.join.Step.TheVariants.{Inner}
use Rattle.sqlite_resolve.specs.declared.state.State.{State}
use Rattle.sqlite_resolve.specs.Body.{tests}
use Rattle.sqlite_resolve.specs.Expr.{lower}
use Rattle.sqlite_resolve.specs.Lowering.{Checked, fresh, max_budget}
use Rattle.sqlite_resolve.specs.Scope.{Name, Context}
use Rattle.sqlite_resolve.specs.Compile.{first, compiled, delete, insert, insert_or_abort, new_rows, planned, meaning}
use Rattle.sqlite_resolve.specs.Compile.{timed, returning, shows, command, small, update}
use Rattle.sqlite_resolve.specs.Program.{program}
use Rattle.sqlite_resolve.specs.Write.{deleted, simple, updated, updated_in, assigned, picked, row, over}
use Rattle.sqlite.specs.Listing.{understood}
use Rattle.sqlite_tied.specs.Compute.{everything}
use Rattle.desk_naming.specs.Tables.{desk_table, entry_table, client_table, node_table, slot_is_one}
use Rattle.desk_saved.specs.Tables.{cut_entries, cut_client, add_entry, add_client, first_node, set_node, set_version}
use Rattle.desk_naming.specs.TableInSchema.{StandsAt}
use Rattle.desk_naming.proofs.StandingTables.{by_tree}
use Rattle.desk_saved.proofs.Columns.{place_is, key_is}
use Rattle.desk_naming.proofs.Common.{all_rowids}
use Rattle.desk_saved.proofs.OneTable.{Means, means, rowids_where}

abbrev parsed_as : Statement → List Name → ℕ → Parsed
parsed_as statement names end =
    record { statement = statement; names = names; formats = []; start = 0; end = end; tail = end }

abbrev compiled_as : Command → List Name → ℕ → Compiled
compiled_as command names end =
    record { command = command; returning = None; names = names; formats = []; start = 0; end = end; tail = end }

abbrev statement_in : Checked Parsed → Statement
statement_in (Ok p) = p.statement
statement_in (Err e) = written.Empty

abbrev test_by : Statement → Option Expr
test_by (written.Delete name test shown) = test
test_by (written.Update name sets test shown) = test
test_by _ = None

abbrev sets_by : Statement → List (Name × Expr)
sets_by (written.Update name sets test shown) = sets
sets_by _ = []

abbrev rows_by : Statement → Rows
rows_by (written.Insert how name columns rows clauses shown) = rows
rows_by _ = rows.Defaults

module _ (schema : Schema) (table : Table) (at : ℕ) (it : StandsAt schema table at) (sql : List ℕ) (names : List Name)
    (end : ℕ) where
  abbrev draft : Term → Draft
  draft term = simple (Inner table.tree ∷ []) (term ∷ []) (col 1 0 ∷ [])

  abbrev deletes : Term → Command
  deletes term = Delete at (record { lets = []; body = rowids_where term table.tree })

  delete_by : (test : Option Expr) (term : Term)
      → first sql ≡ Ok (parsed_as (written.Delete table.name test []) names end)
      → deleted schema at table test ≡ Ok (draft term)
      → program schema [] (draft term) ≡ Ok (record { lets = []; body = rowids_where term table.tree })
      → understood schema sql ≡ Ok (compiled_as (deletes term) names end)
  unfolding understood compiled planned meaning timed returning shows command delete
  delete_by test term parsed deleted_is program_is =
      rw parsed (rw (it.named) (rw (it.found) (rw deleted_is (rw program_is refl))))

module _ (schema : Schema) (name : List ℕ) (columns : List Column) (checks : List Term) (tree at : ℕ)
    (it : StandsAt schema (desk_table name columns checks tree) at) (sql : List ℕ) (names : List Name) (end : ℕ) where
  insert_by : (rows : Rows) (terms : List Term) (width : ℕ)
      → first sql ≡ Ok (parsed_as (written.Insert conflict.Abort name [] rows [] []) names end)
      → new_rows schema (desk_table name columns checks tree) (small names + small []) [] rows ≡ Ok (Values terms width)
      → understood schema sql ≡ Ok (compiled_as (Insert at (Values terms width)) names end)
  unfolding understood compiled planned meaning timed returning shows command insert_or_abort insert
  insert_by rows terms width parsed new_is =
      rw parsed (rw (it.named) (rw (it.found) (rw new_is refl)))

-- the query of an UPDATE of all rows, with the terms of each new row
abbrev pub updating : List Term → ℕ → Query
updating terms t = record (all_rowids t) { project = terms }

-- a state of the compiler after the assignments
abbrev left_at : ℕ → State
left_at budget = record {
  next = 2;
  steps = [];
  aggregates = [];
  budget = budget;
  written = None;
  last = record { collation = None; is_written = false };
}

module _ (schema : Schema) (t at : ℕ) (it : StandsAt schema (node_table t) at) (sql : List ℕ) (names : List Name)
    (end : ℕ) where
  abbrev over_node : Context
  over_node = over schema at (codes "node")

  module _ (sets : List (Name × Expr)) (test : Option Expr) (places : List ℕ) (given terms : List Term) (budget : ℕ)
      (assigned_is : assigned over_node (node_table t) sets (fresh 2 max_budget) ≡ Ok ((places, given), left_at budget))
      (row_is : row (node_table t) None places (col 1 0 ∷ []) given ≡ Ok terms)
      (tests_is : tests lower over_node [] test (left_at budget) ≡ Ok ([], left_at budget)) where
    updated_is : updated schema at (node_table t) sets test ≡ Ok (simple (Inner t ∷ []) [] terms)
    unfolding updated updated_in picked
    updated_is = rw assigned_is (rw row_is (rw tests_is refl))

    update_by : first sql ≡ Ok (parsed_as (written.Update (codes "node") sets test []) names end)
        → program schema [] (simple (Inner t ∷ []) [] terms) ≡ Ok (record { lets = []; body = updating terms t })
        → understood schema sql ≡ Ok (compiled_as (Update at (record { lets = []; body = updating terms t })) names end)
    unfolding understood compiled planned meaning timed returning shows command update
    update_by parsed program_is =
        rw parsed (rw (it.named) (rw (it.found) (rw updated_is (rw program_is refl))))

-- ---- the tests and the rows that are written in the texts

pub set_test : Option Expr
set_test = test_by (statement_in (first set_node))

pub set_sets : List (Name × Expr)
set_sets = sets_by (statement_in (first set_node))

pub version_test : Option Expr
version_test = test_by (statement_in (first set_version))

pub version_sets : List (Name × Expr)
version_sets = sets_by (statement_in (first set_version))

pub cut_test : Option Expr
cut_test = test_by (statement_in (first cut_entries))

pub client_test : Option Expr
client_test = test_by (statement_in (first cut_client))

pub add_rows : Rows
add_rows = rows_by (statement_in (first add_entry))

pub client_rows : Rows
client_rows = rows_by (statement_in (first add_client))

pub first_rows : Rows
first_rows = rows_by (statement_in (first first_node))

abbrev pub past : Term
past = op2 (Compare Gt Binary) (col 1 0) (col 0 0)

abbrev pub same : Term
same = op2 (Compare Eq Binary) (col 1 0) (col 0 0)

abbrev pub add_terms : List Term
add_terms = col 0 0 ∷ lit Null ∷ col 0 1 ∷ col 0 2 ∷ col 0 3 ∷ []

abbrev pub client_terms : List Term
client_terms = col 0 0 ∷ lit Null ∷ col 0 1 ∷ col 0 2 ∷ []

abbrev pub first_terms : List Term
first_terms = lit (Int (pos 1)) ∷ lit Null ∷ lit (Int (pos 2)) ∷ col 0 0 ∷ col 0 1 ∷ col 0 2 ∷ lit (Int (pos 0))
    ∷ lit (Int (pos 0)) ∷ lit (Int (pos 0)) ∷ []

abbrev pub set_terms : List Term
set_terms = col 1 0 ∷ col 1 0 ∷ lit Null ∷ col 1 2 ∷ col 1 3 ∷ col 1 4 ∷ col 1 5 ∷ col 0 0 ∷ col 0 1 ∷ col 0 2 ∷ []

abbrev pub version_terms : List Term
version_terms = col 1 0 ∷ col 1 0 ∷ lit Null ∷ lit (Int (pos 2)) ∷ col 1 3 ∷ col 1 4 ∷ col 1 5 ∷ col 1 6 ∷ col 1 7
    ∷ col 1 8 ∷ []

set_parsed : first set_node ≡ Ok (parsed_as (written.Update (codes "node") set_sets set_test [])
    (codes "?1" ∷ codes "?2" ∷ codes "?3" ∷ []) 60)
unfolding set_test set_sets everything
set_parsed = refl

version_parsed : first set_version ≡ Ok (parsed_as (written.Update (codes "node") version_sets version_test []) [] 27)
unfolding version_test version_sets everything
version_parsed = refl

cut_parsed : first cut_entries ≡ Ok (parsed_as (written.Delete (codes "entry") cut_test []) (codes "?1" ∷ []) 34)
unfolding cut_test everything
cut_parsed = refl

client_parsed : first cut_client ≡ Ok (parsed_as (written.Delete (codes "client") client_test []) (codes "?1" ∷ []) 36)
unfolding client_test everything
client_parsed = refl

add_parsed : first add_entry ≡ Ok (parsed_as (written.Insert conflict.Abort (codes "entry") [] add_rows [] [])
    (codes "?1" ∷ codes "?2" ∷ codes "?3" ∷ codes "?4" ∷ []) 41)
unfolding add_rows everything
add_parsed = refl

add_client_parsed : first add_client ≡ Ok (parsed_as (written.Insert conflict.Abort
    (codes "client") [] client_rows [] [])
    (codes "?1" ∷ codes "?2" ∷ codes "?3" ∷ []) 38)
unfolding client_rows everything
add_client_parsed = refl

first_parsed : first first_node ≡ Ok (parsed_as (written.Insert conflict.Abort (codes "node") [] first_rows [] [])
    (codes "?1" ∷ codes "?2" ∷ codes "?3" ∷ []) 51)
unfolding first_rows everything
first_parsed = refl

module _ (schema : Schema) (t at : ℕ) where
  module _ (it : StandsAt schema (entry_table t) at) where
    cut_draft : deleted schema at (entry_table t) cut_test ≡ Ok (simple (Inner t ∷ []) (past ∷ []) (col 1 0 ∷ []))
    unfolding cut_test everything
    cut_draft = rw (place_is schema t at it.found [] false true) refl

    cut_program : program schema [] (simple (Inner t ∷ []) (past ∷ []) (col 1 0 ∷ []))
        ≡ Ok (record { lets = []; body = rowids_where past t })
    unfolding everything
    cut_program = rw (it.own.small) (rw (by_tree it) refl)

    pub cut_means : Means schema cut_entries (Delete at (record { lets = []; body = rowids_where past t }))
    cut_means = means _ _ _ (delete_by schema (entry_table t) at it cut_entries _ _ cut_test past cut_parsed cut_draft
        cut_program) (refl, refl)

    add_new : new_rows schema (entry_table t) 4 [] add_rows ≡ Ok (Values add_terms 5)
    unfolding add_rows everything
    add_new = refl

    pub add_means : Means schema add_entry (Insert at (Values add_terms 5))
    add_means = means _ _ _ (insert_by schema (codes "entry") (entry_table 0).columns [] t at it add_entry _ _ add_rows
        add_terms 5 add_parsed add_new) (refl, refl)

  module _ (it : StandsAt schema (client_table t) at) where
    client_draft : deleted schema at (client_table t) client_test
        ≡ Ok (simple (Inner t ∷ []) (same ∷ []) (col 1 0 ∷ []))
    unfolding client_test everything
    client_draft = rw (key_is schema t at it.found [] false true) refl

    client_program : program schema [] (simple (Inner t ∷ []) (same ∷ []) (col 1 0 ∷ []))
        ≡ Ok (record { lets = []; body = rowids_where same t })
    unfolding everything
    client_program = rw (it.own.small) (rw (by_tree it) refl)

    pub cut_client_means : Means schema cut_client (Delete at (record { lets = []; body = rowids_where same t }))
    cut_client_means = means _ _ _ (delete_by schema (client_table t) at it cut_client _ _ client_test same
        client_parsed
        client_draft client_program) (refl, refl)

    client_new : new_rows schema (client_table t) 3 [] client_rows ≡ Ok (Values client_terms 4)
    unfolding client_rows everything
    client_new = refl

    pub add_client_means : Means schema add_client (Insert at (Values client_terms 4))
    add_client_means = means _ _ _ (insert_by schema (codes "client") (client_table 0).columns [] t at it add_client _ _
        client_rows client_terms 4 add_client_parsed client_new) (refl, refl)

  module _ (it : StandsAt schema (node_table t) at) where
    first_new : new_rows schema (node_table t) 3 [] first_rows ≡ Ok (Values first_terms 9)
    unfolding first_rows everything
    first_new = refl

    pub first_means : Means schema first_node (Insert at (Values first_terms 9))
    first_means = means _ _ _ (insert_by schema (codes "node") (node_table 0).columns (slot_is_one ∷ []) t at it
        first_node
        _ _ first_rows first_terms 9 first_parsed first_new) (refl, refl)

    set_assigned : assigned (over schema at (codes "node")) (node_table t) set_sets (fresh 2 max_budget)
        ≡ Ok ((6 ∷ 7 ∷ 8 ∷ [], col 0 0 ∷ col 0 1 ∷ col 0 2 ∷ []), left_at 99997)
    unfolding set_sets everything
    set_assigned = refl

    set_row : row (node_table t) None (6 ∷ 7 ∷ 8 ∷ []) (col 1 0 ∷ []) (col 0 0 ∷ col 0 1 ∷ col 0 2 ∷ []) ≡ Ok set_terms
    unfolding everything
    set_row = refl

    set_tests : tests lower (over schema at (codes "node")) [] set_test (left_at 99997) ≡ Ok ([], left_at 99997)
    unfolding set_test everything
    set_tests = refl

    set_program : program schema [] (simple (Inner t ∷ []) [] set_terms)
        ≡ Ok (record { lets = []; body = updating set_terms t })
    unfolding everything
    set_program = rw (it.own.small) (rw (by_tree it) refl)

    pub set_means : Means schema set_node (Update at (record { lets = []; body = updating set_terms t }))
    set_means = means _ _ _ (update_by schema t at it set_node _ _ set_sets set_test _ _ set_terms 99997
        set_assigned set_row set_tests set_parsed set_program) (refl, refl)

    version_assigned : assigned (over schema at (codes "node")) (node_table t) version_sets (fresh 2 max_budget)
        ≡ Ok ((2 ∷ [], lit (Int (pos 2)) ∷ []), left_at 99999)
    unfolding version_sets everything
    version_assigned = refl

    version_row : row (node_table t) None (2 ∷ []) (col 1 0 ∷ []) (lit (Int (pos 2)) ∷ []) ≡ Ok version_terms
    unfolding everything
    version_row = refl

    version_tests : tests lower (over schema at (codes "node")) [] version_test (left_at 99999) ≡ Ok ([], left_at 99999)
    unfolding version_test everything
    version_tests = refl

    version_program : program schema [] (simple (Inner t ∷ []) [] version_terms)
        ≡ Ok (record { lets = []; body = updating version_terms t })
    unfolding everything
    version_program = rw (it.own.small) (rw (by_tree it) refl)

    pub version_means : Means schema set_version (Update at (record { lets = []; body = updating version_terms t }))
    version_means = means _ _ _ (update_by schema t at it set_version _ _ version_sets version_test _ _ version_terms
        99999 version_assigned version_row version_tests version_parsed version_program) (refl, refl)
