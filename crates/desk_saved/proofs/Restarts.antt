-- A database is that of one saved state of a node at most.
use Rattle.std.proofs.Common.{◌≡◌, ◌⊎◌, inl, inr, take, drop, IsTrue, ◌<◌, ◌<ℤ◌, ℕ, zero, suc, ◌+◌, pos, List, [], ◌∷◌}
use Rattle.std.proofs.Common.{map, length, get_or, Ordering, Less, Equal, Greater, is_lt, false, IsPermutation}
use Rattle.std.proofs.Common.{IsSorted, sym, refl, ap, subst, ◌∙◌, arith}
use Rattle.std.specs.Ordering.{int_cmp, MatchOrdering}
use Rattle.std.proofs.lemmas.Cmp.{on_total, int_ranked}
use Rattle.std.proofs.lemmas.List.Sorted.{IsPermutation-sym, IsPermutation-trans}
use Rattle.sqlite_value.specs.Order.{Row, column, value_cmp}
use Rattle.sqlite_value.specs.declared.value.Value.TheVariants.{Int}
use Rattle.sqlite_value.proofs.OrderLemmas.{value_cmp_total, value_cmp-Int}
use Rattle.sqlite_keyed.proofs.SortLemmas.{sorted_unique}
use Rattle.sqlite_trees.specs.Tree.{Trees}
use Rattle.sqlite_trees.specs.declared.store.Store.{Ghosts}
use Rattle.sqlite_trees.specs.Objects.{catalog_tree}
use Rattle.sqlite_schema.specs.declared.schema.Schema.{Schema}
use Rattle.sqlite_catalog.specs.Listing.{IsSound}
use Rattle.sqlite_catalog.proofs.ReadLemmas.{lists_once}
use Rattle.sqlite.specs.Effect.{Database, IsDatabase}
use Rattle.sqlite.specs.State.{HasCleanDisk, Survives}
use Rattle.sqlite.specs.Held.{Held, state}
use Rattle.desk_types.specs.declared.command.Entry.{Entry}
use Rattle.desk_types.specs.declared.owner.Owner.{Owner}
use Rattle.desk_codec.specs.Ranges.{FitsEntry, FitsEntries}
use Rattle.desk_codec.specs.Spelling.{body_spelling}
use Rattle.desk_codec.proofs.Promises.{bodies_are_one}
use Rattle.desk_log.specs.SavedValue.{SavedValue, IsSaved}
use Rattle.desk_naming.specs.Contents.{trees_of}
use Rattle.desk_naming.specs.Tables.{node_table, entry_table, client_table}
use Rattle.desk_naming.specs.TableInSchema.{StandsAt}
use Rattle.desk_saved.specs.DeskTables.{Layout, LogTables, log_tables, KeepsOthers, shown_entry, shown_client}
use Rattle.desk_naming.specs.Named.{shown_node}
use Rattle.desk_saved.specs.File.{entry_row_at, rows_from, state_rows, HasFile, HasLog, HoldsFile, HasNoTable, IsState}
use Rattle.desk_saved.specs.File.{IsFileOf}
use Rattle.desk_saved.proofs.LoadStateAnswers.{same_view}
use Rattle.desk_saved.proofs.Loading.{in_order}
use Rattle.desk_saved.proofs.DeskTables.{one_tree, desk_not_none}
use Rattle.desk_saved.proofs.SavedRows.{left_alone, sound_alone}
use Rattle.desk_saved.proofs.Reading.{fit_both, fit_first}

-- trees list one schema at most
pub one_schema : (trees : Trees) (one other : Schema) → IsSound one trees → IsSound other trees → one ≡ other
one_schema trees one other p q = lists_once (trees catalog_tree) one other p.lists q.lists

-- two desks of one schema have the same trees
node_trees : (a b : Layout) → a.schema ≡ b.schema → a.node.tree ≡ b.node.tree
node_trees a b same =
    one_tree b.schema (node_table a.node.tree) (node_table b.node.tree) a.node.at b.node.at
    (subst (λ s. StandsAt s (node_table a.node.tree) a.node.at) same a.node.stands) b.node.stands refl

entry_trees : (a b : Layout) → a.schema ≡ b.schema → a.entry.tree ≡ b.entry.tree
entry_trees a b same =
    one_tree b.schema (entry_table a.entry.tree) (entry_table b.entry.tree) a.entry.at b.entry.at
    (subst (λ s. StandsAt s (entry_table a.entry.tree) a.entry.at) same a.entry.stands) b.entry.stands refl

client_trees : (a b : Layout) → a.schema ≡ b.schema → a.client.tree ≡ b.client.tree
client_trees a b same =
    one_tree b.schema (client_table a.client.tree) (client_table b.client.tree) a.client.at b.client.at
    (subst (λ s. StandsAt s (client_table a.client.tree) a.client.at) same a.client.stands) b.client.stands refl

-- the rows of a desk are those of each desk of its schema
pub same_file : (a b : Layout) (own : Owner) (s : SavedValue) (trees : Trees) → a.schema ≡ b.schema
    → HasFile a own s trees → HasFile b own s trees
same_file a b own s trees same file = (
  subst (λ t. map shown_node (trees t) ≡ (state_rows own s).own) (node_trees a b same) file.0,
  subst (λ t. IsPermutation (state_rows own s).entries (map shown_entry (trees t))) (entry_trees a b same) file.1,
  subst (λ t. IsPermutation (state_rows own s).clients (map shown_client (trees t))) (client_trees a b same) file.2,
)

-- an entry is that of its row
one_entry : (place : ℕ) (d e : Entry) → FitsEntry d → FitsEntry e → entry_row_at place d ≡ entry_row_at place e → d ≡ e
one_entry place d e p q same =
    let client : d.client ≡ e.client = cc in
    let number : d.number ≡ e.number = cc in
    let body : body_spelling d.command ≡ body_spelling e.command = cc in
    let command : d.command ≡ e.command =
    (bodies_are_one d.command e.command _ _ (record { fits = p.command; spelling = refl })
    (record { fits = q.command; spelling = refl })).1 body in
    ap (λ x. record { client = x; number = d.number; command = d.command }) client
    ∙ ap (λ x. record { client = e.client; number = x; command = d.command }) number
    ∙ ap (λ x. record { client = e.client; number = e.number; command = x }) command

-- a log is that of its rows
one_log : (front : ℕ) (a b : List Entry) → FitsEntries a → FitsEntries b → rows_from front a ≡ rows_from front b → a ≡ b
one_log front [] [] p q same = refl
one_log front [] (e ∷ b) p q same = absurd cc
one_log front (d ∷ a) [] p q same = absurd cc
one_log front (d ∷ a) (e ∷ b) p q same =
    let first : entry_row_at (front + 1) d ≡ entry_row_at (front + 1) e = cc in
    let rest : rows_from (front + 1) a ≡ rows_from (front + 1) b = cc in
    let entry = one_entry (front + 1) d e p.0 q.0 first in
    let entries = one_log (front + 1) a b p.1 q.1 rest in
    cc

-- the places of rows that follow each other
placed : (front : ℕ) (log : List Entry) (k : ℕ) (d : Row) → k < length (rows_from front log)
    → column (get_or (rows_from front log) k d) 0 ≡ Int (pos (front + k + 1))
placed front [] k d low = absurd (omega arith)
placed front (e ∷ log) zero d low = let place : front + 1 ≡ front + 0 + 1 = omega arith in
    ap (λ p. Int (pos p)) place
placed front (e ∷ log) (suc k) d low = let place : front + 1 + k + 1 ≡ front + suc k + 1 = omega arith in
    placed (front + 1) log k d (omega arith) ∙ ap (λ p. Int (pos p)) place

not_before : (a b : ℕ) → b < a → is_lt (value_cmp (Int (pos a)) (Int (pos b))) ≡ false
not_before a b h = ap is_lt (value_cmp-Int (pos a) (pos b)) ∙ go (int_cmp (pos a) (pos b)) (int_ranked (pos a)
    (pos b) _ refl)
  where
    go : (o : Ordering) → MatchOrdering o (pos a <ℤ pos b) (pos a ≡ pos b) (pos b <ℤ pos a) → is_lt o ≡ false
    go Less p = absurd (grind arith)
    go Equal p = refl
    go Greater p = refl

are_sorted : (log : List Entry) → IsSorted (λ (x y : Row). value_cmp (column x 0) (column y 0)) (rows_from 0 log)
are_sorted log k d low high =
    rw (placed 0 log (k + 1) d (omega arith), placed 0 log k d (omega arith))
    (not_before (0 + (k + 1) + 1) (0 + k + 1) (omega arith))

-- the rows of two logs in any order are the same only if they are so in order
one_order : (a b : List Entry) → IsPermutation (rows_from 0 a) (rows_from 0 b) → rows_from 0 a ≡ rows_from 0 b
one_order a b same =
    sym (sorted_unique (λ (x y : Row). value_cmp (column x 0) (column y 0))
    (on_total (λ (r : Row). column r 0) value_cmp_total)
    (rows_from 0 a) (rows_from 0 b) (in_order 0 a) same (are_sorted b))

-- the rows of the entries are those of one log at most
pub same_log : (d : LogTables) (trees : Trees) (a b : List Entry) → FitsEntries a → FitsEntries b → HasLog d trees a
    → HasLog d trees b → a ≡ b
same_log d trees a b p q one other =
    one_log 0 a b p q (one_order a b (IsPermutation-trans _ _ _ one (IsPermutation-sym _ _ other)))

-- the rows of the three tables are those of one saved state of a node at most
pub one_state : (d : Layout) (own : Owner) (s t : SavedValue) (trees : Trees) → IsState s → IsState t
    → HasFile d own s trees → HasFile d own t trees → s ≡ t
one_state d own s t trees is other file same =
    let numbers = same_view {version = 2} {id = own.id} {n = own.n} {domain = own.domain} (sym file.0 ∙ same.0) in
    let log = same_log (log_tables d) trees s.log t.log is.entries other.entries file.1 same.1 in
    ap (λ x. record { view = x; normal = s.normal; log = s.log; commit = s.commit }) numbers.0
    ∙ ap (λ x. record { view = t.view; normal = x; log = s.log; commit = s.commit }) numbers.1
    ∙ ap (λ x. record { view = t.view; normal = t.normal; log = x; commit = s.commit }) log
    ∙ ap (λ x. record { view = t.view; normal = t.normal; log = t.log; commit = x }) numbers.2

-- and so is a database
pub one_file : (own : Owner) (db : Database) (s t : SavedValue) → IsFileOf own db s → IsFileOf own db t → s ≡ t
one_file own db s t p q =
    one_state q.desk own s t db.trees p.state q.state
    (same_file p.desk q.desk own s db.trees (sym p.schema ∙ q.schema) p.rows) q.rows

-- a database whose trees list a desk's schema, with the rows of a state, is that of the state
pub file_of : (d : Layout) (own : Owner) (s : SavedValue) (db : Database) → IsDatabase db → IsSound d.schema db.trees
    → HasFile d own s db.trees → IsState s → IsFileOf own db s
file_of d own s db sound lists rows is =
    record { desk = d; schema = one_schema db.trees db.schema d.schema sound lists; state = is; rows = rows }

-- A database that shows what a stop leaves of an object that holds a state is that of the state.
pub restarts_none : {S : Type 0} (g : Ghosts S) (old : Held S) (d : Layout) (own : Owner) (last saved : SavedValue)
    → HoldsFile g d old own last
    → (IsTrue (state g old).is_open → (trees : Trees) → (state g old).may_leave trees
    → trees ≡ (state g old).committed.trees)
    → IsState last → HasCleanDisk (state g old) → (db : Database) → (state g old).may_leave db.trees
    → IsDatabase db → IsFileOf own db last ⊎ IsFileOf own db saved
restarts_none g old d own last saved holds settled is_last clean db leaves sound = inl (file_of d own last db sound
    (sound_alone g old d own last holds settled clean db.trees leaves)
    (left_alone g old d own last holds settled clean db.trees leaves) is_last)

-- A database that shows what a stop leaves of a save is that of the old state or of the new.
pub restarts : {S : Type 0} (g : Ghosts S) (old new : Held S) (d : Layout) (own : Owner) (last saved : SavedValue)
    (front : ℕ) → take front last.log ≡ take front saved.log → HoldsFile g d old own last
    → (HasCleanDisk (state g new) → HasCleanDisk (state g old))
    → (IsTrue (state g old).is_open → (trees : Trees) → (state g old).may_leave trees
    → trees ≡ (state g old).committed.trees)
    → Survives (state g old) (state g new) (λ _. FitsEntries (drop front saved.log))
    → (HasCleanDisk (state g new) → (trees : Trees) → (state g new).may_leave trees
    → (HasFile d own last trees ⊎ HasFile d own saved trees)
    × KeepsOthers d (trees_of g old) trees × IsSound d.schema trees)
    → IsState last → IsSaved saved → HasCleanDisk (state g new) → (db : Database) → (state g new).may_leave db.trees
    → IsDatabase db → IsFileOf own db last ⊎ IsFileOf own db saved
restarts g old new d own last saved front same holds clean settled commits left is_last is_saved late db leaves sound =
    elim (commits.crash late db.trees leaves) [
      | inl before ↦ restarts_none g old d own last saved holds settled is_last (clean late) db before sound
      | inr more ↦
          let log = fit_both front saved.log (subst FitsEntries same (fit_first front last.log is_last.entries)) more in
          let is : IsState saved = record { saved = is_saved; entries = log } in
          let it = left late db.trees leaves in
          elim it.0 [
            | inl rows ↦ inl (file_of d own last db sound it.2 rows is_last)
            | inr rows ↦ inr (file_of d own saved db sound it.2 rows is)
          ]
    ]

-- A database of a saved state has the three tables.
pub file_there : (own : Owner) (db : Database) (s : SavedValue) → IsFileOf own db s → ¬ HasNoTable db.schema
file_there own db s file = desk_not_none db.schema (file.desk, file.schema)
