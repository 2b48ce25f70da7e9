-- What the statements do that make the tables.
use Rattle.std.proofs.Common.{◌≡◌, ℕ, List, [], ◌∷◌, ◌++◌, map, false, None, Ok, IsTrue, IsPermutation, refl, sym, ap}
use Rattle.std.proofs.Common.{subst, ◌∙◌}
use Rattle.std.specs.List.{AllByRecursion}
use Rattle.std.proofs.lemmas.List.Sorted.{IsPermutation-refl}
use Rattle.sqlite_trees.specs.Tree.{Trees}
use Rattle.sqlite_schema.specs.declared.schema.Schema.{Schema}
use Rattle.sqlite_schema.specs.declared.schema.Table.{Table}
use Rattle.sqlite_schema.specs.declared.command.Command.TheVariants.{CreateTable}
use Rattle.sqlite_catalog.specs.Change.{created, next_tree, KeepsRows}
use Rattle.sqlite_catalog.proofs.AlterLemmas.{rows_fewer, rows_trans}
use Rattle.sqlite_resolve.specs.declared.compiled.Compiled.{Compiled}
use Rattle.sqlite_resolve.specs.Compile.{table_defined_by}
use Rattle.sqlite.specs.Does.{Tally, lacks_sequence}
use Rattle.sqlite.specs.Effect.{Database}
use Rattle.sqlite.specs.Listing.{understood}
use Rattle.sqlite.specs.State.{State, ExecutesInside, Writes}
use Rattle.sqlite.proofs.Callers.{runs_as, statement_of, command_of, IsPlain}
use Rattle.sqlite_keyed.proofs.ListLemmas.{all_weaker}
use Rattle.desk_saved.specs.declared.changes.DeskTable.{DeskTable}
use Rattle.desk_saved.specs.declared.changes.DeskTable.TheVariants as tables
use Rattle.desk_saved.specs.Changes.{made_table, making_text}
use Rattle.desk_naming.specs.Tables.{node_table, entry_table, client_table}
use Rattle.desk_saved.specs.Tables.{make_node, make_entry, make_client}
use Rattle.desk_saved.specs.DeskTables.{Layout, IsInside, Keeps, KeepsOthers, shown_entry, shown_client, IsOther}
use Rattle.desk_naming.specs.Named.{shown_node}
use Rattle.desk_saved.specs.NewTables.{CanTake, MakesTable, Becomes, with_node_table, with_entry_table}
use Rattle.desk_saved.proofs.Common.{went, same_value}
use Rattle.desk_saved.proofs.Creating.{node_any, entry_any, client_any, node_command, entry_command, client_command}
use Rattle.desk_saved.proofs.Creating.{node_defined, entry_defined, client_defined}

-- a CREATE TABLE whose text means so
module _ (text : List ℕ) (table : Table) (c : Compiled) (creates : c.command ≡ CreateTable) (plain : IsPlain (Ok c))
    (whole : statement_of text (Ok c) ≡ text) (defined : table_defined_by text ≡ Ok table) where
  makes : (old new : State) (count : ℕ) → understood old.now.schema text ≡ Ok c
      → lacks_sequence (created old.now.schema table) ≡ false → ExecutesInside 0 text [] old new (Ok count)
      → MakesTable old new table
  makes old new count known alone h =
      let is : command_of (understood old.now.schema text) ≡ CreateTable = ap command_of known ∙ creates in
      let w0 = runs_as text [] old new old.now.schema refl CreateTable is (subst IsPlain (sym known) plain) count
      h.0 in
      let w = subst (λ t. Writes old new None CreateTable t [] count) (ap (statement_of text) known ∙ whole) w0 in
      let all = went w.changed in
      let first = went all.1 in
      let made = first.1 in
      let same : table ≡ made.table = same_value (sym defined ∙ made.defined) in
      let schema : first.0.schema ≡ created old.now.schema table = made.is ∙ ap (created old.now.schema) (sym same) in
      let none : lacks_sequence first.0.schema ≡ false = ap lacks_sequence schema ∙ alone in
      let now : new.now ≡ first.0 = ap (λ (p : Tally × Database). p.1) (same_value all.2)
      ∙ same_value (rw none at first.2) in
      record {
        schema = ap (λ (d : Database). d.schema) now ∙ schema;
        empty = ap (λ (d : Database). d.trees (next_tree old.now.schema)) now ∙ made.empty;
        others = subst (λ trees. KeepsRows old.now.schema.tables old.now.trees trees)
            (sym (ap (λ (d : Database). d.trees) now)) made.others;
        sound = w.sound;
        shows = h.1;
      }

-- the statement that makes a table
pub makes_table : (old new : State) (table : DeskTable) (count : ℕ) → CanTake old.now.schema (made_table table)
    → ExecutesInside 0 (making_text table) [] old new (Ok count) → MakesTable old new (made_table table)
makes_table old new tables.Node count can h = makes make_node (node_table 0) node_command refl (refl, refl) refl
    node_defined old new count (node_any old.now.schema can.free) can.alone h
makes_table old new tables.Entries count can h = makes make_entry (entry_table 0) entry_command refl (refl, refl) refl
    entry_defined old new count (entry_any old.now.schema can.free) can.alone h
makes_table old new tables.Clients count can h = makes make_client (client_table 0) client_command refl
    (refl, refl) refl
    client_defined old new count (client_any old.now.schema can.free) can.alone h

last_of : {X : Type 0} (P : X → Type 0) (xs : List X) (x : X) → AllByRecursion P (xs ++ x ∷ []) → P x
last_of P [] x h = h.0
last_of P (y ∷ xs) x h = last_of P xs x h.1

-- a table that was made empty is so yet when another is made
still_empty : (a b c : State) (table other : Table) → MakesTable a b table → MakesTable b c other
    → c.now.trees (next_tree a.now.schema) ≡ []
still_empty a b c table other one two =
    let others = subst (λ s. KeepsRows s.tables b.now.trees c.now.trees) one.schema two.others in
    last_of (λ (t : Table). c.now.trees t.tree ≡ b.now.trees t.tree) a.now.schema.tables _ others ∙ one.empty

module _ (d : Layout) (a b c e : State) (becomes : Becomes a.now.schema d) (node : MakesTable a b (node_table 0))
    (entry : MakesTable b c (entry_table 0)) (client : MakesTable c e (client_table 0)) where
  at_first : b.now.schema ≡ with_node_table a.now.schema
  at_first = node.schema

  at_second : c.now.schema ≡ with_entry_table a.now.schema
  at_second = entry.schema ∙ ap (λ s. created s (entry_table 0)) at_first

  -- what the last CREATE keeps, by the schema before all
  preserved_last : KeepsRows (with_entry_table a.now.schema).tables c.now.trees e.now.trees
  preserved_last = subst (λ s. KeepsRows s.tables c.now.trees e.now.trees) at_second client.others

  preserved_second : KeepsRows (with_node_table a.now.schema).tables b.now.trees c.now.trees
  preserved_second = subst (λ s. KeepsRows s.tables b.now.trees c.now.trees) at_first entry.others

  node_empty : e.now.trees d.node.tree ≡ []
  node_empty =
      let later : KeepsRows (with_node_table a.now.schema).tables c.now.trees e.now.trees =
      rows_fewer (with_node_table a.now.schema).tables _ c.now.trees e.now.trees preserved_last in
      subst (λ t. e.now.trees t ≡ []) becomes.node_is
      (last_of (λ (t : Table). e.now.trees t.tree ≡ c.now.trees t.tree) a.now.schema.tables _ later
      ∙ still_empty a b c (node_table 0) (entry_table 0) node entry)

  entry_empty : e.now.trees d.entry.tree ≡ []
  entry_empty = subst (λ t. e.now.trees t ≡ []) becomes.entry_is
      (subst (λ s. e.now.trees (next_tree s) ≡ []) at_first
      (still_empty b c e (entry_table 0) (client_table 0) entry client))

  client_empty : e.now.trees d.client.tree ≡ []
  client_empty = subst (λ t. e.now.trees t ≡ []) becomes.client_is
      (subst (λ s. e.now.trees (next_tree s) ≡ []) at_second client.empty)

  -- all three tables are there, and empty
  pub all_made : Keeps d e.now (record { own = []; entries = []; clients = [] })
  all_made = record {
    schema = client.schema ∙ ap (λ s. created s (client_table 0)) at_second ∙ becomes.desk;
    rows = (
      ap (map shown_node) node_empty,
      subst (λ l. IsPermutation [] (map shown_entry l)) (sym entry_empty) (IsPermutation-refl []),
      subst (λ l. IsPermutation [] (map shown_client l)) (sym client_empty) (IsPermutation-refl []),
    );
  }

pub and_last : {X : Type 0} (P : X → Type 0) (xs : List X) (x : X) → AllByRecursion P xs → P x
    → AllByRecursion P (xs ++ x ∷ [])
and_last P [] x all last = (last, tt)
and_last P (y ∷ xs) x all last = (all.0, and_last P xs x all.1 last)

-- a table, where it is none of the three, keeps its rows
abbrev Stays : Layout → Trees → Trees → Table → Type 0
Stays d old new t = IsOther d t.tree → new t.tree ≡ old t.tree

-- the other tables keep their rows where the three are made
pub others_made : (d : Layout) (a b c e : State) → Becomes a.now.schema d → MakesTable a b (node_table 0)
    → MakesTable b c (entry_table 0) → MakesTable c e (client_table 0) → KeepsOthers d a.now.trees e.now.trees
others_made d a b c e becomes node entry client =
    let tables = a.now.schema.tables in
    let second = preserved_second d a b c e becomes node entry client in
    let last = preserved_last d a b c e becomes node entry client in
    let later = rows_fewer tables _ b.now.trees c.now.trees second in
    let latest = rows_fewer tables _ c.now.trees e.now.trees
    (rows_fewer (with_node_table a.now.schema).tables _ c.now.trees e.now.trees last) in
    let preserved = rows_trans tables a.now.trees c.now.trees e.now.trees
    (rows_trans tables a.now.trees b.now.trees c.now.trees node.others later) latest in
    let P = Stays d a.now.trees e.now.trees in
    let before : AllByRecursion P tables = all_weaker _ P (λ t h _. h) tables preserved in
    subst (λ (s : Schema). AllByRecursion P s.tables) becomes.desk
    (and_last P _ _ (and_last P _ _ (and_last P _ _ before (λ other. absurd (other.0 becomes.node_is)))
    (λ other. absurd (other.1.0 becomes.entry_is))) (λ other. absurd (other.1.1.0 becomes.client_is)))

pub made_inside : (a b : State) (t : Table) → MakesTable a b t → IsInside b
made_inside a b t p =
    record { is_open = p.shows.is_open; in_transaction = subst IsTrue (sym p.shows.mode) refl; sound = p.sound }
