-- What making the table of the clients leaves of a file of version 1.
use Rattle.std.proofs.Common.{◌≡◌, ◌≢◌, ℕ, zero, suc, List, [], ◌∷◌, ◌++◌, codes, Some, refl, sym, ap, subst}
use Rattle.std.specs.Prelude.{slice_get}
use Rattle.std.specs.List.{AllByRecursion}
use Rattle.sqlite_trees.specs.Tree.{Trees}
use Rattle.sqlite_keyed.proofs.ListLemmas.{all_weaker, all-slice_get}
use Rattle.sqlite_schema.specs.declared.schema.Schema.{Schema}
use Rattle.sqlite_schema.specs.declared.schema.Table.{Table}
use Rattle.sqlite_catalog.specs.Change.{created, next_tree}
use Rattle.sqlite.specs.State.{State}
use Rattle.desk_naming.specs.Tables.{node_table, entry_table, client_table}
use Rattle.desk_naming.specs.TableInSchema.{StandsAt}
use Rattle.desk_saved.specs.DeskTables.{Layout, KeepsOthers, KeepsEntryRows, IsOther}
use Rattle.desk_saved.specs.NewTables.{MakesTable}
use Rattle.desk_saved.specs.OldFile.{GrowsTo, HasOldTables}
use Rattle.desk_saved.proofs.DeskTables.{one_tree}
use Rattle.desk_saved.proofs.Making.{and_last}
use Rattle.desk_saved.proofs.Room.{stands_still}

-- an element other than the last stands before it
got_before : {X : Type 0} (xs : List X) (x y : X) (at : ℕ) → slice_get (xs ++ x ∷ []) at ≡ Some y → x ≢ y
    → slice_get xs at ≡ Some y
got_before [] x y zero found other = absurd (other (let same : x ≡ y = cc in same))
got_before [] x y (suc at) found other = absurd cc
got_before (z ∷ xs) x y zero found other = found
got_before (z ∷ xs) x y (suc at) found other = got_before xs x y at found other

not_node : (tree other : ℕ) → (record (client_table 0) { tree = tree }) ≢ node_table other
not_node tree other same = let name : codes "client" ≡ codes "node" = ap (λ (t : Table). t.name) same in cc

not_entry : (tree other : ℕ) → (record (client_table 0) { tree = tree }) ≢ entry_table other
not_entry tree other same = let name : codes "client" ≡ codes "entry" = ap (λ (t : Table). t.name) same in cc

-- the tables of the node and of the entries stood in the schema before
module _ (schema : Schema) (d : Layout) (grows : GrowsTo schema d) where
  found_in : (at : ℕ) (t : Table) → slice_get d.schema.tables at ≡ Some t
      → slice_get (created schema (client_table 0)).tables at ≡ Some t
  found_in at t found = subst (λ (s : Schema). slice_get s.tables at ≡ Some t) (sym grows.desk) found

  node_before : slice_get schema.tables d.node.at ≡ Some (node_table d.node.tree)
  node_before = got_before schema.tables _ (node_table d.node.tree) d.node.at
      (found_in d.node.at (node_table d.node.tree) d.node.stands.found) (not_node (next_tree schema) d.node.tree)

  entry_before : slice_get schema.tables d.entry.at ≡ Some (entry_table d.entry.tree)
  entry_before = got_before schema.tables _ (entry_table d.entry.tree) d.entry.at
      (found_in d.entry.at (entry_table d.entry.tree) d.entry.stands.found) (not_entry (next_tree schema) d.entry.tree)

-- they stand there still, in their trees
module _ (schema : Schema) (old : HasOldTables schema) (d : Layout) (grows : GrowsTo schema d) where
  still_there : (t : Table) (at : ℕ) → StandsAt old.tables.schema t at → StandsAt d.schema t at
  still_there t at stands = subst (λ s. StandsAt s t at) grows.desk
      (stands_still schema t (client_table 0) at (subst (λ s. StandsAt s t at) (sym old.schema_is) stands))

  pub same_node : old.tables.node.tree ≡ d.node.tree
  same_node = one_tree d.schema (node_table old.tables.node.tree) (node_table d.node.tree) old.tables.node.at d.node.at
      (still_there _ old.tables.node.at old.tables.node.stands) d.node.stands refl

  pub same_entry : old.tables.entry.tree ≡ d.entry.tree
  same_entry = one_tree d.schema (entry_table old.tables.entry.tree) (entry_table d.entry.tree) old.tables.entry.at
      d.entry.at (still_there _ old.tables.entry.at old.tables.entry.stands) d.entry.stands refl

-- a table, where it is none of the three, keeps its rows
abbrev Stays : Layout → Trees → Trees → Table → Type 0
Stays d old new t = IsOther d t.tree → new t.tree ≡ old t.tree

module _ (d : Layout) (a b : State) (grows : GrowsTo a.now.schema d) (client : MakesTable a b (client_table 0)) where
  pub node_preserved : b.now.trees d.node.tree ≡ a.now.trees d.node.tree
  node_preserved = all-slice_get (λ (t : Table). b.now.trees t.tree ≡ a.now.trees t.tree) a.now.schema.tables d.node.at
      (node_table d.node.tree) (node_before a.now.schema d grows) client.others

  pub entry_preserved : KeepsEntryRows d a b
  entry_preserved = all-slice_get (λ (t : Table). b.now.trees t.tree ≡ a.now.trees t.tree) a.now.schema.tables
      d.entry.at
      (entry_table d.entry.tree) (entry_before a.now.schema d grows) client.others

  pub client_empty : b.now.trees d.client.tree ≡ []
  client_empty = subst (λ t. b.now.trees t ≡ []) grows.client_is client.empty

  pub others_preserved : KeepsOthers d a.now.trees b.now.trees
  others_preserved =
      let P = Stays d a.now.trees b.now.trees in
      let before : AllByRecursion P a.now.schema.tables =
      all_weaker (λ (t : Table). b.now.trees t.tree ≡ a.now.trees t.tree) P (λ t h _. h) a.now.schema.tables
      client.others in
      subst (λ (s : Schema). AllByRecursion P s.tables) grows.desk
      (and_last P _ _ before (λ other. absurd (other.1.1.0 grows.client_is)))
