-- What it says of a schema that no foreign key names the three tables.
use Rattle.std.proofs.Common.{◌≡◌, ◌≢◌, ℕ, List, [], ◌∷◌, Bool, true, false, ◌||◌, cond, Option, Some, None, IfSome}
use Rattle.std.proofs.Common.{codes, refl}
use Rattle.std.specs.Prelude.{find}
use Rattle.std.specs.List.{AllByRecursion}
use Rattle.std.specs.Option.{option_and_then, option_map}
use Rattle.sqlite_value.specs.declared.keys.Order.{Order}
use Rattle.sqlite_schema.specs.declared.schema.Schema.{Schema}
use Rattle.sqlite_schema.specs.declared.schema.Table.{Table}
use Rattle.sqlite_schema.specs.declared.schema.Reference.{Reference}
use Rattle.sqlite_schema.specs.Names.{same_name}
use Rattle.sqlite_schema.specs.Rules.{ParentKey, parent_key, key_in, key_places, declared_order}
use Rattle.sqlite_keyed.proofs.ListLemmas.{all_weaker}
use Rattle.desk_naming.specs.TableInSchema.{HasOwnTree}
use Rattle.desk_saved.specs.ForeignKeys.{IsOtherName, NamesNone, is_desk_name}
use Rattle.desk_saved.specs.DeskTables.{Layout}

-- no foreign key of any table refers to the tree's table
abbrev pub NobodyRefersTo : Schema → ℕ → Type 0
NobodyRefersTo schema tree =
    AllByRecursion (λ child. AllByRecursion (λ ref. IfSome (parent_key schema.tables ref) (λ key. key.0 ≢ tree))
    child.references) schema.tables

keyed : (tree : ℕ) (t : Table) (places : Option (List ℕ)) → t.tree ≢ tree
    → IfSome (option_and_then (key_in t) places) (λ key. key.0 ≢ tree)
keyed tree t None apart = tt
keyed tree t (Some places) apart = go (declared_order t places)
  where
    go : (order : Option Order) → IfSome {T = ParentKey} (option_map (λ o. (t.tree, places, o)) order)
        (λ key. key.0 ≢ tree)
    go None = tt
    go (Some o) = apart

-- a reference points to a table that bears its name
parents : (tree : ℕ) (ref : Reference) (tables : List Table)
    → AllByRecursion (λ t. same_name t.name ref.parent ≡ true → t.tree ≢ tree) tables
    → IfSome (parent_key tables ref) (λ key. key.0 ≢ tree)
parents tree ref [] all = tt
parents tree ref (t ∷ tables) all = go (same_name t.name ref.parent) all.0 (parents tree ref tables all.1)
  where
    points : Option Table → Type 0
    points found = IfSome (option_and_then (λ t. option_and_then (key_in t) (key_places t ref.parent_columns)) found)
        (λ key. key.0 ≢ tree)

    go : (b : Bool) → (b ≡ true → t.tree ≢ tree) → points (find (λ t. same_name t.name ref.parent) tables)
        → points (cond b (Some t) (find (λ t. same_name t.name ref.parent) tables))
    go true apart more = keyed tree t (key_places t ref.parent_columns) (apart refl)
    go false apart more = more

-- a foreign key by another name than that of the tree's only table does not refer to it
points_elsewhere : (schema : Schema) (table : Table) → HasOwnTree schema table → (ref : Reference)
    → same_name table.name ref.parent ≡ false → IfSome (parent_key schema.tables ref) (λ key. key.0 ≢ table.tree)
points_elsewhere schema table own ref other =
    parents table.tree ref schema.tables
    (all_weaker (λ (t : Table). t.tree ≡ table.tree → t.name ≡ table.name)
    (λ t. same_name t.name ref.parent ≡ true → t.tree ≢ table.tree)
    (λ t alone bears e. let named : same_name table.name ref.parent ≡ true = rw (alone e) at bears in absurd cc)
    schema.tables own.alone)

-- what SQL takes for the name of none of the three it takes for that of no one
elsewhere : (name : List ℕ) → is_desk_name name ≡ false → (same_name (codes "node") name ≡ false)
    × (same_name (codes "entry") name ≡ false) × (same_name (codes "client") name ≡ false)
elsewhere name = go (same_name (codes "node") name) (same_name (codes "entry") name) (same_name (codes "client") name)
  where
    go : (node entry client : Bool) → (node || entry || client) ≡ false
        → (node ≡ false) × (entry ≡ false) × (client ≡ false)
    go true entry client h = absurd cc
    go false true client h = absurd cc
    go false false true h = absurd cc
    go false false false h = (refl, refl, refl)

module _ (schema : Schema) (table : Table) (own : HasOwnTree schema table)
    (named : (ref : Reference) → IsOtherName ref → same_name table.name ref.parent ≡ false) where
  nobody : NamesNone schema → NobodyRefersTo schema table.tree
  nobody unnamed =
      all_weaker (λ (child : Table). AllByRecursion IsOtherName child.references) _
      (λ child others. all_weaker IsOtherName _
      (λ ref other. points_elsewhere schema table own ref (named ref other)) child.references others)
      schema.tables unnamed

pub node_free : (d : Layout) → NobodyRefersTo d.schema d.node.tree
node_free d = nobody d.schema _ d.node.stands.own (λ ref other. (elsewhere ref.parent other).0) d.unnamed

pub entry_free : (d : Layout) → NobodyRefersTo d.schema d.entry.tree
entry_free d = nobody d.schema _ d.entry.stands.own (λ ref other. (elsewhere ref.parent other).1) d.unnamed

pub client_free : (d : Layout) → NobodyRefersTo d.schema d.client.tree
client_free d = nobody d.schema _ d.client.stands.own (λ ref other. (elsewhere ref.parent other).2) d.unnamed
