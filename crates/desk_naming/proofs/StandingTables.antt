-- What it says of a schema that a table stands in it.
use Rattle.std.proofs.Common.{◌≡◌, ℕ, zero, suc, ◌+◌, List, [], ◌∷◌, Bool, true, false, cond, Option, Some, None, refl}
use Rattle.std.proofs.Common.{ap, ◌∙◌, arith, subst}
use Rattle.std.specs.Prelude.{slice_get, find, ◌==◌}
use Rattle.std.specs.List.{AllByRecursion, position_from}
use Rattle.std.specs.Option.{option_and_then}
use Rattle.sqlite_schema.specs.declared.schema.Schema.{Schema}
use Rattle.sqlite_schema.specs.declared.schema.Table.{Table}
use Rattle.sqlite_schema.specs.Names.{same_name, table_named}
use Rattle.sqlite_catalog.proofs.StepLemmas.{same_itself}
use Rattle.desk_naming.specs.TableInSchema.{HasOwnTree, StandsAt, TableIn, table_of}

module _ (table : Table) where
  abbrev bears_name : Table → Bool
  bears_name t = same_name t.name table.name

  abbrev has_tree : Table → Bool
  has_tree t = t.tree == table.tree

  -- the first table of a tree that one name has is the first of the name
  first_of : (tables : List Table) (from at : ℕ) → position_from bears_name from tables ≡ Some (from + at)
      → slice_get tables at ≡ Some table → AllByRecursion (λ t. t.tree ≡ table.tree → t.name ≡ table.name) tables
      → find has_tree tables ≡ Some table
  first_of [] from at named found alone = absurd cc
  first_of (t ∷ tables) from zero named found alone =
      let is : t ≡ table = cc in
      let same : has_tree t ≡ true = let e : t.tree ≡ table.tree = ap (λ (t : Table). t.tree) is in grind arith in
      rw same found
  first_of (t ∷ tables) from (suc at) named found alone =
      go (has_tree t) refl (bears_name t) refl named (λ later. first_of tables (from + 1) at later found alone.1)
    where
      go : (b : Bool) → has_tree t ≡ b → (c : Bool) → bears_name t ≡ c
          → cond c (Some from) (position_from bears_name (from + 1) tables) ≡ Some (from + suc at)
          → (position_from bears_name (from + 1) tables ≡ Some (from + 1 + at) → find has_tree tables ≡ Some table)
          → cond b (Some t) (find has_tree tables) ≡ Some table
      go b tree true name at_first more = absurd (let e : from ≡ from + suc at = cc in omega (arith, e))
      go true tree false name later more =
          let e : t.tree ≡ table.tree = grind arith in
          let same : bears_name t ≡ true = rw (alone.0 e) (same_itself table.name) in
          absurd cc
      go false tree false name later more =
          more (let e : from + suc at ≡ from + 1 + at = omega arith in rw e at later)

-- the table that stands is the one of its tree
pub by_tree : {schema : Schema} {table : Table} {at : ℕ} → StandsAt schema table at
    → find (λ t. t.tree == table.tree) schema.tables ≡ Some table
by_tree {schema} {table} {at} it =
    let at_first : at ≡ 0 + at = omega arith in
    first_of table schema.tables 0 at (it.named ∙ ap Some at_first) it.found it.own.alone

-- the place at which the table stands that a name finds
pub placed : (schema : Schema) (name : List ℕ) (t : Table) → table_of schema name ≡ Some t
    → (at : ℕ) × (table_named schema name ≡ Some at) × (slice_get schema.tables at ≡ Some t)
placed schema name t found = go (table_named schema name) refl found
  where
    go : (o : Option ℕ) → table_named schema name ≡ o → option_and_then (slice_get schema.tables) o ≡ Some t
        → (at : ℕ) × (table_named schema name ≡ Some at) × (slice_get schema.tables at ≡ Some t)
    go None named h = absurd cc
    go (Some at) named h = (at, named, h)

-- what is compared of one of them says where it stands
pub in_schema : (schema : Schema) (kind : ℕ → Table) (t : Table) → table_of schema (kind t.tree).name ≡ Some t
    → t ≡ kind t.tree → HasOwnTree schema t → TableIn schema kind
in_schema schema kind t found same own =
    let there = placed schema (kind t.tree).name t found in
    record {
      tree = t.tree;
      at = there.0;
      stands = record {
        named = there.1;
        found = there.2 ∙ ap Some same;
        own = subst (HasOwnTree schema) same own;
      };
    }
