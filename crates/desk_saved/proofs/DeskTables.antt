-- A schema is that of a desk exactly where its tables of the three names are those of one.
use Rattle.std.proofs.Common.{◌≡◌, ◌≢◌, ℕ, ◌+◌, List, [], ◌∷◌, Bool, true, false, ◌||◌, cond, None, Some, codes, refl}
use Rattle.std.proofs.Common.{sym, ap, subst, ◌∙◌}
use Rattle.std.specs.Prelude.{slice_get, IsTrue}
use Rattle.std.specs.List.{list_any, position_from}
use Rattle.sqlite_keyed.proofs.ListLemmas.{all-slice_get}
use Rattle.sqlite_schema.specs.declared.schema.Table.{Table}
use Rattle.sqlite_schema.specs.declared.schema.Schema.{Schema}
use Rattle.sqlite_schema.specs.Names.{table_named}
use Rattle.desk_naming.specs.Tables.{node_table, entry_table, client_table}
use Rattle.desk_naming.specs.TableInSchema.{HasOwnTree, StandsAt, TableIn, table_of}
use Rattle.desk_saved.specs.ForeignKeys.{NamesNone}
use Rattle.desk_saved.specs.DeskTables.{Layout}
use Rattle.desk_saved.specs.File.{HasAll, HasNoTable}
use Rattle.desk_saved.specs.SchemaRefusals.{HasTables, IsDeskSchema}
use Rattle.desk_naming.proofs.StandingTables.{in_schema}

-- one table stands where a name finds it
pub one_tree : (schema : Schema) (one other : Table) (at at' : ℕ) → StandsAt schema one at → StandsAt schema other at'
    → one.name ≡ other.name → one.tree ≡ other.tree
one_tree schema one other at at' p q name =
    let there : Some at ≡ Some at' = sym p.named ∙ ap (table_named schema) name ∙ q.named in
    let place : at ≡ at' = cc in
    let both : Some one ≡ Some other = sym p.found ∙ ap (slice_get schema.tables) place ∙ q.found in
    let same : one ≡ other = cc in
    ap (λ (t : Table). t.tree) same

-- two tables of other names that have their trees to themselves have not the same
pub two_trees : (schema : Schema) (at : ℕ) (one other : Table) → slice_get schema.tables at ≡ Some one
    → HasOwnTree schema other → one.name ≢ other.name → one.tree ≢ other.tree
two_trees schema at one other found own apart same =
    apart (all-slice_get (λ (t : Table). t.tree ≡ other.tree → t.name ≡ other.name) schema.tables at one found own.alone
    same)

pub node_entry : codes "node" ≢ codes "entry"
node_entry e = cc

node_client : codes "node" ≢ codes "client"
node_client e = cc

entry_client : codes "entry" ≢ codes "client"
entry_client e = cc

-- and one that stands there is the one found, with what is compared
pub one_found : (schema : Schema) (kind : ℕ → Table) (place : TableIn schema kind) (t : Table)
    → table_of schema (kind place.tree).name ≡ Some t → kind place.tree ≡ t
one_found schema kind place t found =
    let there : table_of schema (kind place.tree).name ≡ Some (kind place.tree) =
    rw place.stands.named place.stands.found in
    let same : Some (kind place.tree) ≡ Some t = sym there ∙ found in
    cc

-- what is compared of the three tables
abbrev pub AreTables : Schema → Table → Table → Table → Type 0
AreTables schema node entry client = (node ≡ node_table node.tree) × (entry ≡ entry_table entry.tree)
    × (client ≡ client_table client.tree) × HasOwnTree schema node × HasOwnTree schema entry × HasOwnTree schema client

module _ (schema : Schema) (node entry client : Table) (node_found : table_of schema (codes "node") ≡ Some node)
    (entry_found : table_of schema (codes "entry") ≡ Some entry)
    (client_found : table_of schema (codes "client") ≡ Some client) where
  -- what is compared makes the three tables
  pub tables_stand : AreTables schema node entry client → HasTables schema
  tables_stand tables =
      record {
        node = in_schema schema node_table node node_found tables.0 tables.3;
        entry = in_schema schema entry_table entry entry_found tables.1 tables.4;
        client = in_schema schema client_table client client_found tables.2 tables.5;
      }

  -- and the three tables have it
  pub tables_of : HasTables schema → AreTables schema node entry client
  tables_of d =
      let node_is = one_found schema node_table d.node node node_found in
      let entry_is = one_found schema entry_table d.entry entry entry_found in
      let client_is = one_found schema client_table d.client client client_found in (
        (let e = node_is in cc),
        (let e = entry_is in cc),
        (let e = client_is in cc),
        subst (HasOwnTree schema) node_is d.node.stands.own,
        subst (HasOwnTree schema) entry_is d.entry.stands.own,
        subst (HasOwnTree schema) client_is d.client.stands.own,
      )

pub node_there : (schema : Schema) → HasTables schema → table_of schema (codes "node") ≢ None
node_there schema d none =
    let found : table_of schema (codes "node") ≡ Some (node_table d.node.tree) =
    rw d.node.stands.named d.node.stands.found in
    absurd cc

pub entry_there : (schema : Schema) → HasTables schema → table_of schema (codes "entry") ≢ None
entry_there schema d none =
    let found : table_of schema (codes "entry") ≡ Some (entry_table d.entry.tree) =
    rw d.entry.stands.named d.entry.stands.found in
    absurd cc

pub client_there : (schema : Schema) → HasTables schema → table_of schema (codes "client") ≢ None
client_there schema d none =
    let found : table_of schema (codes "client") ≡ Some (client_table d.client.tree) =
    rw d.client.stands.named d.client.stands.found in
    absurd cc

-- the three tables make a desk where no foreign key names them
pub desk_of : (schema : Schema) → HasTables schema → NamesNone schema → IsDeskSchema schema
desk_of schema t unnamed =
    let d : Layout = record {
      schema = schema;
      node = t.node;
      entry = t.entry;
      client = t.client;
      apart = (
        two_trees schema t.node.at _ _ t.node.stands.found t.entry.stands.own node_entry,
        two_trees schema t.node.at _ _ t.node.stands.found t.client.stands.own node_client,
        two_trees schema t.entry.at _ _ t.entry.stands.found t.client.stands.own entry_client,
      );
      unnamed = unnamed;
    } in (d, refl)

-- a desk has the three tables
pub desk_tables : (schema : Schema) → IsDeskSchema schema → HasTables schema
desk_tables schema (d, is) =
    subst HasTables (sym is) (record { node = d.node; entry = d.entry; client = d.client })

pub unnamed_of : (schema : Schema) → IsDeskSchema schema → NamesNone schema
unnamed_of schema (d, is) = subst NamesNone (sym is) d.unnamed

-- a name that finds a table is borne
pub borne : {X : Type 0} (p : X → Bool) (from at : ℕ) (xs : List X) → position_from p from xs ≡ Some at
    → IsTrue (list_any p xs)
borne p from at [] h = absurd cc
borne {X} p from at (x ∷ xs) h = go (p x) h (borne p (from + 1) at xs)
  where
    go : (b : Bool) → cond b (Some from) (position_from p (from + 1) xs) ≡ Some at
        → (position_from p (from + 1) xs ≡ Some at → IsTrue (list_any p xs)) → IsTrue (b || list_any p xs)
    go true h more = refl
    go false h more = more h

-- a schema with the three tables has all
pub tables_all : (schema : Schema) → HasTables schema → HasAll schema
tables_all schema t = (
  borne _ 0 t.node.at schema.tables t.node.stands.named,
  borne _ 0 t.entry.at schema.tables t.entry.stands.named,
  borne _ 0 t.client.at schema.tables t.client.stands.named,
)

pub tables_not_none : (schema : Schema) → HasTables schema → ¬ HasNoTable schema
tables_not_none schema t none = let there = (tables_all schema t).0 in let gone = none.0 in cc

pub desk_not_none : (schema : Schema) → IsDeskSchema schema → ¬ HasNoTable schema
desk_not_none schema desk = tables_not_none schema (desk_tables schema desk)

-- the schema of a desk has the three tables
pub desk_has : (schema : Schema) → IsDeskSchema schema → HasAll schema
desk_has schema desk = tables_all schema (desk_tables schema desk)
