-- A database to which the three tables can be added has a desk once they are made.
use Rattle.std.proofs.Common.{◌≡◌, ◌<◌, ◌≤◌, ℕ, zero, suc, ◌+◌, max, List, [], ◌∷◌, ◌++◌, length, codes, cond, not}
use Rattle.std.proofs.Common.{Bool, true, false, ◌||◌, ◌&&◌, Option, Some, None, refl, ap, ◌∙◌, arith, append-nil}
use Rattle.std.specs.Prelude.{slice_get, fold, nat_le, is_some}
use Rattle.std.specs.List.{AllByRecursion, list_any, position_from}
use Rattle.std.specs.Option.{option_and_then}
use Rattle.std.proofs.Math.Nat.{le-max_left, le-max_right}
use Rattle.sqlite_schema.specs.declared.schema.Schema.{Schema}
use Rattle.sqlite_schema.specs.declared.schema.Table.{Table}
use Rattle.sqlite_schema.specs.declared.schema.Index.{Index}
use Rattle.sqlite_schema.specs.Names.{same_name, table_named}
use Rattle.sqlite_keyed.proofs.ListLemmas.{all_weaker, all-slice_get}
use Rattle.sqlite_catalog.specs.Change.{created, next_tree, past_views}
use Rattle.sqlite_rules.proofs.ActionLemmas.{got_last}
use Rattle.sqlite.specs.Does.{lacks_sequence}
use Rattle.sqlite.specs.Rows.{sequence}
use Rattle.desk_naming.specs.declared.limits.TheConstants.{TREES}
use Rattle.desk_naming.specs.Tables.{node_table, entry_table, client_table}
use Rattle.desk_naming.specs.TableInSchema.{StandsAt}
use Rattle.desk_saved.specs.ForeignKeys.{IsOtherName, NamesNone}
use Rattle.desk_saved.specs.DeskTables.{Layout}
use Rattle.desk_saved.specs.NewTables.{IsFree, Becomes, HasRoomForTables}

-- the test passes at the last element alone
placed_last : {X : Type 0} (p : X → Bool) (from : ℕ) (xs : List X) (x : X) → position_from p from xs ≡ None
    → p x ≡ true → position_from p from (xs ++ x ∷ []) ≡ Some (from + length xs)
placed_last p from [] x none passes = let e : from ≡ from + 0 = omega arith in rw passes (ap Some e)
placed_last {X} p from (y ∷ ys) x none passes = go (p y) none (λ rest. placed_last p (from + 1) ys x rest passes)
  where
    go : (b : Bool) → cond b (Some from) (position_from p (from + 1) ys) ≡ None
        → (position_from p (from + 1) ys ≡ None
        → position_from p (from + 1) (ys ++ x ∷ []) ≡ Some (from + 1 + length ys))
        → cond b (Some from) (position_from p (from + 1) (ys ++ x ∷ [])) ≡ Some (from + suc (length ys))
    go true h more = absurd cc
    go false h more = more h ∙ ap Some (let e : from + 1 + length ys ≡ from + suc (length ys) = omega arith in e)

-- no element passes, the last among them
placed_nowhere : {X : Type 0} (p : X → Bool) (from : ℕ) (xs : List X) (x : X) → position_from p from xs ≡ None
    → p x ≡ false → position_from p from (xs ++ x ∷ []) ≡ None
placed_nowhere p from [] x none fails = rw fails refl
placed_nowhere p from (y ∷ ys) x none fails = go (p y) none (λ rest. placed_nowhere p (from + 1) ys x rest fails)
  where
    go : (b : Bool) → cond b (Some from) (position_from p (from + 1) ys) ≡ None
        → (position_from p (from + 1) ys ≡ None → position_from p (from + 1) (ys ++ x ∷ []) ≡ None)
        → cond b (Some from) (position_from p (from + 1) (ys ++ x ∷ [])) ≡ None
    go true h more = absurd cc
    go false h more = more h

placed_still : {X : Type 0} (p : X → Bool) (from at : ℕ) (xs ys : List X) → position_from p from xs ≡ Some at
    → position_from p from (xs ++ ys) ≡ Some at
placed_still p from at [] ys found = absurd cc
placed_still p from at (x ∷ xs) ys found = go (p x) found (placed_still p (from + 1) at xs ys)
  where
    go : (b : Bool) → cond b (Some from) (position_from p (from + 1) xs) ≡ Some at
        → (position_from p (from + 1) xs ≡ Some at → position_from p (from + 1) (xs ++ ys) ≡ Some at)
        → cond b (Some from) (position_from p (from + 1) (xs ++ ys)) ≡ Some at
    go true h more = h
    go false h more = more h

got_still : {X : Type 0} (xs ys : List X) (at : ℕ) (x : X) → slice_get xs at ≡ Some x
    → slice_get (xs ++ ys) at ≡ Some x
got_still [] ys at x found = absurd cc
got_still (y ∷ xs) ys zero x found = found
got_still (y ∷ xs) ys (suc at) x found = got_still xs ys at x found

-- a greatest number is no less than where it begins
begins_below : {X : Type 0} (f : X → ℕ) (xs : List X) (m n : ℕ) → m ≤ n → m ≤ fold (λ k x. max k (f x + 1)) n xs
begins_below f [] m n l = l
begins_below f (x ∷ xs) m n l =
    let up : n ≤ max n (f x + 1) = le-max_left n (f x + 1) in
    begins_below f xs m (max n (f x + 1)) (omega (arith, l, up))

each_below : {X : Type 0} (f : X → ℕ) (xs : List X) (n : ℕ)
    → AllByRecursion (λ x. f x < fold (λ k x. max k (f x + 1)) n xs) xs
each_below f [] n = tt
each_below f (x ∷ xs) n =
    let up : f x + 1 ≤ max n (f x + 1) = le-max_right n (f x + 1) in
    let here = begins_below f xs (f x + 1) (max n (f x + 1)) up in
    let first : f x < fold (λ k x. max k (f x + 1)) (max n (f x + 1)) xs = omega (arith, here) in
    (first, each_below f xs (max n (f x + 1)))

-- each table's tree is below the next one
pub trees_below : (schema : Schema) → AllByRecursion (λ t. t.tree < next_tree schema) schema.tables
trees_below schema =
    let top = fold (λ n t. max n (t.tree + 1)) (past_views schema) schema.tables in
    let up : top ≤ next_tree schema = begins_below (λ i. i.tree) schema.indexes top top (omega arith) in
    all_weaker (λ (t : Table). t.tree < top) (λ t. t.tree < next_tree schema)
    (λ t l. let low : t.tree < next_tree schema = omega (arith, l, up) in low) schema.tables
    (each_below (λ (t : Table). t.tree) schema.tables (past_views schema))

-- the next tree is above the views, and each index's tree
past_below : (schema : Schema) → past_views schema ≤ next_tree schema
past_below schema =
    let tables = fold (λ n t. max n (t.tree + 1)) (past_views schema) schema.tables in
    let up : past_views schema ≤ tables = begins_below (λ (t : Table). t.tree) schema.tables _ _ (omega arith) in
    let more : tables ≤ next_tree schema = begins_below (λ (i : Index). i.tree) schema.indexes _ _ (omega arith) in
    omega (arith, up, more)

-- a greatest number is within a bound of all
within : {X : Type 0} (f : X → ℕ) (xs : List X) (n m : ℕ) → n ≤ m → AllByRecursion (λ x. f x < m) xs
    → fold (λ k x. max k (f x + 1)) n xs ≤ m
within f [] n m l all = l
within f (x ∷ xs) n m l all =
    let here = all.0 in
    within f xs (max n (f x + 1)) m (let both : max n (f x + 1) ≤ m = omega (arith, l, here) in both) all.1

-- what is so of each table is so with one more
pub with_one : {X : Type 0} (P : X → Type 0) (xs : List X) (x : X) → AllByRecursion P xs → P x
    → AllByRecursion P (xs ++ x ∷ [])
with_one P [] x all last = (last, tt)
with_one P (y ∷ xs) x all last = (all.0, with_one P xs x all.1 last)

last_of_all : {X : Type 0} (P : X → Type 0) (xs : List X) (x : X) → AllByRecursion P (xs ++ x ∷ []) → P x
last_of_all P [] x h = h.0
last_of_all P (y ∷ xs) x h = last_of_all P xs x h.1

-- the next tree but one
next_but_one : (schema : Schema) (table : Table) → table.uniques ≡ []
    → next_tree (created schema table) ≤ next_tree schema + 1
next_but_one schema table plain =
    let top : ℕ = next_tree schema + 1 in
    let wider : (n : ℕ) → n < next_tree schema → n < top = λ n l. omega (arith, l) in
    let past = past_below schema in
    let views : past_views schema ≤ top = omega (arith, past) in
    let tables = within (λ (t : Table). t.tree) (created schema table).tables (past_views schema) top views
    (with_one (λ (t : Table). t.tree < top) schema.tables _
    (all_weaker (λ (t : Table). t.tree < next_tree schema) (λ t. t.tree < top) (λ t l. wider t.tree l) schema.tables
    (trees_below schema)) (omega arith)) in
    within (λ (i : Index). i.tree) (created schema table).indexes _ top tables
    (rw (plain, append-nil)
    (all_weaker (λ (i : Index). i.tree < next_tree schema) (λ i. i.tree < top) (λ i l. wider i.tree l) schema.indexes
    (each_below (λ (i : Index). i.tree) schema.indexes _)))

-- a table that is made stands last
pub stands_last : (schema : Schema) (table : Table) → table_named schema table.name ≡ None
    → same_name table.name table.name ≡ true → nat_le TREES (next_tree schema) ≡ false
    → StandsAt (created schema table) (record table { tree = next_tree schema }) (length schema.tables)
stands_last schema table none same small =
    let new : Table = record table { tree = next_tree schema } in
    let first : 0 + length schema.tables ≡ length schema.tables = omega arith in
    record {
      named = placed_last (λ t. same_name t.name table.name) 0 schema.tables new none same ∙ ap Some first;
      found = got_last schema.tables new;
      own = record {
        alone = with_one (λ (t : Table). t.tree ≡ next_tree schema → t.name ≡ table.name) schema.tables new
            (all_weaker (λ (t : Table). t.tree < next_tree schema)
            (λ t. t.tree ≡ next_tree schema → t.name ≡ table.name)
            (λ t l e. absurd (omega (arith, l, e))) schema.tables (trees_below schema))
            (λ _. refl);
        small = small;
      };
    }

-- a table stands where it stood when another is made
pub stands_still : (schema : Schema) (table new : Table) (at : ℕ) → StandsAt schema table at
    → StandsAt (created schema new) table at
stands_still schema table new at stands = record {
  named = placed_still (λ t. same_name t.name table.name) 0 at schema.tables _ stands.named;
  found = got_still schema.tables _ at table stands.found;
  own = record {
    alone = with_one (λ (t : Table). t.tree ≡ table.tree → t.name ≡ table.name) schema.tables _ stands.own.alone
        (λ e. absurd (let l = there in omega (arith, l, e)));
    small = stands.own.small;
  };
}
  where
    there : table.tree < next_tree schema
    there = all-slice_get (λ (t : Table). t.tree < next_tree schema) schema.tables at table stands.found
        (trees_below schema)

pub names_are_names : (same_name (codes "node") (codes "node") ≡ true)
    × (same_name (codes "entry") (codes "entry") ≡ true)
    × (same_name (codes "client") (codes "client") ≡ true)
    × (same_name (codes "node") (codes "entry") ≡ false)
    × (same_name (codes "node") (codes "client") ≡ false)
    × (same_name (codes "entry") (codes "client") ≡ false)
unfolding same_name
names_are_names = (refl, refl, refl, refl, refl, refl)

-- no table loses its sqlite_sequence where one that counts nothing is made
pub lacks_none : (schema : Schema) (table : Table) → table.is_counted ≡ false → lacks_sequence schema ≡ false
    → lacks_sequence (created schema table) ≡ false
lacks_none schema table uncounted none =
    go (list_any (λ t. t.is_counted) schema.tables) (sequence schema) (sequence (created schema table)) _
    (counted schema.tables) still none
  where
    new : Table
    new = record table { tree = next_tree schema }

    counted : (tables : List Table) → list_any (λ t. t.is_counted) (tables ++ new ∷ []) ≡ list_any (λ t. t.is_counted)
        tables
    counted [] = rw uncounted refl
    counted (t ∷ tables) = ap (λ b. t.is_counted || b) (counted tables)

    there : (at : ℕ) (got : Option Table) → table_named schema (codes "sqlite_sequence") ≡ Some at
        → slice_get schema.tables at ≡ got → is_some got ≡ true → is_some (sequence (created schema table)) ≡ true
    there at None named is h = absurd cc
    there at (Some t) named is h =
        rw (
          placed_still (λ t. same_name t.name (codes "sqlite_sequence")) 0 at schema.tables (new ∷ []) named,
          got_still schema.tables (new ∷ []) at t is,
        ) refl

    still_of : (o : Option ℕ) → table_named schema (codes "sqlite_sequence") ≡ o
        → is_some (option_and_then (slice_get schema.tables) o) ≡ true
        → is_some (sequence (created schema table)) ≡ true
    still_of None named h = absurd cc
    still_of (Some at) named h = there at (slice_get schema.tables at) named refl h

    still : is_some (sequence schema) ≡ true → is_some (sequence (created schema table)) ≡ true
    still h = still_of (table_named schema (codes "sqlite_sequence")) refl h

    go : (b : Bool) (o o' : Option Table) (b' : Bool) → b' ≡ b → (is_some o ≡ true → is_some o' ≡ true)
        → (b && not (is_some o)) ≡ false → (b' && not (is_some o')) ≡ false
    go true None o' b' same keeps h = absurd cc
    go true (Some t) o' b' same keeps h = rw (same, keeps refl) refl
    go false o o' b' same keeps h = rw same refl

-- nothing bears a name where a table of another name is made
free_still : (schema : Schema) (table : Table) (name : List ℕ) → table.uniques ≡ []
    → same_name table.name name ≡ false → IsFree schema name → IsFree (created schema table) name
free_still schema table name plain other free = record {
  table = placed_nowhere (λ t. same_name t.name name) 0 schema.tables _ free.table other;
  view = free.view;
  index = rw (plain, append-nil) free.index;
}

pub is_small : (tree : ℕ) → tree < TREES → nat_le TREES tree ≡ false
is_small tree l = grind arith

-- the desk that a database comes to be
module _ (schema : Schema) (room : HasRoomForTables schema) where
  abbrev first : Schema
  first = created schema (node_table 0)

  abbrev second : Schema
  second = created first (entry_table 0)

  abbrev third : Schema
  third = created second (client_table 0)

  abbrev node_tree : ℕ
  node_tree = next_tree schema

  abbrev entry_tree : ℕ
  entry_tree = next_tree first

  abbrev client_tree : ℕ
  client_tree = next_tree second

  in_order : node_tree < entry_tree
  in_order = last_of_all (λ (t : Table). t.tree < next_tree first) schema.tables _ (trees_below first)

  then_client : entry_tree < client_tree
  then_client = last_of_all (λ (t : Table). t.tree < next_tree second) first.tables _ (trees_below second)

  node_small : nat_le TREES node_tree ≡ false
  node_small = is_small node_tree (let small = room.small in omega (arith, small))

  entry_small : nat_le TREES entry_tree ≡ false
  entry_small = is_small entry_tree (let small = room.small in let next = next_but_one schema (node_table 0) refl in
      omega (arith, small, next))

  client_small : nat_le TREES client_tree ≡ false
  client_small = is_small client_tree
      (let small = room.small in
      let next = next_but_one schema (node_table 0) refl in
      let last = next_but_one first (entry_table 0) refl in
      omega (arith, small, next, last))

  entry_free_first : IsFree first (codes "entry")
  entry_free_first = free_still schema (node_table 0) (codes "entry") refl names_are_names.3 room.entry

  client_free_second : IsFree second (codes "client")
  client_free_second = free_still first (entry_table 0) (codes "client") refl names_are_names.5
      (free_still schema (node_table 0) (codes "client") refl names_are_names.4 room.client)

  node_stands_first : StandsAt first (node_table node_tree) (length schema.tables)
  node_stands_first = stands_last schema (node_table 0) room.node.table names_are_names.0 node_small

  node_stands_second : StandsAt second (node_table node_tree) (length schema.tables)
  node_stands_second =
      stands_still first (node_table node_tree) (entry_table 0) (length schema.tables) node_stands_first

  node_stands : StandsAt third (node_table node_tree) (length schema.tables)
  node_stands = stands_still second (node_table node_tree) (client_table 0) (length schema.tables) node_stands_second

  entry_stands_second : StandsAt second (entry_table entry_tree) (length first.tables)
  entry_stands_second = stands_last first (entry_table 0) entry_free_first.table names_are_names.1 entry_small

  entry_stands : StandsAt third (entry_table entry_tree) (length first.tables)
  entry_stands = stands_still second (entry_table entry_tree) (client_table 0) (length first.tables) entry_stands_second

  client_stands : StandsAt third (client_table client_tree) (length second.tables)
  client_stands = stands_last second (client_table 0) client_free_second.table names_are_names.2 client_small

  pub unnamed : NamesNone third
  unnamed =
      with_one (λ (child : Table). AllByRecursion IsOtherName child.references) second.tables _
      (with_one (λ (child : Table). AllByRecursion IsOtherName child.references) first.tables _
      (with_one (λ (child : Table). AllByRecursion IsOtherName child.references) schema.tables _ room.unnamed tt) tt) tt

  pub desk_of : Layout
  desk_of = record {
    schema = third;
    node = record { tree = node_tree; at = length schema.tables; stands = node_stands };
    entry = record { tree = entry_tree; at = length first.tables; stands = entry_stands };
    client = record { tree = client_tree; at = length second.tables; stands = client_stands };
    apart = (
      (λ e. absurd (omega (arith, in_order, e))),
      (λ e. absurd (omega (arith, in_order, then_client, e))),
      (λ e. absurd (omega (arith, then_client, e))),
    );
    unnamed = unnamed;
  }

  lacks_first : lacks_sequence first ≡ false
  lacks_first = lacks_none schema (node_table 0) refl room.sequence

  lacks_second : lacks_sequence second ≡ false
  lacks_second = lacks_none first (entry_table 0) refl lacks_first

  pub becomes : Becomes schema desk_of
  unfolding desk_of
  becomes = record {
    node_can = record { free = room.node; alone = lacks_first };
    entry_can = record { free = entry_free_first; alone = lacks_second };
    client_can = record { free = client_free_second; alone = lacks_none second (client_table 0) refl lacks_second };
    desk = refl;
    node_is = refl;
    entry_is = refl;
    client_is = refl;
  }
