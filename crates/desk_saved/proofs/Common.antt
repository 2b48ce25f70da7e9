-- What the lemmas on each statement share.
use Rattle.std.proofs.Common.{◌≡◌, ◌≢◌, ◌⊎◌, inl, inr, ℕ, ℤ, List, [], ◌∷◌, ◌||◌, Bool, true, false, cond, Ok, Err}
use Rattle.std.proofs.Common.{Result, IfOk, Ordering, Less, Equal, Greater, is_eq, IsPermutation, refl, subst}
use Rattle.std.specs.List.{AllByRecursion}
use Rattle.std.specs.Ordering.{match_ordering}
use Rattle.std.proofs.lemmas.List.Sorted.{IsPermutation-refl, IsPermutation-sym, IsPermutation-cons}
use Rattle.std.proofs.lemmas.List.Sorted.{IsPermutation-trans, IsPermutation-middle}
use Rattle.sqlite_value.specs.declared.value.Value.{Value}
use Rattle.sqlite_value.specs.declared.value.Value.TheVariants.{Null, Int}
use Rattle.sqlite_value.specs.Order.{Row, value_cmp}
use Rattle.sqlite_sql.specs.Ops.{unary}
use Rattle.sqlite_schema.specs.declared.schema.Table.{Table}
use Rattle.sqlite_schema.specs.declared.schema.Kind.TheVariants.{Integer}
use Rattle.sqlite_rules.specs.Cast.{cast}
use Rattle.sqlite_rules.specs.Edit.{is_taken}
use Rattle.sqlite_trees.specs.Tree.{Trees, rowid, put_row}
use Rattle.sqlite_keyed.proofs.ListLemmas.{all-slice_get}
use Rattle.desk_naming.specs.TableInSchema.{TableIn}
use Rattle.desk_saved.specs.DeskTables.{Layout}

either : (b : Bool) (x : Value) → cond b x x ≡ x
either true x = refl
either false x = refl

pub cast_null : cast Integer Null ≡ Null
unfolding unary
cast_null = either _ Null

pub cast_int : (n : ℤ) → cast Integer (Int n) ≡ Int n
unfolding unary
cast_int n = either _ (Int n)

pub went : {B E R : Type 0} {b : B} {Stops : E → Type 0} → ((stop : E) × Stops stop × (Ok b ≡ Err stop)) ⊎ R → R
went (inl stopped) = absurd (let e = stopped.2 in cc)
went (inr on) = on

pub same_value : {B E : Type 0} {a b : B} → ◌≡◌ {A = Result B E} (Ok a) (Ok b) → a ≡ b
same_value e = cc

pub put_fresh : (new : Row) (rows : List Row) → is_taken rows new ≡ false
    → IsPermutation (new ∷ rows) (put_row new rows)
put_fresh new [] free = IsPermutation-refl (new ∷ [])
put_fresh new (r ∷ rows) free = go (value_cmp (rowid r) (rowid new)) free (put_fresh new rows)
  where
    go : (o : Ordering) → (is_eq o || is_taken rows new) ≡ false
        → (is_taken rows new ≡ false → IsPermutation (new ∷ rows) (put_row new rows))
        → IsPermutation (new ∷ r ∷ rows) (match_ordering o (r ∷ put_row new rows) (new ∷ rows) (new ∷ r ∷ rows))
    go Less h more = IsPermutation-trans _ _ _ (IsPermutation-sym _ _ (IsPermutation-middle (r ∷ []) new rows))
        (IsPermutation-cons r _ _ (more h))
    go Equal h more = absurd cc
    go Greater h more = IsPermutation-refl _

-- one of our tables other than the one that is written
pub preserved_table : (d : Layout) {kind : ℕ → Table} (ours : TableIn d.schema kind) (tree : ℕ) (old new : Trees)
    → (kind ours.tree).tree ≡ ours.tree → ours.tree ≢ tree
    → AllByRecursion (λ (t : Table). t.tree ≢ tree → new t.tree ≡ old t.tree) d.schema.tables
    → new ours.tree ≡ old ours.tree
preserved_table d {kind} ours tree old new is apart all =
    let it = all-slice_get (λ (t : Table). t.tree ≢ tree → new t.tree ≡ old t.tree) d.schema.tables ours.at
    (kind ours.tree) ours.stands.found all in
    subst (λ n. n ≢ tree → new n ≡ old n) is it apart

-- what holds where it went well, in weaker words
pub if_ok : {A E : Type 0} (P Q : A → Type 0) (r : Result A E) → ((a : A) → P a → Q a) → IfOk r P → IfOk r Q
if_ok P Q (Ok a) weaker h = weaker a h
if_ok P Q (Err e) weaker h = tt
