-- What a read of the tables leaves, by what its query tells, and where another follows it.
use Rattle.std.proofs.Common.{◌≡◌, ◌∙◌, ℕ, inl, inr, List, [], Result, Ok, Err, refl, sym, subst, arith}
use Rattle.std.proofs.Math.Nat.{le_trans}
use Rattle.sqlite_value.specs.Order.{Row}
use Rattle.sqlite_schema.specs.declared.schema.Schema.{Schema}
use Rattle.sqlite_trees.specs.Tree.{Trees}
use Rattle.sqlite_trees.specs.declared.store.Store.{Ghosts}
use Rattle.sqlite.specs.declared.error.Error.{Error}
use Rattle.sqlite.specs.Effect.{Database}
use Rattle.sqlite.specs.Listing.{understood}
use Rattle.sqlite.specs.State.{State, HasCleanDisk, IsUnchanged, Survives, Shown, FailsToQuery, CommitsShowing}
use Rattle.sqlite.specs.Held.{Held, state}
use Rattle.sqlite.proofs.Callers.{IsPlain, never_commits, unchanged_then}
use Rattle.sqlite.proofs.StateLemmas.{survives_weaker}
use Rattle.desk_types.specs.declared.refusal.Refusal.{Refusal}
use Rattle.desk_types.specs.declared.refusal.Refusal.TheVariants as refusals
use Rattle.desk_naming.specs.Contents.{schema_of}
use Rattle.desk_naming.specs.Reads.{ReadsTable, HasRead}
use Rattle.desk_naming.proofs.Causes.{refused_read, refused_later}
use Rattle.desk_naming.proofs.NodeAnswer.{unchanged_by}
use Rattle.desk_naming.proofs.Refusing.{query_shows, settled_stays, shows_then}

fault_no_want : refusals.StoreFault ≡ refusals.WantOfMemory → ⊥
fault_no_want is = cc

-- the schema stays where nothing is changed
same_schema : (old new : State) → IsUnchanged old new → (Stand : Schema → Type 0) → Stand old.now.schema
    → Stand new.now.schema
same_schema old new same Stand stand = subst (λ (db : Database). Stand db.schema) (sym same.0.now_is) stand

-- a query of tables that stand in the schema, which its text alone reads
module _ {S : Type 0} (g : Ghosts S) (old new : Held S) (Stand : Schema → Type 0) (text : List ℕ)
    (plain : (schema : Schema) → Stand schema → IsPlain (understood schema text))
    (survives : Survives (state g old) (state g new) (CommitsShowing text [] (state g old))) where
  pub leaves_none : Stand (schema_of g old) → Survives (state g old) (state g new) (λ _. ⊥)
  leaves_none stand = survives_weaker (state g old) (state g new) _ _
      (λ _ db. never_commits text [] (state g old) db (plain _ stand)) survives

  left : Stand (schema_of g old) → HasCleanDisk (state g new) → (trees : Trees) → (state g new).may_leave trees
      → (state g old).may_leave trees
  left stand clean trees leaves = elim ((leaves_none stand).crash clean trees leaves) [
    | inl before ↦ before
    | inr none ↦ absurd none
  ]

  pub read_rows : {T : Type 0} (x : T) (rows : List Row)
      → (HasCleanDisk (state g new) → Shown text [] (state g old) (state g new) rows) → HasRead g old new Stand (Ok x)
  read_rows x rows shown = record {
    keeps = (λ clean. omega (arith, survives.clean), survives.limit);
    counts = survives.counts;
    left = left;
    refused = tt;
    same = λ clean stand. unchanged_by text [] (state g old) (state g new) rows (plain _ stand) (shown clean);
    want_of_memory = λ _ _. tt;
    store_fault = λ _ _ _. tt;
    cause = λ _ _. tt;
  }

  pub read_refused : {T : Type 0} → ReadsTable text → (e : Error)
      → (HasCleanDisk (state g new) → FailsToQuery text [] (state g old) (state g new) e)
      → HasRead {T = T} g old new Stand (Err refusals.StoreFault)
  read_refused reads e fails = record {
    keeps = (λ clean. omega (arith, survives.clean), survives.limit);
    counts = survives.counts;
    left = left;
    refused = inl refl;
    same = λ _ _. tt;
    want_of_memory = λ _ _ want. absurd (fault_no_want want);
    store_fault = λ settled clean _ _.
        query_shows (state g old) (state g new) text [] e settled clean survives (fails clean);
    cause = λ clean _ _. refused_read g old new text reads e (fails clean);
  }

module _ {S : Type 0} (g : Ghosts S) (old new : Held S) (Stand : Schema → Type 0) {T U : Type 0} where
  -- another thing is made of what was read
  pub read_as : (x : T) (y : U) → HasRead g old new Stand (Ok x) → HasRead g old new Stand (Ok y)
  read_as x y h = record {
    keeps = h.keeps;
    counts = h.counts;
    left = h.left;
    refused = tt;
    same = h.same;
    want_of_memory = λ _ _. tt;
    store_fault = λ _ _ _. tt;
    cause = λ _ _. tt;
  }

  -- memory is refused to what is made of it
  pub read_want : (x : T) → HasRead g old new Stand (Ok x) → HasRead {T = U} g old new Stand (Err refusals.WantOfMemory)
  read_want x h = record {
    keeps = h.keeps;
    counts = h.counts;
    left = h.left;
    refused = inr refl;
    same = λ _ _. tt;
    want_of_memory = λ clean stand _. h.same clean stand;
    store_fault = λ _ _ _ fault. absurd (fault_no_want (sym fault));
    cause = λ _ _ fault. absurd (fault_no_want (sym fault));
  }

  -- a refusal is handed on
  pub read_err : (e : Refusal) → HasRead {T = T} g old new Stand (Err e) → HasRead {T = U} g old new Stand (Err e)
  read_err e h = record {
    keeps = h.keeps;
    counts = h.counts;
    left = h.left;
    refused = h.refused;
    same = λ _ _. tt;
    want_of_memory = h.want_of_memory;
    store_fault = h.store_fault;
    cause = h.cause;
  }

-- fewer tables stand there where more do
pub read_where : {S : Type 0} (g : Ghosts S) (old new : Held S) (Stand More : Schema → Type 0)
    → ((schema : Schema) → More schema → Stand schema) → {T : Type 0} (r : Result T Refusal)
    → HasRead g old new Stand r → HasRead g old new More r
read_where g old new Stand More fewer r h = record {
  keeps = h.keeps;
  counts = h.counts;
  left = λ more. h.left (fewer _ more);
  refused = h.refused;
  same = λ clean more. h.same clean (fewer _ more);
  want_of_memory = λ clean more. h.want_of_memory clean (fewer _ more);
  store_fault = λ settled clean more. h.store_fault settled clean (fewer _ more);
  cause = λ clean more. h.cause clean (fewer _ more);
}

-- a read that follows one which went well
module _ {S : Type 0} (g : Ghosts S) (old mid new : Held S) (Stand : Schema → Type 0) {T U : Type 0} (x : T)
    (one : HasRead g old mid Stand (Ok x)) where
  same_then : {R : Result U Refusal} → HasRead g mid new Stand R → HasCleanDisk (state g new)
      → Stand (schema_of g old) → IsUnchanged (state g old) (state g mid) × Stand (schema_of g mid)
  same_then two clean stand =
      let same = one.same (two.keeps.0 clean) stand in
      (same, same_schema (state g old) (state g mid) same Stand stand)

  pub read_then : (r : Result U Refusal) → HasRead g mid new Stand r → HasRead g old new Stand r
  read_then (Ok y) two = record {
    keeps = (λ clean. one.keeps.0 (two.keeps.0 clean), two.keeps.1 ∙ one.keeps.1);
    counts = le_trans one.counts two.counts;
    left = λ stand clean trees leaves.
        one.left stand (two.keeps.0 clean) trees (two.left (same_then two clean stand).1 clean trees leaves);
    refused = tt;
    same = λ clean stand.
        let it = same_then two clean stand in
        unchanged_then (state g old) (state g mid) (state g new) it.0 (two.same clean it.1);
    want_of_memory = λ _ _. tt;
    store_fault = λ _ _ _. tt;
    cause = λ _ _. tt;
  }
  read_then (Err e) two = record {
    keeps = (λ clean. one.keeps.0 (two.keeps.0 clean), two.keeps.1 ∙ one.keeps.1);
    counts = le_trans one.counts two.counts;
    left = λ stand clean trees leaves.
        one.left stand (two.keeps.0 clean) trees (two.left (same_then two clean stand).1 clean trees leaves);
    refused = two.refused;
    same = λ _ _. tt;
    want_of_memory = λ clean stand want.
        let it = same_then two clean stand in
        unchanged_then (state g old) (state g mid) (state g new) it.0 (two.want_of_memory clean it.1 want);
    store_fault = λ settled clean stand fault.
        let it = same_then two clean stand in
        shows_then (state g old) (state g mid) (state g new) it.0 one.counts
        (two.store_fault (settled_stays (state g old) (state g mid) settled it.0) clean it.1 fault);
    cause = λ clean stand fault.
        let it = same_then two clean stand in
        refused_later g old mid new it.0 (two.cause clean it.1 fault);
  }
