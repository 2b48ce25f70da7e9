-- What a save of the object keeps.
use Rattle.std.proofs.Common.{◌≡◌, ◌⊎◌, inl, inr, ℕ, ◌≤◌, ◌++◌, take, drop, length, IsTrue, sym, Bool, Result, Ok, ap}
use Rattle.std.proofs.Common.{subst, ◌∙◌, List, map, IsPermutation}
use Rattle.std.proofs.lemmas.List.Sorted.{IsPermutation-sym, IsPermutation-trans}
use Rattle.sqlite_value.specs.Order.{Row}
use Rattle.sqlite_trees.specs.Tree.{Trees}
use Rattle.sqlite_trees.specs.declared.store.Store.{Ghosts}
use Rattle.sqlite_catalog.specs.Listing.{IsSound}
use Rattle.sqlite.specs.Effect.{Database, IsDatabase}
use Rattle.sqlite.specs.declared.error.Error.{Error}
use Rattle.sqlite.specs.State.{HasCleanDisk, IsUnchanged}
use Rattle.sqlite.specs.Held.{Held, state}
use Rattle.desk_log.specs.SavedValue.{SavedValue}
use Rattle.desk_types.specs.declared.owner.Owner.{Owner}
use Rattle.desk_naming.specs.Contents.{schema_of, trees_of}
use Rattle.desk_saved.specs.declared.changes.Missing.TheVariants as missings
use Rattle.desk_saved.specs.declared.steps.RowStep.{RowStep}
use Rattle.desk_saved.specs.Changes.{effects, AreApt, StandsBefore}
use Rattle.desk_saved.specs.Transactions.{Transacts}
use Rattle.desk_saved.specs.DeskTables.{Layout, StateRows, Saves, KeepsOthers, Changes, HasRows, shown_entry, up_to}
use Rattle.desk_saved.specs.File.{HasFile, HoldsFile, state_rows, log_of, rows_from}
use Rattle.desk_saved.proofs.Fronts.{new_rows}
use Rattle.desk_saved.proofs.Settling.{clients_settled}
use Rattle.desk_saved.proofs.OneTransaction.{left_after, saved_after}
use Rattle.desk_saved.proofs.SaveSteps.{rows_after, AreOfSave}
use Rattle.desk_saved.proofs.SeveralStatements.{others_same}
use Rattle.desk_saved.proofs.LoadStateAnswers.{still_saved}

module _ {S : Type 0} (g : Ghosts S) (given old new : Held S) (is : given ≡ old) (d : Layout) (own : Owner)
    (last saved : SavedValue) (front : ℕ) (within : front ≤ length saved.log)
    (same : take front last.log ≡ take front saved.log) (holds : HoldsFile g d old own last)
    (clean : HasCleanDisk (state g new) → HasCleanDisk (state g old)) (all : List RowStep)
    (save : AreOfSave own last saved front all) (Fit Spared : Type 0) where
  abbrev rows' : StateRows
  rows' = rows_after own last saved front

  abbrev Reported : Result Bool Error → Type 0
  Reported r = Transacts g given new (StandsBefore missings.Nothing) (AreApt all) r (effects all) Fit Spared

  -- the entries are those of the saved state, and so are the clients in some order
  entries_are : (P : List Row → Type 0)
      → P (up_to front (log_of last) ++ rows_from front (drop front saved.log)) → P (log_of saved)
  entries_are P = subst P (new_rows front last.log saved.log within same)

  is_new : (trees : Trees) → HasRows d trees rows' → HasRows d trees (state_rows own saved)
  is_new trees rows = (
    rows.0,
    entries_are (λ l. IsPermutation l (map shown_entry (trees d.entry.tree))) rows.1,
    IsPermutation-trans _ _ _ (IsPermutation-sym _ _ (clients_settled front last.log saved.log same)) rows.2,
  )

  changes_new : (trees : Trees) → Changes d (trees_of g old) trees rows'
      → Changes d (trees_of g old) trees (state_rows own saved)
  changes_new trees changes = (is_new trees changes.0, changes.1, changes.2)

  saves_new : Saves d (state g new) rows' → Saves d (state g new) (state_rows own saved)
  saves_new saves = record {
    keeps = record { schema = saves.keeps.schema; rows = is_new (trees_of g new) saves.keeps.rows };
    sound = saves.sound;
    committed = saves.committed;
    is_open = saves.is_open;
    autocommit = saves.autocommit;
  }

  live : Saves d (state g old) (state_rows own last) → IsDatabase (state g old).now
  live was = subst (λ schema. IsSound schema (trees_of g old)) (sym was.keeps.schema) was.sound

  left_by : (r : Result Bool Error) → Reported r → HasCleanDisk (state g new)
      → (trees : Trees) → (state g new).may_leave trees
      → (state g old).may_leave trees ⊎ Changes d (trees_of g old) trees (state_rows own saved)
  left_by r reported late trees leaves =
      let was = holds (clean late) in
      elim ((left_after g given old new is missings.Nothing all Fit Spared d (state_rows own last) rows' was.keeps
      save.apt save.made was.is_open (live was) r reported).crash late trees leaves) [
        | inl before ↦ inl before
        | inr made ↦ inr (changes_new trees made.0)
      ]

  pub left_old_or_new : (r : Result Bool Error) → Reported r
      → (IsTrue (state g old).is_open → (trees : Trees) → (state g old).may_leave trees
      → trees ≡ (state g old).committed.trees)
      → HasCleanDisk (state g new) → (trees : Trees) → (state g new).may_leave trees
      → (HasFile d own last trees ⊎ HasFile d own saved trees) × KeepsOthers d (trees_of g old) trees
      × IsSound d.schema trees
  left_old_or_new r reported settled late trees leaves =
      let was = holds (clean late) in
      elim (left_by r reported late trees leaves) [
        | inl before ↦
            let same = sym (settled was.is_open trees before ∙ ap (λ (db : Database). db.trees) was.committed) in (
              inl (subst (λ t. HasFile d own last t) same was.keeps.rows),
              subst (λ t. KeepsOthers d (trees_of g old) t) same (others_same d (trees_of g old)),
              subst (λ t. IsSound d.schema t) same was.sound,
            )
        | inr made ↦ (inr made.0, made.1, made.2)
      ]

  pub holds_new : (done : Bool) → IsTrue done → Reported (Ok done) → HoldsFile g d new own saved
      × (HasCleanDisk (state g new) → KeepsOthers d (trees_of g old) (trees_of g new))
  holds_new done is_done reported =
      let it = λ (late : HasCleanDisk (state g new)). let was = holds (clean late) in
      saved_after g given old new is missings.Nothing all Fit Spared d (state_rows own last) rows' was.keeps save.apt
      save.made was.is_open (live was) done is_done reported late in
      (λ late. saves_new (it late).0, λ late. (it late).1)

-- what a stop leaves of an open database whose saved state is committed
module _ {S : Type 0} (g : Ghosts S) (new : Held S) (d : Layout) (own : Owner) (saved : SavedValue)
    (holds : HoldsFile g d new own saved)
    (settled : IsTrue (state g new).is_open → (trees : Trees) → (state g new).may_leave trees
    → trees ≡ (state g new).committed.trees)
    (late : HasCleanDisk (state g new)) (trees : Trees) (leaves : (state g new).may_leave trees) where
  same_trees : trees ≡ trees_of g new
  same_trees =
      let is = holds late in settled is.is_open trees leaves ∙ ap (λ (db : Database). db.trees) is.committed

  pub left_alone : HasFile d own saved trees
  left_alone = subst (λ t. HasFile d own saved t) (sym same_trees) (holds late).keeps.rows

  pub sound_alone : IsSound d.schema trees
  sound_alone = subst (λ t. IsSound d.schema t) (sym same_trees) (holds late).sound

  pub others_alone : (before : Trees) → KeepsOthers d before (trees_of g new) → KeepsOthers d before trees
  others_alone before others = subst (λ t. KeepsOthers d before t) (sym same_trees) others

-- a query keeps what the tables hold
pub holds_still : {S : Type 0} (g : Ghosts S) (old new : Held S) (d : Layout) (own : Owner) (s : SavedValue)
    → HoldsFile g d old own s → (HasCleanDisk (state g new) → HasCleanDisk (state g old))
    → (HasCleanDisk (state g new) → schema_of g old ≡ d.schema → IsUnchanged (state g old) (state g new))
    → HoldsFile g d new own s
holds_still g old new d own s holds clean same late =
    let was = holds (clean late) in
    let schema = was.keeps.schema in
    still_saved (state g old) (state g new) d own s (same late schema) schema was.keeps.rows was.sound
    (sym was.committed) was.autocommit
