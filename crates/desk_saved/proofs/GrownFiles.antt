-- The file of version 1 that has become one of version 2.
use Rattle.std.proofs.Common.{◌≡◌, inl, inr, List, [], ◌∷◌, Bool, Ok, Result, IsTrue, IsPermutation, refl}
use Rattle.std.proofs.lemmas.List.Sorted.{IsPermutation-trans}
use Rattle.sqlite_value.specs.Order.{Row}
use Rattle.sqlite_trees.specs.Tree.{Trees}
use Rattle.sqlite_trees.specs.declared.store.Store.{Ghosts}
use Rattle.sqlite.specs.declared.error.Error.{Error}
use Rattle.sqlite.specs.State.{HasCleanDisk}
use Rattle.sqlite.specs.Held.{Held, state}
use Rattle.desk_types.specs.declared.owner.Owner.{Owner}
use Rattle.desk_types.specs.declared.refusal.Refusal.TheVariants as refusals
use Rattle.desk_log.specs.SavedValue.{SavedValue}
use Rattle.desk_naming.specs.Contents.{trees_of}
use Rattle.desk_saved.specs.declared.changes.Missing.TheVariants as missings
use Rattle.desk_saved.specs.declared.steps.RowStep.{RowStep}
use Rattle.desk_saved.specs.Changes.{effects, AreApt, SparesAll, StandsBefore}
use Rattle.desk_saved.specs.Transactions.{Transacts}
use Rattle.desk_saved.specs.DeskTables.{Layout, StateRows, HasRows, Saves, KeepsOthers, own_rows, KeepsEntryRows}
use Rattle.desk_saved.specs.DeskTables.{versioned_row}
use Rattle.desk_saved.specs.File.{client_rows, log_of, state_rows}
use Rattle.desk_saved.specs.Growth.{StandsToGrow, MayGrow, HasNotGrown}
use Rattle.desk_saved.proofs.OneTransaction.{left_after, saved_after}
use Rattle.desk_saved.proofs.Opening.{shows_same}

-- the rows of the clients that are put are those of the log, in some order
module _ {S : Type 0} (g : Ghosts S) (before after : Held S) (owner : Owner) (s : SavedValue) (clients : List Row)
    (same : IsPermutation (client_rows s.log) clients) where
  abbrev rows' : StateRows
  rows' = own_rows owner.id owner.n owner.domain s.view s.normal s.commit (log_of s) clients

  -- those of the file of version 1, and none of clients
  abbrev old_rows : StateRows
  old_rows = record {
    own = versioned_row 1 owner.id owner.n owner.domain s.view s.normal s.commit ∷ [];
    entries = log_of s;
    clients = [];
  }

  is_state : (d : Layout) (trees : Trees) → HasRows d trees rows' → HasRows d trees (state_rows owner s)
  is_state d trees rows = (rows.0, rows.1, IsPermutation-trans _ _ _ same rows.2)

  -- the steps make the one file of the other, in a transaction of a connection under another name
  module _ (given : Held S) (is : given ≡ before) (all : List RowStep) (Fit : Type 0) (apt : AreApt all old_rows)
      (made : effects all old_rows ≡ rows') (spares : SparesAll missings.Clients all) where
    abbrev Reported : Result Bool Error → Type 0
    Reported r = Transacts g given after (StandsBefore missings.Clients) (AreApt all) r (effects all) Fit
        (SparesAll missings.Clients all)

    pub may_grow : (r : Result Bool Error) → Reported r → (state g after).step_limit ≡ (state g given).step_limit
        → (HasCleanDisk (state g after) → HasCleanDisk (state g given)) → MayGrow g before owner s after
    may_grow r reported limit clean = record {
      limit = rw is at limit;
      clean = rw is at clean;
      left = λ late d stands trees leaves.
          elim ((left_after g given before after is missings.Clients all Fit (SparesAll missings.Clients all) d
          old_rows rows' (stands.grows, stands.rows.0, stands.rows.1, refl) apt made stands.is_open stands.sound r
          reported).crash late trees leaves) [
            | inl was ↦ inl was
            | inr made' ↦ inr ((is_state d trees made'.0.0, made'.0.1, made'.0.2), made'.1 spares)
          ];
    }

    pub saves_grown : (done : Bool) → IsTrue done → Reported (Ok done) → HasCleanDisk (state g after)
        → (d : Layout) → StandsToGrow d owner s (state g before)
        → Saves d (state g after) (state_rows owner s) × KeepsOthers d (trees_of g before) (trees_of g after)
        × KeepsEntryRows d (state g before) (state g after)
    saves_grown done is_done reported late d stands =
        let h = saved_after g given before after is missings.Clients all Fit (SparesAll missings.Clients all) d
        old_rows rows' (stands.grows, stands.rows.0, stands.rows.1, refl) apt made stands.is_open stands.sound done
        is_done reported late in
        let saves : Saves d (state g after) (state_rows owner s) = record {
          keeps = record { schema = h.0.keeps.schema; rows = is_state d (trees_of g after) h.0.keeps.rows };
          sound = h.0.sound;
          committed = h.0.committed;
          is_open = h.0.is_open;
          autocommit = h.0.autocommit;
        } in
        (saves, h.1, h.2 spares)

-- a connection that is as it was has not made it one
pub not_at_all : {S : Type 0} (g : Ghosts S) (before : Held S) (owner : Owner) (s : SavedValue)
    → HasNotGrown g before owner s before refusals.WantOfMemory
not_at_all g before owner s = record {
  fault = inl (refl, refl);
  cause = λ fault. absurd (let it = fault in cc);
  may = record { limit = refl; clean = λ clean. clean; left = λ _ d stands trees leaves. inl leaves };
  shows = λ _. shows_same (state g before);
}
