-- A transaction of several statements.
use Rattle.std.proofs.Common.{◌≡◌, List, Bool, true, false, Result, Ok, Err, IfOk, IsTrue, refl, sym, subst, ◌∙◌, arith}
use Rattle.sqlite_trees.specs.Tree.{Trees}
use Rattle.sqlite_trees.specs.declared.store.Store.{Ghosts}
use Rattle.sqlite_catalog.specs.Listing.{IsSound}
use Rattle.sqlite.specs.declared.error.Error.{Error}
use Rattle.sqlite.specs.Effect.{Database, IsDatabase}
use Rattle.sqlite.specs.State.{HasCleanDisk, Survives, Shows}
use Rattle.sqlite.specs.Held.{Held, state}
use Rattle.sqlite.proofs.StateLemmas.{survives_then}
use Rattle.sqlite.proofs.Callers.{survives_begin}
use Rattle.desk_saved.specs.declared.changes.Missing.{Missing}
use Rattle.desk_saved.specs.declared.steps.RowStep.{RowStep}
use Rattle.desk_saved.specs.Changes.{effects, AreApt, StandsBefore}
use Rattle.desk_naming.specs.Contents.{trees_of}
use Rattle.desk_saved.specs.Transactions.{KeepsSpared, MakesRows, Transacts}
use Rattle.desk_saved.specs.DeskTables.{Layout, StateRows, Keeps, Leaves, Saves, KeepsOthers, Changes, IsInside}

-- `wrote` is the clause of the helper that runs the statements, for the rows that stand there
module _ {S : Type 0} (g : Ghosts S) (old begun mid last : Held S) (d : Layout)
    (Stands : Layout → Database → StateRows → Type 0) (rows rows' : StateRows) (Spared : Type 0)
    (is : begun ≡ record old { in_transaction = true }) (open_ : IsTrue (state g old).is_open)
    (live : IsDatabase (state g old).now)
    (keeps : Stands d (state g old).now rows)
    (wrote : HasCleanDisk (state g mid) → IsInside (state g begun) → Stands d (state g begun).now rows
    → Leaves d (state g begun) (state g mid) rows' × KeepsSpared Spared d (state g begun) (state g mid)) where
  -- the rows of the entries are what they were, where they are spared
  abbrev Also : Trees → Type 0
  Also trees = Spared → trees d.entry.tree ≡ trees_of g old d.entry.tree

  held : HasCleanDisk (state g mid)
      → Leaves d (state g begun) (state g mid) rows' × KeepsSpared Spared d (state g begun) (state g mid)
  held clean = wrote clean (subst (λ h. IsInside (state g h)) (sym is)
      (record { is_open = open_; in_transaction = refl; sound = live }))
      (subst (λ h. Stands d (state g h).now rows) (sym is) keeps)

  is_sound : HasCleanDisk (state g mid) → IsSound d.schema (trees_of g mid)
  is_sound clean =
      subst (λ schema. IsSound schema (trees_of g mid)) (held clean).0.keeps.schema (held clean).0.sound

  others_held : HasCleanDisk (state g mid) → KeepsOthers d (trees_of g old) (trees_of g mid)
  others_held clean = subst (λ h. KeepsOthers d (trees_of g h) (trees_of g mid)) is (held clean).0.others

  also_held : HasCleanDisk (state g mid) → Also (trees_of g mid)
  also_held clean =
      subst (λ h. Spared → trees_of g mid d.entry.tree ≡ trees_of g h d.entry.tree) is (held clean).1

  crash_leaves : Survives (state g begun) (state g mid) (λ _. ⊥)
      → Survives (state g mid) (state g last) (λ db. db ≡ trees_of g mid)
      → Survives (state g old) (state g last) (λ trees. Changes d (trees_of g old) trees rows' × Also trees)
  crash_leaves inside commit =
      survives_then (state g old) (state g mid) (state g last) _ _
      (λ trees. Changes d (trees_of g old) trees rows' × Also trees) (λ _ db none. absurd none)
      (λ clean db same.
      let mid_clean : HasCleanDisk (state g mid) = omega (arith, commit.clean) in
      subst (λ trees. Changes d (trees_of g old) trees rows' × Also trees) (sym same)
      (((held mid_clean).0.keeps.rows, others_held mid_clean, is_sound mid_clean), also_held mid_clean))
      (survives_begin g old (state g mid) _ (subst (λ h. Survives (state g h) (state g mid) (λ _. ⊥)) is inside))
      commit

  committed_rows : HasCleanDisk (state g mid)
      → Shows (state g mid) (state g last) (state g mid).now (state g mid).now false
      → Saves d (state g last) rows' × KeepsOthers d (trees_of g old) (trees_of g last) × Also (trees_of g last)
  committed_rows clean shows =
      let it = (held clean).0 in
      let saves : Saves d (state g last) rows' = record {
        keeps = subst (λ db. Keeps d db rows') (sym shows.now_is) it.keeps;
        sound = subst (λ (db : Database). IsSound d.schema db.trees) (sym shows.now_is) (is_sound clean);
        committed = shows.committed_is ∙ sym shows.now_is;
        is_open = shows.is_open;
        autocommit = shows.mode;
      } in (
        saves,
        subst (λ (db : Database). KeepsOthers d (trees_of g old) db.trees) (sym shows.now_is)
            (others_held clean),
        subst (λ (db : Database). Also db.trees) (sym shows.now_is) (also_held clean),
      )

-- What holds where the statements are run holds where a crash leaves what they wrote.
commits_only : {S : Type 0} (g : Ghosts S) (old begun mid last : Held S) (P : Type 0)
    → begun ≡ record old { in_transaction = true } → P → Survives (state g begun) (state g mid) (λ _. ⊥)
    → Survives (state g mid) (state g last) (λ db. db ≡ trees_of g mid)
    → Survives (state g old) (state g last) (λ _. P)
commits_only g old begun mid last P is holds inside commit =
    survives_then (state g old) (state g mid) (state g last) _ _ (λ _. P) (λ _ db none. absurd none)
    (λ _ db same. holds)
    (survives_begin g old (state g mid) _ (subst (λ h. Survives (state g h) (state g mid) (λ _. ⊥)) is inside)) commit

-- the transaction itself, whether its commit went well or not
module _ {S : Type 0} (g : Ghosts S) (old begun mid last : Held S) (Stands : Layout → Database → StateRows → Type 0)
    (Apt : StateRows → Type 0) (made : StateRows → StateRows) (Fit Spared : Type 0)
    (is : begun ≡ record old { in_transaction = true })
    (wrote : MakesRows g begun mid Stands Apt (Ok tt) made Spared) (fits : Fit)
    (commit : Survives (state g mid) (state g last) (λ db. db ≡ trees_of g mid)) where
  pub transacts : (r : Result Bool Error)
      → IfOk r (λ _. HasCleanDisk (state g last)
      → Shows (state g mid) (state g last) (state g mid).now (state g mid).now false)
      → Transacts g old last Stands Apt r made Fit Spared
  transacts (Ok done) shows = record {
    rows = λ clean open_ live d rows stands apt _.
        committed_rows g old begun mid last d Stands rows (made rows) Spared is open_ live stands
        (λ before within there. wrote.rows before within d rows there apt) (omega (arith, commit.clean)) (shows clean);
    crash = λ open_ live d rows stands apt.
        crash_leaves g old begun mid last d Stands rows (made rows) Spared is open_ live stands
        (λ before within there. wrote.rows before within d rows there apt) wrote.quiet.survives commit;
    fits = λ _. fits;
    commits = commits_only g old begun mid last Fit is fits wrote.quiet.survives commit;
  }
  transacts (Err e) shows = record {
    rows = λ clean open_ live d rows stands apt. tt;
    crash = λ open_ live d rows stands apt.
        crash_leaves g old begun mid last d Stands rows (made rows) Spared is open_ live stands
        (λ before within there. wrote.rows before within d rows there apt) wrote.quiet.survives commit;
    fits = tt;
    commits = commits_only g old begun mid last Fit is fits wrote.quiet.survives commit;
  }

-- what a transaction of steps makes of the rows that stand there, where the caller has another name for the connection
module _ {S : Type 0} (g : Ghosts S) (given before after : Held S) (same : given ≡ before) (missing : Missing)
    (all : List RowStep) (Fit Spared : Type 0) (d : Layout) (rows rows' : StateRows)
    (stands : StandsBefore missing d (state g before).now rows) (apt : AreApt all rows)
    (made : effects all rows ≡ rows')
    (open_ : IsTrue (state g before).is_open) (live : IsDatabase (state g before).now) where
  abbrev Reported : Held S → Result Bool Error → Type 0
  Reported old r = Transacts g old after (StandsBefore missing) (AreApt all) r (effects all) Fit Spared

  pub left_after : (r : Result Bool Error) → Reported given r
      → Survives (state g before) (state g after) (λ trees. Changes d (trees_of g before) trees rows'
      × (Spared → trees d.entry.tree ≡ trees_of g before d.entry.tree))
  left_after r reported =
      subst (λ shown. Survives (state g before) (state g after) (λ trees. Changes d (trees_of g before) trees shown
      × (Spared → trees d.entry.tree ≡ trees_of g before d.entry.tree))) made
      ((subst (λ old. Reported old r) same reported).crash open_ live d rows stands apt)

  pub saved_after : (done : Bool) → IsTrue done → Reported given (Ok done) → HasCleanDisk (state g after)
      → Saves d (state g after) rows' × KeepsOthers d (trees_of g before) (trees_of g after)
      × KeepsSpared Spared d (state g before) (state g after)
  saved_after done is_done reported clean =
      subst (λ shown. Saves d (state g after) shown × KeepsOthers d (trees_of g before) (trees_of g after)
      × KeepsSpared Spared d (state g before) (state g after)) made
      ((subst (λ old. Reported old (Ok done)) same reported).rows clean open_ live d rows stands apt is_done)
