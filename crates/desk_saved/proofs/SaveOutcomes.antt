-- What a save of the object answers.
use Rattle.std.proofs.Common.{◌≡◌, ◌⊎◌, inl, ℕ, ◌≤◌, List, take, drop, length, Bool, true, false, IsTrue, Result, Ok}
use Rattle.std.proofs.Common.{Err, IfOk, OnErr, refl, sym, subst, ap, ◌∙◌}
use Rattle.std.specs.List.{AllByRecursion}
use Rattle.sqlite_trees.specs.Tree.{Trees}
use Rattle.sqlite_trees.specs.declared.store.Store.{Ghosts}
use Rattle.sqlite.specs.declared.error.Error.{Error}
use Rattle.sqlite.specs.State.{HasCleanDisk, Survives}
use Rattle.sqlite.specs.Held.{Held, state}
use Rattle.sqlite.proofs.StateLemmas.{survives_weaker}
use Rattle.desk_types.specs.declared.refusal.Refusal.TheVariants as refusals
use Rattle.desk_log.specs.SavedValue.{SavedValue, IsSaved}
use Rattle.desk_saved.specs.declared.changes.Missing.TheVariants as missings
use Rattle.desk_saved.specs.declared.steps.RowStep.{RowStep}
use Rattle.desk_saved.specs.Changes.{effects, AreApt, IsFitStep, SparesAll, StandsBefore}
use Rattle.desk_saved.specs.Transactions.{Transacts}
use Rattle.desk_naming.specs.Contents.{trees_of}
use Rattle.desk_saved.specs.DeskTables.{Layout, KeepsOthers}
use Rattle.desk_saved.specs.File.{HasFile, HoldsFile, IsState}
use Rattle.desk_codec.specs.Ranges.{FitsEntries}
use Rattle.desk_naming.specs.AfterRefusal.{ShowsAsBefore, KeepsFaultsAndLimit}
use Rattle.desk_saved.specs.Saving.{HasSaved, StopLeaves}
use Rattle.desk_saved.specs.Store.{StoreValue}
use Rattle.desk_saved.proofs.SeveralStatements.{others_same}
use Rattle.desk_saved.proofs.SavedRows.{holds_new, left_old_or_new, left_alone, others_alone, sound_alone}
use Rattle.desk_saved.proofs.SaveSteps.{AreOfSave}
use Rattle.desk_saved.proofs.Opening.{shown_undone}
use Rattle.desk_saved.proofs.Reading.{fit_both, fit_first}
use Rattle.desk_saved.proofs.Restarts.{restarts, restarts_none}

-- A connection leaves what is committed, where no transaction is open.
abbrev pub LeavesCommitted : {S : Type 0} → Ghosts S → Held S → Type 0
LeavesCommitted g conn = IsTrue (state g conn).is_open → (trees : Trees) → (state g conn).may_leave trees
    → trees ≡ (state g conn).committed.trees

-- what a stop leaves of an object that holds a state
leaves_held : {S : Type 0} (g : Ghosts S) (conn : Held S) (d : Layout) (file : StoreValue S) (given : SavedValue)
    → HoldsFile g d conn file.owner given → LeavesCommitted g conn → HasCleanDisk (state g conn)
    → KeepsOthers d (trees_of g file.connection) (trees_of g conn)
    → StopLeaves g d file.connection conn (HasFile d file.owner given)
leaves_held g conn d file given holds settled clean others trees leaves = (
  left_alone g conn d file.owner given holds settled clean trees leaves,
  others_alone g conn d file.owner given holds settled clean trees leaves (trees_of g file.connection) others,
  sound_alone g conn d file.owner given holds settled clean trees leaves,
)

-- a save that leaves the connection as it is
module _ {S : Type 0} (g : Ghosts S) (file : StoreValue S) (given : SavedValue)
    (settled : LeavesCommitted g file.connection) where
  stays : (d : Layout) → HoldsFile g d file.connection file.owner file.last → HasCleanDisk (state g file.connection)
      → StopLeaves g d file.connection file.connection (HasFile d file.owner file.last)
  stays d holds clean =
      leaves_held g file.connection d file file.last holds settled clean
      (others_same d (trees_of g file.connection))

  stays_or : (d : Layout) → HoldsFile g d file.connection file.owner file.last → HasCleanDisk (state g file.connection)
      → StopLeaves g d file.connection file.connection
      (λ trees. HasFile d file.owner file.last trees ⊎ HasFile d file.owner given trees)
  stays_or d holds clean trees leaves = let it = stays d holds clean trees leaves in (inl it.0, it.1, it.2)

  pub stopped_before : {T : Type 0} → IsTrue file.stopped
      → HasSaved {T = T} g file file given (Err refusals.NodeStopped)
  stopped_before is = record {
    stopped = λ _. (refl, refl);
    fault = λ running. absurd (let it = is in cc);
    idle = λ running. absurd (let it = is in cc);
    same_own = refl;
    last = tt;
    is_state = λ _. tt;
    clean = λ clean. clean;
    limit = refl;
    undone = λ running. absurd (let it = is in cc);
    saved = λ _ _ _. tt;
    others = λ _ _ _ _. tt;
    stop = λ _ d holds clean. stays_or d holds clean;
    preserved = λ _ _ _ _. tt;
    restart = λ _ running. absurd (let it = is in cc);
  }

  pub saved_before : {T : Type 0} (x : T) → file.stopped ≡ false → file.last ≡ given
      → HasSaved g file file given (Ok x)
  saved_before x running same = record {
    stopped = λ is. absurd (let it = is in cc);
    fault = λ _. tt;
    idle = λ _ _. (refl, refl);
    same_own = refl;
    last = (same, running, running);
    is_state = λ is. subst IsState same is;
    clean = λ clean. clean;
    limit = refl;
    undone = λ _ _. tt;
    saved = λ _ d holds. (same, running, holds);
    others = λ _ d holds clean. others_same d (trees_of g file.connection);
    stop = λ _ d holds clean. stays_or d holds clean;
    preserved = λ _ d holds clean.
        subst (λ s. StopLeaves g d file.connection file.connection (HasFile d file.owner s)) same (stays d holds clean);
    restart = λ is _ d holds.
        restarts_none g file.connection d file.owner file.last given holds settled is;
  }

  pub not_begun : {T : Type 0} (last : SavedValue) → file.stopped ≡ false → ¬ (file.last ≡ given)
      → HasSaved {T = T} g file (record file { last = last; stopped = true }) given (Err refusals.StoreFault)
  not_begun last running other = record {
    stopped = λ is. absurd (let it = is in cc);
    fault = λ _. (refl, refl);
    idle = λ _ same. absurd (other same);
    same_own = refl;
    last = tt;
    is_state = λ _. tt;
    clean = λ clean. clean;
    limit = refl;
    undone = λ _ _. record {
      was_open = λ is. is;
      now = λ _. refl;
      committed = λ _. refl;
      mode = refl;
      closes = λ is. inl is;
    };
    saved = λ _ _ _. tt;
    others = λ _ _ _ _. tt;
    stop = λ _ d holds clean. stays_or d holds clean;
    preserved = λ _ _ _ _. tt;
    restart = λ is _ d holds.
        restarts_none g file.connection d file.owner file.last given holds settled is;
  }

-- a save that changes the rows after a front which both logs have in common, or fails to
module _ {S : Type 0} (g : Ghosts S) (file : StoreValue S) (held conn : Held S) (is : held ≡ file.connection)
    (last given : SavedValue) (front : ℕ) (running : file.stopped ≡ false) (other : ¬ (file.last ≡ given))
    (is_saved : IsSaved given) (within : front ≤ length given.log)
    (same : take front file.last.log ≡ take front given.log) (settled : LeavesCommitted g file.connection)
    (keeps : KeepsFaultsAndLimit (state g held) (state g conn)) (all : List RowStep)
    (save : AreOfSave file.owner file.last given front all) where
  abbrev Reported : Result Bool Error → Type 0
  Reported r = Transacts g held conn (StandsBefore missings.Nothing) (AreApt all) r (effects all)
      (AllByRecursion IsFitStep all) (SparesAll missings.Nothing all)

  clean : HasCleanDisk (state g conn) → HasCleanDisk (state g file.connection)
  clean late = subst (λ h. HasCleanDisk (state g h)) is (keeps.0 late)

  limit : (state g conn).step_limit ≡ (state g file.connection).step_limit
  limit = keeps.1 ∙ ap (λ h. (state g h).step_limit) is

  module _ (r : Result Bool Error) (reported : Reported r) where
    leaves_either : (d : Layout) → HoldsFile g d file.connection file.owner file.last → HasCleanDisk (state g conn)
        → StopLeaves g d file.connection conn
        (λ trees. HasFile d file.owner file.last trees ⊎ HasFile d file.owner given trees)
    leaves_either d holds =
        left_old_or_new g held file.connection conn is d file.owner file.last given front within same holds clean all
        save (AllByRecursion IsFitStep all) (SparesAll missings.Nothing all) r reported settled

    commits : Survives (state g file.connection) (state g conn) (λ _. FitsEntries (drop front given.log))
    commits =
        subst (λ h. Survives (state g h) (state g conn) (λ _. FitsEntries (drop front given.log))) is
        (survives_weaker (state g held) (state g conn) _ _ (λ _ trees fit. save.fits fit) reported.commits)

  pub failed : {T : Type 0} (r : Result Bool Error) → Reported r → (r ≡ Ok true → ⊥)
      → (HasCleanDisk (state g conn) → OnErr r (ShowsAsBefore (state g held) (state g conn)))
      → IfOk r (λ done. done ≡ false → conn ≡ held)
      → HasSaved {T = T} g file (record file { connection = conn; last = last; stopped = true }) given
      (Err refusals.StoreFault)
  failed r reported not undone busy = record {
    stopped = λ was. absurd (let it = was in cc);
    fault = λ _. (refl, refl);
    idle = λ _ was. absurd (other was);
    same_own = refl;
    last = tt;
    is_state = λ _. tt;
    clean = clean;
    limit = limit;
    undone = λ _ late. subst (λ h. ShowsAsBefore (state g h) (state g conn)) is
        (shown_undone _ _ _ r not (undone late) busy (ap (state g)));
    saved = λ _ _ _. tt;
    others = λ _ _ _ _. tt;
    stop = λ _ d holds. leaves_either r reported d holds;
    preserved = λ _ _ _ _. tt;
    restart = λ was _ d holds.
        restarts g file.connection conn d file.owner file.last given front same holds clean settled
        (commits r reported) (leaves_either r reported d holds) was is_saved;
  }

  pub changed : {T : Type 0} (x : T) (done : Bool) → IsTrue done → Reported (Ok done) → last ≡ given
      → LeavesCommitted g conn → HasSaved g file (record file { connection = conn; last = last }) given (Ok x)
  changed x done is_done reported is_last settled' =
      let holds' = λ (d : Layout) (holds : HoldsFile g d file.connection file.owner file.last).
      holds_new g held file.connection conn is d file.owner file.last given front within same holds clean all save
      (AllByRecursion IsFitStep all) (SparesAll missings.Nothing all) done is_done reported in
      record {
        stopped = λ was. absurd (let it = was in cc);
        fault = λ _. tt;
        idle = λ _ was. absurd (other was);
        same_own = refl;
        last = (is_last, running, running);
        is_state = λ was. record {
          saved = is_saved;
          entries = fit_both front given.log (subst FitsEntries same (fit_first front file.last.log was.entries))
              (save.fits (reported.fits is_done));
        };
        clean = clean;
        limit = limit;
        undone = λ _ _. tt;
        saved = λ _ d holds. (
          is_last,
          running,
          subst (λ s. HoldsFile g d conn file.owner s) (sym is_last) (holds' d holds).0,
        );
        others = λ _ d holds. (holds' d holds).1;
        stop = λ _ d holds. leaves_either (Ok done) reported d holds;
        preserved = λ _ d holds late.
            let it = holds' d holds in
            leaves_held g conn d file given it.0 settled' late (it.1 late);
        restart = λ was _ d holds.
            restarts g file.connection conn d file.owner file.last given front same holds clean settled
            (commits (Ok done) reported) (leaves_either (Ok done) reported d holds) was is_saved;
      }
