-- What a load of the object answers.
use Rattle.std.proofs.Common.{◌≡◌, ◌⊎◌, inl, inr, Result, Ok, Err, IsTrue, true, false, refl}
use Rattle.sqlite_trees.specs.Tree.{Trees}
use Rattle.sqlite_trees.specs.declared.store.Store.{Ghosts}
use Rattle.sqlite.specs.State.{HasCleanDisk, IsUnchanged}
use Rattle.sqlite.specs.Held.{Held, state}
use Rattle.desk_types.specs.declared.refusal.Refusal.{Refusal}
use Rattle.desk_types.specs.declared.refusal.Refusal.TheVariants as refusals
use Rattle.desk_log.specs.SavedValue.{SavedValue}
use Rattle.desk_naming.specs.Contents.{schema_of, trees_of}
use Rattle.desk_saved.specs.DeskTables.{Layout}
use Rattle.desk_saved.specs.File.{IsState, HasFile, HasNoState}
use Rattle.desk_saved.specs.Loading.{HasLoaded}
use Rattle.desk_naming.specs.AfterRefusal.{IsSettled, ShowsAsBefore}
use Rattle.desk_naming.specs.Reads.{RefusesRead, HasRead}
use Rattle.desk_saved.specs.SchemaRefusals.{IsDeskSchema}
use Rattle.desk_saved.specs.Store.{StoreValue}
use Rattle.desk_saved.proofs.SavedRows.{holds_still}

module _ {S : Type 0} (g : Ghosts S) (file : StoreValue S) where
  -- an object that had stopped before
  pub load_stopped : IsTrue file.stopped → HasLoaded g file file (Err refusals.NodeStopped)
  load_stopped is = record {
    stopped = λ _. (refl, refl);
    fault = λ running. absurd (let it = is in cc);
    cause = λ running. absurd (let it = is in cc);
    running_ok = λ _. tt;
    running_err = λ running. absurd (let it = is in cc);
    same_own = (refl, refl);
    limit = refl;
    left = λ _ d schema trees leaves. leaves;
    found = λ _ _ d schema. tt;
    none = λ running. absurd (let it = is in cc);
    same = λ _ _ d schema. tt;
    unchanged = λ running. absurd (let it = is in cc);
    holds = λ _ d holds. tt;
    holds_err = λ running. absurd (let it = is in cc);
    store_fault = λ running. absurd (let it = is in cc);
  }

  -- a running object, whose query leaves a connection
  module _ (running : file.stopped ≡ false) (conn : Held S) {T : Type 0} (r : Result T Refusal)
      (read : HasRead g file.connection conn IsDeskSchema r) where
    left : HasCleanDisk (state g conn) → (d : Layout) → schema_of g file.connection ≡ d.schema
        → (trees : Trees) → (state g conn).may_leave trees → (state g file.connection).may_leave trees
    left late d schema = read.left (d, schema) late

    pub loaded : (s : SavedValue) → (HasCleanDisk (state g conn) → (d : Layout)
        → schema_of g file.connection ≡ d.schema
        → IsState s × HasFile d file.owner s (trees_of g file.connection))
        → (HasCleanDisk (state g conn) → IsDeskSchema (schema_of g file.connection)
        → IsUnchanged (state g file.connection) (state g conn))
        → HasLoaded g file (record file { connection = conn }) (Ok s)
    loaded s found same = record {
      stopped = λ is. absurd (let it = is in cc);
      fault = λ _. tt;
      cause = λ _ _ d schema. tt;
      running_ok = λ _. running;
      running_err = λ _. tt;
      same_own = (refl, refl);
      limit = read.keeps.1;
      left = left;
      found = λ _. found;
      none = λ _ _ d schema. tt;
      same = λ _ late d schema. same late (d, schema);
      unchanged = λ _ _ d schema. tt;
      holds = λ _ d holds.
          holds_still g file.connection conn d file.owner file.last holds read.keeps.0
          (λ late schema. same late (d, schema));
      holds_err = λ _ d holds. tt;
      store_fault = λ _ _ d schema settled. tt;
    }

    pub not_loaded : (r : Refusal) → ¬ (r ≡ refusals.StoreFault)
        → (r ≡ refusals.WantOfMemory) ⊎ (r ≡ refusals.WrongFile)
        → (r ≡ refusals.WrongFile → HasCleanDisk (state g conn) → (d : Layout)
        → schema_of g file.connection ≡ d.schema
        → HasNoState d file.owner (trees_of g file.connection))
        → (HasCleanDisk (state g conn) → IsDeskSchema (schema_of g file.connection)
        → IsUnchanged (state g file.connection) (state g conn))
        → HasLoaded g file (record file { connection = conn }) (Err r)
    not_loaded r other kind none same = record {
      stopped = λ is. absurd (let it = is in cc);
      fault = λ _. (λ fault. absurd (other fault), inr kind);
      cause = λ _ _ d schema fault. absurd (other fault);
      running_ok = λ _. tt;
      running_err = λ _ _. running;
      same_own = (refl, refl);
      limit = read.keeps.1;
      left = left;
      found = λ _ _ d schema. tt;
      none = λ _ late d schema wrong. none wrong late d schema;
      same = λ _ _ d schema. tt;
      unchanged = λ _ late d schema _. same late (d, schema);
      holds = λ _ d holds. tt;
      holds_err = λ _ d holds _.
          holds_still g file.connection conn d file.owner file.last holds read.keeps.0
          (λ late schema. same late (d, schema));
      store_fault = λ _ _ d schema settled fault. absurd (other fault);
    }

    pub load_failed : (IsSettled (state g file.connection) → HasCleanDisk (state g conn)
        → IsDeskSchema (schema_of g file.connection) → ShowsAsBefore (state g file.connection) (state g conn))
        → (HasCleanDisk (state g conn) → IsDeskSchema (schema_of g file.connection)
        → RefusesRead g file.connection conn)
        → HasLoaded g file (record file { connection = conn; stopped = true }) (Err refusals.StoreFault)
    load_failed shows cause = record {
      stopped = λ is. absurd (let it = is in cc);
      fault = λ _. (λ _. refl, inl refl);
      cause = λ _ late d schema _. cause late (d, schema);
      running_ok = λ _. tt;
      running_err = λ _ other. absurd (other refl);
      same_own = (refl, refl);
      limit = read.keeps.1;
      left = left;
      found = λ _ _ d schema. tt;
      none = λ _ _ d schema wrong. absurd (let it = wrong in cc);
      same = λ _ _ d schema. tt;
      unchanged = λ _ _ d schema other. absurd (other refl);
      holds = λ _ d holds. tt;
      holds_err = λ _ d holds other. absurd (other refl);
      store_fault = λ _ late d schema settled _. shows settled late (d, schema);
    }
