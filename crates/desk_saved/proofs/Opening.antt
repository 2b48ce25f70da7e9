-- What an open answers.
use Rattle.std.proofs.Common.{◌≡◌, ◌⊎◌, ◌∙◌, ℕ, List, [], Bool, true, false, Result, Ok, Err, OnErr, IfOk, inl, inr}
use Rattle.std.proofs.Common.{Some, IsTrue, refl, sym, subst, arith}
use Rattle.sqlite_trees.specs.Tree.{Trees}
use Rattle.sqlite_trees.specs.declared.store.Store.{Ghosts}
use Rattle.sqlite_catalog.specs.Listing.{IsSound}
use Rattle.sqlite.specs.State.{State, HasCleanDisk, IsLive, IsUnchanged, Survives}
use Rattle.sqlite.specs.declared.error.Error.{Error}
use Rattle.sqlite.specs.Held.{Held, state}
use Rattle.sqlite.proofs.StateLemmas.{survives_weaker}
use Rattle.desk_types.specs.declared.owner.Owner.{Owner}
use Rattle.desk_types.specs.declared.refusal.Refusal.{Refusal}
use Rattle.desk_types.specs.declared.refusal.Refusal.TheVariants as refusals
use Rattle.desk_log.specs.SavedValue.{SavedValue, initial_saved}
use Rattle.desk_naming.specs.Contents.{schema_of, trees_of}
use Rattle.desk_saved.specs.declared.changes.Missing.TheVariants as missings
use Rattle.desk_saved.specs.declared.steps.RowStep.{RowStep}
use Rattle.desk_saved.specs.Changes.{effects, AreApt, StandsBefore}
use Rattle.desk_saved.specs.Transactions.{Transacts}
use Rattle.desk_saved.specs.DeskTables.{Layout, StateRows, KeepsOthers, Saves, Changes, own_rows}
use Rattle.desk_saved.specs.File.{IsState, HasFile, HoldsFile, HasNoState, HasNoTable}
use Rattle.desk_saved.specs.NewTables.{Becomes, HasRoomForTables}
use Rattle.desk_saved.specs.Opening.{HasOpened, HasRefused, LeavesFirst, IsOpeningRefusal}
use Rattle.desk_naming.specs.AfterRefusal.{LeavesNoMore, ShowsAsBefore}
use Rattle.desk_saved.specs.Causes.{HasNoTransaction, HasOpeningCause}
use Rattle.desk_saved.specs.SchemaRefusals.{IsDeskSchema, IsRefusedBy}
use Rattle.desk_saved.proofs.DeskTables.{desk_tables, desk_not_none, tables_not_none, unnamed_of}
use Rattle.desk_saved.proofs.OldTables.{old_not_none, old_not_tables, old_not_desk}
use Rattle.desk_saved.proofs.LoadStateAnswers.{still_saved}
use Rattle.desk_saved.proofs.OneTransaction.{left_after, saved_after}
use Rattle.desk_saved.proofs.Settling.{no_clients}

-- a state shows what it shows
pub shows_same : (s : State) → ShowsAsBefore s s
shows_same s = record {
  was_open = λ open_. open_;
  now = λ _. refl;
  committed = λ _. refl;
  mode = refl;
  closes = λ open_. inl open_;
}

-- what leaves a state as it is leaves no more
survives_same : (s : State) (Commits : Trees → Type 0) → Survives s s Commits
survives_same s Commits = record {
  clean = omega arith;
  shield = λ h. h;
  counts = omega arith;
  limit = refl;
  closes = λ _ open_. inl open_;
  crash = λ _ trees leaves. inl leaves;
}

module _ {S : Type 0} (g : Ghosts S) (before : Held S) (owner : Owner) where
  -- a database whose schema says that it is none of the node's
  pub refused_at_once : (refusal : Refusal) → IsRefusedBy (schema_of g before) (Some refusal)
      → HasRefused g before owner before refusal
  refused_at_once refusal (inl (is, some, none, no_old)) = record {
    fault = inr (inr is);
    limit = refl;
    schema = record {
      other = λ _ _ _. (is, refl);
      referred = λ referred. absurd (none referred.tables);
      room = λ neither _. absurd (some neither);
    };
    unfit = λ _. some;
    no_state = λ both wrong clean d schema. absurd (none (desk_tables _ (d, schema)));
    no_old_state = λ old. absurd (no_old old);
    unchanged = λ _ _. inl refl;
    want_of_memory = λ want. absurd (let it = sym is ∙ want in cc);
    cause = λ fault. absurd (let it = sym is ∙ fault in cc);
    store_fault = λ fault. absurd (let it = sym is ∙ fault in cc);
    grown = λ old. absurd (no_old old);
    there = λ both clean trees leaves. leaves;
    made = λ neither. absurd (some neither);
  }
  refused_at_once refusal (inr (is, inl referred)) = record {
    fault = inr (inl is);
    limit = refl;
    schema = record {
      other = λ _ none _. absurd (none referred.tables);
      referred = λ _. (is, refl);
      room = λ neither _. absurd (tables_not_none _ referred.tables neither);
    };
    unfit = λ wrong. absurd (let it = sym is ∙ wrong in cc);
    no_state = λ both wrong. absurd (let it = sym is ∙ wrong in cc);
    no_old_state = λ old. absurd (old_not_tables _ old referred.tables);
    unchanged = λ _ _. inl refl;
    want_of_memory = λ want. absurd (let it = sym is ∙ want in cc);
    cause = λ _ _. inl (inr (inl referred));
    store_fault = λ _ _. shows_same (state g before);
    grown = λ old. absurd (old_not_tables _ old referred.tables);
    there = λ both clean trees leaves. leaves;
    made = λ neither. absurd (tables_not_none _ referred.tables neither);
  }
  refused_at_once refusal (inr (is, inr (neither, no_room))) = record {
    fault = inr (inl is);
    limit = refl;
    schema = record {
      other = λ some _ _. absurd (some neither);
      referred = λ referred. absurd (tables_not_none _ referred.tables neither);
      room = λ _ _. (is, refl);
    };
    unfit = λ wrong. absurd (let it = sym is ∙ wrong in cc);
    no_state = λ both wrong. absurd (let it = sym is ∙ wrong in cc);
    no_old_state = λ old. absurd (old_not_none _ old neither);
    unchanged = λ _ _. inl refl;
    want_of_memory = λ want. absurd (let it = sym is ∙ want in cc);
    cause = λ _ _. inl (inr (inr (inl (neither, no_room))));
    store_fault = λ _ _. shows_same (state g before);
    grown = λ old. absurd (old_not_none _ old neither);
    there = λ both clean trees leaves. leaves;
    made = λ _ open_ d becomes. survives_same (state g before) _;
  }

  -- a database with the schema of a desk
  module _ (desk : IsDeskSchema (schema_of g before)) (after : Held S)
      (limit : (state g after).step_limit ≡ (state g before).step_limit)
      (left : LeavesNoMore (state g before) (state g after)) where
    pub found : (last : SavedValue) → IsLive (state g before)
        → (IsTrue (state g before).is_open → (state g before).now ≡ (state g before).committed)
        → (state g before).in_transaction ≡ false
        → (HasCleanDisk (state g after) → (d : Layout) → schema_of g before ≡ d.schema
        → IsState last × HasFile d owner last (trees_of g before))
        → (HasCleanDisk (state g after) → IsUnchanged (state g before) (state g after))
        → HasOpened g before owner (record { connection = after; owner = owner; last = last; stopped = false })
    found last live settled free fits same = record {
      own = (refl, refl);
      limit = limit;
      whole = inl desk;
      there = λ both. record {
        holds = λ open_ d schema clean.
            still_saved (state g before) (state g after) d owner last (same clean) schema
            (fits clean d schema).1
            (subst (λ s. IsSound s (trees_of g before)) schema (live open_).0) (settled open_) free;
        fits = fits;
        same = same;
        left = left;
      };
      grown = λ old. absurd (old_not_desk _ old desk);
      made = λ neither. absurd (desk_not_none _ desk neither);
      only = λ some clean.
          let it = fits clean desk.0 desk.1 in
          inl (record { desk = desk.0; schema = desk.1; state = it.0; rows = it.1 });
    }

    pub not_found : (refusal : Refusal) → IsOpeningRefusal refusal
        → (refusal ≡ refusals.WrongFile → HasCleanDisk (state g after) → (d : Layout)
        → schema_of g before ≡ d.schema → HasNoState d owner (trees_of g before))
        → (refusal ≡ refusals.WrongFile → HasCleanDisk (state g after)
        → IsUnchanged (state g before) (state g after))
        → (refusal ≡ refusals.WantOfMemory → HasCleanDisk (state g after)
        → IsUnchanged (state g before) (state g after))
        → (refusal ≡ refusals.StoreFault → HasCleanDisk (state g after)
        → ShowsAsBefore (state g before) (state g after))
        → (refusal ≡ refusals.StoreFault → HasCleanDisk (state g after) → HasOpeningCause g before after)
        → HasRefused g before owner after refusal
    not_found refusal fault none unchanged want shows cause = record {
      fault = fault;
      limit = limit;
      schema = record {
        other = λ _ no_tables _. absurd (no_tables (desk_tables _ desk));
        referred = λ referred. absurd (referred.named (unnamed_of _ desk));
        room = λ neither _. absurd (desk_not_none _ desk neither);
      };
      unfit = λ _. desk_not_none _ desk;
      no_state = λ both wrong clean d schema. none wrong clean d schema;
      no_old_state = λ old. absurd (old_not_desk _ old desk);
      unchanged = λ wrong clean. inr (unchanged wrong clean);
      want_of_memory = λ is clean. inr (want is clean);
      cause = cause;
      store_fault = shows;
      grown = λ old. absurd (old_not_desk _ old desk);
      there = λ both. left;
      made = λ neither. absurd (desk_not_none _ desk neither);
    }

  -- a database with neither table
  module _ (neither : HasNoTable (schema_of g before)) (room : HasRoomForTables (schema_of g before))
      (after : Held S) (limit : (state g after).step_limit ≡ (state g before).step_limit)
      (left : LeavesFirst owner (state g before) (state g after)) where
    pub begun : (last : SavedValue) → last ≡ initial_saved
        → (IsTrue (state g before).is_open → (d : Layout) → Becomes (schema_of g before) d
        → HoldsFile g d after owner last)
        → (HasCleanDisk (state g after) → IsTrue (state g before).is_open → (d : Layout)
        → Becomes (schema_of g before) d → KeepsOthers d (trees_of g before) (trees_of g after))
        → HasOpened g before owner (record { connection = after; owner = owner; last = last; stopped = false })
    begun last first fresh others = record {
      own = (refl, refl);
      limit = limit;
      whole = inr (inr (neither, room));
      there = λ both. absurd (let there = both.0 in let gone = neither.0 in cc);
      grown = λ old. absurd (old_not_none _ old neither);
      made = λ _. record { fresh = fresh; others = others; first = first; left = left };
      only = λ some. absurd (some neither);
    }

    pub not_begun : (HasCleanDisk (state g after) → ShowsAsBefore (state g before) (state g after))
        → (HasCleanDisk (state g after) → HasOpeningCause g before after)
        → HasRefused g before owner after refusals.StoreFault
    not_begun shows cause = record {
      fault = inr (inl refl);
      limit = limit;
      schema = record {
        other = λ some _ _. absurd (some neither);
        referred = λ referred. absurd (tables_not_none _ referred.tables neither);
        room = λ _ no_room. absurd (no_room room);
      };
      unfit = λ wrong. absurd (let it = wrong in cc);
      no_state = λ both wrong. absurd (let it = wrong in cc);
      no_old_state = λ old. absurd (old_not_none _ old neither);
      unchanged = λ wrong. absurd (let it = wrong in cc);
      want_of_memory = λ want. absurd (let it = want in cc);
      cause = λ _ clean. cause clean;
      store_fault = λ _ clean. shows clean;
      grown = λ old. absurd (old_not_none _ old neither);
      there = λ both. absurd (let there = both.0 in let gone = neither.0 in cc);
      made = λ _. left;
    }

  -- a database with neither table, where memory was refused before anything was made
  pub not_tried : HasNoTable (schema_of g before) → HasRoomForTables (schema_of g before)
      → HasRefused g before owner before refusals.WantOfMemory
  not_tried neither room = record {
    fault = inl refl;
    limit = refl;
    schema = record {
      other = λ some _ _. absurd (some neither);
      referred = λ referred. absurd (tables_not_none _ referred.tables neither);
      room = λ _ no_room. absurd (no_room room);
    };
    unfit = λ wrong. absurd (let it = wrong in cc);
    no_state = λ both wrong. absurd (let it = wrong in cc);
    no_old_state = λ old. absurd (old_not_none _ old neither);
    unchanged = λ wrong. absurd (let it = wrong in cc);
    want_of_memory = λ _ _. inl (neither, refl);
    cause = λ fault. absurd (let it = fault in cc);
    store_fault = λ fault. absurd (let it = fault in cc);
    grown = λ old. absurd (old_not_none _ old neither);
    there = λ both. absurd (let there = both.0 in let gone = neither.0 in cc);
    made = λ _ open_ d becomes. survives_same (state g before) _;
  }

  abbrev no_rows : StateRows
  no_rows = record { own = []; entries = []; clients = [] }

  abbrev first_rows : StateRows
  first_rows = own_rows owner.id owner.n owner.domain 0 0 0 [] []

  -- The same, where a transaction makes the tables and the first row, of a connection under another name.
  module _ (given after : Held S) (same : given ≡ before) (neither : HasNoTable (schema_of g before))
      (room : HasRoomForTables (schema_of g before))
      (limit : (state g after).step_limit ≡ (state g given).step_limit) (live : IsLive (state g before))
      (all : List RowStep) (Fit Spared : Type 0) (apt : AreApt all no_rows)
      (made : effects all no_rows ≡ first_rows) where
    pub begun_by : (done : Bool) → IsTrue done
        → Transacts g given after (StandsBefore missings.All) (AreApt all) (Ok done) (effects all) Fit Spared
        → (last : SavedValue) → last ≡ initial_saved
        → HasOpened g before owner (record { connection = after; owner = owner; last = last; stopped = false })
    begun_by done is_done reported last first =
        begun neither room after (rw same at limit)
        (λ open_ d becomes. survives_weaker (state g before) (state g after) _ _ (λ _ trees h. h.0)
        (left_after g given before after same missings.All all Fit Spared d no_rows first_rows (becomes, refl) apt made
        open_ (live open_).0 (Ok done) reported))
        last first
        (λ open_ d becomes clean. rw first (subst (λ l. Saves d (state g after)
        (own_rows owner.id owner.n owner.domain 0 0 0 [] l)) (sym no_clients)
        (saved_after g given before after same missings.All all Fit Spared d no_rows first_rows (becomes, refl) apt made
        open_ (live open_).0 done is_done reported clean).0))
        (λ clean open_ d becomes.
        (saved_after g given before after same missings.All all Fit Spared d no_rows first_rows (becomes, refl) apt made
        open_ (live open_).0 done is_done reported clean).1)

    -- the same, where making them failed
    pub not_begun_by : (r : Result Bool Error)
        → Transacts g given after (StandsBefore missings.All) (AreApt all) r (effects all) Fit Spared
        → (HasCleanDisk (state g after) → ShowsAsBefore (state g given) (state g after))
        → (HasCleanDisk (state g after) → IsTrue (state g given).in_transaction ⊎ HasNoTransaction (state g after))
        → HasRefused g before owner after refusals.StoreFault
    not_begun_by r reported shows cause =
        not_begun neither room after (rw same at limit)
        (λ open_ d becomes. survives_weaker (state g before) (state g after) _ _ (λ _ trees h. h.0)
        (left_after g given before after same missings.All all Fit Spared d no_rows first_rows (becomes, refl) apt made
        open_ (live open_).0 r reported))
        (rw same at shows)
        (λ clean. elim ((rw same at cause) clean) [
          | inl open_ ↦ inl (inl open_)
          | inr none ↦ inr (inr none)
        ])

-- what was not done shows what was there before, after a fault too
pub shown_undone : {E : Type 0} (old new : State) (P : Type 0) (done : Result Bool E) → (done ≡ Ok true → ⊥)
    → OnErr done (ShowsAsBefore old new) → IfOk done (λ it. it ≡ false → P) → (P → new ≡ old)
    → ShowsAsBefore old new
shown_undone old new P (Err e) not undone busy same = undone
shown_undone old new P (Ok true) not undone busy same = absurd (not refl)
shown_undone old new P (Ok false) not undone busy same = rw (same (busy refl)) (shows_same old)
