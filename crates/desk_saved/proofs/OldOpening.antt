-- What an open answers that finds the tables of version 1.
use Rattle.std.proofs.Common.{◌≡◌, ◌≢◌, inl, inr, ◌≤◌, Result, Ok, Err, IfOk, IfErr, map, ◌∷◌, [], IsTrue}
use Rattle.std.proofs.Common.{IsPermutation, refl, sym, subst, ◌∙◌}
use Rattle.sqlite_trees.specs.declared.store.Store.{Ghosts}
use Rattle.sqlite.specs.Effect.{Database, IsDatabase}
use Rattle.sqlite.specs.State.{HasCleanDisk, IsLive, IsUnchanged}
use Rattle.sqlite.specs.Held.{Held, state}
use Rattle.desk_types.specs.declared.owner.Owner.{Owner}
use Rattle.desk_types.specs.declared.refusal.Refusal.{Refusal}
use Rattle.desk_types.specs.declared.refusal.Refusal.TheVariants as refusals
use Rattle.desk_log.specs.SavedValue.{SavedValue}
use Rattle.desk_naming.specs.Contents.{schema_of, trees_of}
use Rattle.desk_saved.specs.DeskTables.{Layout, LogTables, KeepsOthers, shown_entry, versioned_row}
use Rattle.desk_naming.specs.Named.{shown_node}
use Rattle.desk_saved.specs.File.{HoldsFile, log_of, rows_from}
use Rattle.desk_saved.specs.Growth.{StandsToGrow, MayGrow, HasGrown, HasNotGrown}
use Rattle.desk_saved.specs.OldFile.{GrowsTo, HasOldRows, HasOldTables, HasOldFile, HasNoOldState, HasRoomForClients}
use Rattle.desk_saved.specs.OldFile.{IsGrown, IsOldState}
use Rattle.desk_saved.specs.Opening.{HasOpened, HasRefused, LeavesGrown, IsOpeningRefusal}
use Rattle.desk_naming.specs.AfterRefusal.{LeavesNoMore, ShowsAsBefore}
use Rattle.desk_saved.specs.Causes.{HasOpeningCause}
use Rattle.desk_saved.specs.Store.{StoreValue}
use Rattle.desk_saved.proofs.Growing.{same_node, same_entry}
use Rattle.desk_saved.proofs.OldTables.{old_not_none, old_not_all, old_not_tables}
use Rattle.desk_naming.proofs.Refusing.{shows_then}

-- what follows from each Ok, and from each Err
pub ok_so : {A E : Type 0} (r : Result A E) (P Q : A → Type 0) → ((a : A) → P a → Q a) → IfOk r P → IfOk r Q
ok_so (Ok a) P Q so h = so a h
ok_so (Err e) P Q so h = tt

pub err_so : {A E : Type 0} (r : Result A E) (P Q : E → Type 0) → ((e : E) → P e → Q e) → IfErr r P → IfErr r Q
err_so (Ok a) P Q so h = tt
err_so (Err e) P Q so h = so e h

fault_not_wrong : refusals.StoreFault ≢ refusals.WrongFile
fault_not_wrong e = cc

fault_not_want : refusals.StoreFault ≢ refusals.WantOfMemory
fault_not_want e = cc

wrong_not_want : refusals.WrongFile ≢ refusals.WantOfMemory
wrong_not_want e = cc

-- the rows were read, and nothing was made
module _ {S : Type 0} (g : Ghosts S) (before mid : Held S) (owner : Owner) (old : HasOldTables (schema_of g before))
    (limit : (state g mid).step_limit ≡ (state g before).step_limit)
    (left : LeavesNoMore (state g before) (state g mid)) where
  pub old_refused : (refusal : Refusal) → IsOpeningRefusal refusal
      → (refusal ≡ refusals.WrongFile → HasCleanDisk (state g mid) → (d : LogTables)
      → schema_of g before ≡ d.schema → HasNoOldState d owner (trees_of g before))
      → (refusal ≡ refusals.WrongFile → HasCleanDisk (state g mid) → IsUnchanged (state g before) (state g mid))
      → (refusal ≡ refusals.WantOfMemory → HasCleanDisk (state g mid) → IsUnchanged (state g before) (state g mid))
      → (refusal ≡ refusals.StoreFault → HasCleanDisk (state g mid) → ShowsAsBefore (state g before) (state g mid))
      → (refusal ≡ refusals.StoreFault → HasCleanDisk (state g mid) → HasOpeningCause g before mid)
      → HasRefused g before owner mid refusal
  old_refused refusal fault none unchanged want shows cause = record {
    fault = fault;
    limit = limit;
    schema = record {
      other = λ _ _ no_old. absurd (no_old old);
      referred = λ referred. absurd (old_not_tables _ old referred.tables);
      room = λ neither _. absurd (old_not_none _ old neither);
    };
    unfit = λ _. old_not_none _ old;
    no_state = λ all. absurd (old_not_all _ old all);
    no_old_state = λ other wrong clean. none wrong clean other.tables other.schema_is;
    unchanged = λ wrong clean. inr (unchanged wrong clean);
    want_of_memory = λ is clean. inr (want is clean);
    cause = cause;
    store_fault = shows;
    grown = λ other clean. inl left;
    there = λ all. absurd (old_not_all _ old all);
    made = λ neither. absurd (old_not_none _ old neither);
  }

  -- by a fault of the store, and as the rows are those of no saved state
  pub old_failed : (HasCleanDisk (state g mid) → ShowsAsBefore (state g before) (state g mid))
      → HasOpeningCause g before mid
      → HasRefused g before owner mid refusals.StoreFault
  old_failed shows cause = old_refused refusals.StoreFault (inr (inl refl)) (λ wrong. absurd (fault_not_wrong wrong))
      (λ wrong. absurd (fault_not_wrong wrong)) (λ want. absurd (fault_not_want want)) (λ _. shows)
      (λ _ _. cause)

  pub old_unfit : (HasCleanDisk (state g mid) → (d : LogTables) → schema_of g before ≡ d.schema
      → HasNoOldState d owner (trees_of g before))
      → (HasCleanDisk (state g mid) → IsUnchanged (state g before) (state g mid))
      → HasRefused g before owner mid refusals.WrongFile
  old_unfit none unchanged = old_refused refusals.WrongFile (inr (inr refl)) (λ _. none) (λ _. unchanged)
      (λ want. absurd (wrong_not_want want)) (λ fault. absurd (fault_not_wrong (sym fault)))
      (λ fault. absurd (fault_not_wrong (sym fault)))

  -- they are those of a saved state, and the table of the clients can be added
  module _ (last : SavedValue) (live : IsLive (state g before)) (room : HasRoomForClients (schema_of g before))
      (fits : HasCleanDisk (state g mid) → (d : LogTables) → schema_of g before ≡ d.schema
      → IsOldState last × HasOldFile d owner last (trees_of g before))
      (same : HasCleanDisk (state g mid) → IsUnchanged (state g before) (state g mid)) where
    now_is : HasCleanDisk (state g mid) → (state g mid).now ≡ (state g before).now
    now_is clean = (same clean).0.now_is

    rows_stand : HasCleanDisk (state g mid) → (d : Layout) → GrowsTo (schema_of g before) d
        → HasOldRows d (trees_of g before)
        (versioned_row 1 owner.id owner.n owner.domain last.view last.normal last.commit) (log_of last)
    rows_stand clean d grows =
        let file = (fits clean old.tables old.schema_is).1 in (
          subst (λ n. map shown_node (trees_of g before n)
              ≡ versioned_row 1 owner.id owner.n owner.domain last.view last.normal last.commit ∷ [])
              (same_node (schema_of g before) old d grows) file.0,
          subst (λ n. IsPermutation (rows_from 0 last.log) (map shown_entry (trees_of g before n)))
              (same_entry (schema_of g before) old d grows) file.1,
        )

    stands : HasCleanDisk (state g mid) → IsTrue (state g before).is_open → (d : Layout)
        → GrowsTo (schema_of g before) d → StandsToGrow d owner last (state g mid)
    stands clean open_ d grows = record {
      is_open = (same clean).0.is_open;
      sound = subst IsDatabase (sym (now_is clean)) (live open_).0;
      grows = subst (λ (db : Database). GrowsTo db.schema d) (sym (now_is clean)) grows;
      rows = subst (λ (db : Database). HasOldRows d db.trees
          (versioned_row 1 owner.id owner.n owner.domain last.view last.normal last.commit) (log_of last))
          (sym (now_is clean)) (rows_stand clean d grows);
    }

    grown_left : (after : Held S) → MayGrow g mid owner last after
        → LeavesGrown owner last (state g before) (state g after)
    grown_left after may late open_ d grows trees leaves =
        let clean = may.clean late in
        elim (may.left late d (stands clean open_ d grows) trees leaves) [
          | inl was ↦ inl (left clean trees was)
          | inr grown ↦ inr (subst (λ (db : Database). IsGrown d owner last db.trees trees) (now_is clean) grown)
        ]

    pub grown_opened : (file : StoreValue S) → HasGrown g mid owner last file → HasOpened g before owner file
    grown_opened file h =
        let is = sym h.own.1 in
        let clean = h.may.clean in
        record {
          own = (h.own.0, h.own.2);
          limit = h.may.limit ∙ limit;
          whole = inr (inl (old, room));
          there = λ all. absurd (old_not_all _ old all);
          grown = λ other. record {
            room = room;
            fits = λ late. subst (λ s. IsOldState s × HasOldFile other.tables owner s (trees_of g before)) is
                (fits (clean late) other.tables other.schema_is);
            holds = λ open_ d grows. subst (HoldsFile g d file.connection owner) is
                (λ late. (h.rows late d (stands (clean late) open_ d grows)).0);
            entries = λ late open_ d grows.
                subst (λ (db : Database). trees_of g file.connection d.entry.tree ≡ db.trees d.entry.tree)
                (now_is (clean late))
                (h.rows late d (stands (clean late) open_ d grows)).2;
            others = λ late open_ d grows.
                subst (λ (db : Database). KeepsOthers d db.trees (trees_of g file.connection)) (now_is (clean late))
                (h.rows late d (stands (clean late) open_ d grows)).1;
            left = subst (λ s. LeavesGrown owner s (state g before) (state g file.connection)) is
                (grown_left file.connection h.may);
          };
          made = λ neither. absurd (old_not_none _ old neither);
          only = λ _ late.
              let it = subst (λ s. IsOldState s × HasOldFile old.tables owner s (trees_of g before)) is
              (fits (clean late) old.tables old.schema_is) in
              inr (record { tables = old; state = it.0; rows = it.1 });
        }

    pub not_grown : (state g before).faults ≤ (state g mid).faults → (after : Held S) (refusal : Refusal)
        → HasNotGrown g mid owner last after refusal
        → HasRefused g before owner after refusal
    not_grown counts after refusal h =
        let clean = h.may.clean in
        let other_refusal : refusal ≢ refusals.WrongFile = λ wrong. elim h.fault [
          | inl want ↦ absurd (let it = sym want.0 ∙ wrong in cc)
          | inr fault ↦ absurd (let it = sym fault ∙ wrong in cc)
        ] in
        record {
          fault = elim h.fault [
            | inl want ↦ inl want.0
            | inr fault ↦ inr (inl fault)
          ];
          limit = h.may.limit ∙ limit;
          schema = record {
            other = λ _ _ no_old. absurd (no_old old);
            referred = λ referred. absurd (old_not_tables _ old referred.tables);
            room = λ neither _. absurd (old_not_none _ old neither);
          };
          unfit = λ _. old_not_none _ old;
          no_state = λ all. absurd (old_not_all _ old all);
          no_old_state = λ _ wrong. absurd (other_refusal wrong);
          unchanged = λ wrong. absurd (other_refusal wrong);
          want_of_memory = λ is late. elim h.fault [
            | inl want ↦ inr (subst (λ conn. IsUnchanged (state g before) (state g conn)) (sym want.1)
                (same (clean late)))
            | inr fault ↦ absurd (let it = sym fault ∙ is in cc)
          ];
          cause = λ is late. elim (h.cause is late) [
            | inl open_ ↦ inl (inl (subst IsTrue (same (clean late)).0.mode open_))
            | inr none ↦ inr (inr none)
          ];
          store_fault = λ _ late.
              shows_then (state g before) (state g mid) (state g after)
              (same (clean late)) counts (h.shows late);
          grown = λ other late. elim h.fault [
            | inl want ↦ inl (subst (λ conn. LeavesNoMore (state g before) (state g conn)) (sym want.1) left)
            | inr fault ↦ inr (
              fault,
              record {
                saved = last;
                room = room;
                fits = fits (clean late) other.tables other.schema_is;
                left = grown_left after h.may;
              },
            )
          ];
          there = λ all. absurd (old_not_all _ old all);
          made = λ neither. absurd (old_not_none _ old neither);
        }
