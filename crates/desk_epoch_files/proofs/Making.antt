-- What is known of a file that was opened, made or refused.
use Rattle.std.proofs.Common.{◌≡◌, inl, inr, List, ℕ, Bool, false, Result, Ok, Err, IsTrue, OnOk, IfErr, subst}
use Rattle.std.proofs.lemmas.Bool.{cases_Bool}
use Rattle.sqlite_trees.specs.declared.store.Store.{Ghosts}
use Rattle.sqlite.specs.State.{HasCleanDisk}
use Rattle.sqlite.specs.Held.{Held, state}
use Rattle.desk_types.specs.declared.owner.Owner.{Owner}
use Rattle.desk_types.specs.declared.refusal.Refusal.{Refusal}
use Rattle.desk_types.specs.declared.refusal.Refusal.TheVariants as refusals
use Rattle.desk_log.specs.SavedValue.{initial_saved}
use Rattle.desk_saved.specs.Opening.{HasOpened, HasRefused}
use Rattle.desk_saved.specs.Store.{StoreValue}
use Rattle.desk_file.specs.Unopened.{IsUnopened}
use Rattle.desk_epoch_files.specs.declared.cause.Cause.{Cause}
use Rattle.desk_epoch_files.specs.declared.open_error.OpenError.{OpenError}
use Rattle.desk_epoch_files.specs.Causes.{BlamesFile, unopened_refusal}
use Rattle.desk_file.specs.EpochTable.{ShowsEpoch}
use Rattle.desk_epoch_files.specs.Opening.{IsOthersFile, MakesNext, MayBeOthers}

-- a file is marked after it was opened, or was before
pub made_on : {S E : Type 0} (g : Ghosts S) (owner : Owner) (epoch : ℕ) (has_ended is_marked : Bool)
    (found asked last : Held S) (store : StoreValue S) → HasOpened g asked owner store →
    (HasCleanDisk (state g asked) → IsTrue is_marked → ShowsEpoch g found asked epoch) →
    (r : Result (Unit {0}) E) → OnOk r (has_ended ≡ false → store.last ≡ initial_saved) →
    OnOk r (is_marked ≡ false → HasCleanDisk (state g last) → (before : Held S) × ShowsEpoch g before last epoch) →
    OnOk r (MakesNext g owner epoch has_ended found)
made_on g owner epoch has_ended is_marked found asked last store opened before (Ok done) first marked =
    elim (cases_Bool is_marked) [
      | inl is ↦ record {
        asked = asked;
        store = store;
        opened = opened;
        first = first;
        last = asked;
        marked = λ clean. (found, before clean is);
      }
      | inr other ↦ record {
        asked = asked;
        store = store;
        opened = opened;
        first = first;
        last = last;
        marked = marked other;
      }
    ]
made_on g owner epoch has_ended is_marked found asked last store opened before (Err e) first marked = tt

-- what was made was found by its name
pub found_on : {H E : Type 0} (P Q : H → Type 0) (found : H) → P found → (r : Result (Unit {0}) E) → OnOk r (Q found) →
    OnOk r ((x : H) × P x × Q x)
found_on P Q found held (Ok done) made = (found, held, made)
found_on P Q found held (Err e) made = tt

-- what a file is refused for once its state was opened is that state
pub others_on : {S : Type 0} (g : Ghosts S) (owner : Owner) (epoch : ℕ) (found asked : Held S) (store : StoreValue S) →
    HasOpened g asked owner store → (r : Result (Unit {0}) Cause) →
    IfErr r (λ cause. BlamesFile cause → ¬ (store.last ≡ initial_saved)) →
    IfErr r (λ cause. BlamesFile cause → IsOthersFile g owner epoch found)
others_on g owner epoch found asked store opened (Ok done) used = tt
others_on g owner epoch found asked store opened (Err cause) used =
    λ blames. (asked, inr (inr (store, opened, used blames)))

-- what was refused was found by its name
pub refused_on : {H A : Type 0} (P Q : H → Type 0) (B : Cause → Type 0) (found : H) → P found →
    (r : Result A Cause) → IfErr r (λ cause. B cause → Q found) →
    IfErr r (λ cause. B cause → (x : H) × P x × Q x)
refused_on P Q B found held (Ok done) other = tt
refused_on P Q B found held (Err cause) other = λ blames. (found, held, other blames)

-- a file that may be found as another's after some calls may be found so before them
pub others_before : {S : Type 0} (g : Ghosts S) (owner : Owner) (old new : List ℕ → Held S → Type 0)
    (file : List ℕ) (epoch : ℕ) → ((at : List ℕ) → (c : Held S) → new at c → old at c) →
    MayBeOthers g owner new file epoch → MayBeOthers g owner old file epoch
others_before g owner old new file epoch same others = (others.0, same _ others.0 others.1, others.2)

-- the same where an error is the file's
pub errors_before : {S : Type 0} (g : Ghosts S) (owner : Owner) (old new : List ℕ → Held S → Type 0) (file : List ℕ)
    (epoch : ℕ) → ((at : List ℕ) → (c : Held S) → new at c → old at c) → (r : Result (Unit {0}) OpenError) →
    IfErr r (λ error. BlamesFile error.cause → MayBeOthers g owner new file epoch) →
    IfErr r (λ error. BlamesFile error.cause → MayBeOthers g owner old file epoch)
errors_before g owner old new file epoch same (Ok done) other = tt
errors_before g owner old new file epoch same (Err error) other =
    λ blames. others_before g owner old new file epoch same (other blames)

-- a state whose opening is refused as another's is that by the promise of an open
pub refused_as_others : {S : Type 0} (g : Ghosts S) (owner : Owner) (before after : Held S) (refusal : Refusal) →
    IsUnopened g before owner after refusal → unopened_refusal (Err refusal) ≡ refusals.WrongFile →
    HasRefused g before owner after refusals.WrongFile
refused_as_others g owner before after refusal (inl is) wrong =
    absurd (let it = subst (λ r. unopened_refusal (Err r) ≡ refusals.WrongFile) is.0 wrong in cc)
refused_as_others g owner before after refusal (inr refused) wrong = elim refused.fault [
  | inl is ↦ absurd (let it = subst (λ r. unopened_refusal (Err r) ≡ refusals.WrongFile) is wrong in cc)
  | inr (inl is) ↦ absurd (let it = subst (λ r. unopened_refusal (Err r) ≡ refusals.WrongFile) is wrong in cc)
  | inr (inr is) ↦ subst (λ r. HasRefused g before owner after r) is refused
]
