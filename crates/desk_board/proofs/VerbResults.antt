-- What settles the incidents or the units settles the board that holds them.
use Rattle.std.proofs.Common.{◌≡◌, Option, None, Result, Ok, Err, refl, ap}
use Rattle.desk_types.specs.Checks.{◌or_else◌, VerbOutcome}
use Rattle.desk_types.specs.declared.refusal.Refusal.{Refusal}
use Rattle.desk_types.specs.declared.refusal.Refusal.TheVariants.{WantOfMemory}
use Rattle.desk_types.specs.declared.reply.Done.{Done}
use Rattle.desk_incidents.specs.Checks.{IsCheckResult}
use Rattle.desk_incidents.specs.IncidentsValue.{IncidentsValue}
use Rattle.desk_units.specs.UnitsValue.{UnitsValue}
use Rattle.desk_board.specs.BoardValue.{BoardValue, incidents_in, units_in, with_incidents, with_units}

pub settles_incidents : (board : BoardValue) (check : Option Refusal) (did : Done) (after new : IncidentsValue)
    (result : Result Done Refusal) → VerbOutcome check did after (incidents_in board) new result →
    VerbOutcome check did (with_incidents after board) board (with_incidents new board) result
settles_incidents board check did after new (Ok given) h = (h.0, h.1, ap (λ c. with_incidents c board) h.2)
settles_incidents board check did after new (Err WantOfMemory) h = ap (λ c. with_incidents c board) h
settles_incidents board check did after new (Err refused) h = (h.0, ap (λ c. with_incidents c board) h.1)

pub settles_units : (board : BoardValue) (check : Option Refusal) (did : Done) (after new : UnitsValue)
    (result : Result Done Refusal) → VerbOutcome check did after (units_in board) new result →
    VerbOutcome check did (with_units after board) board (with_units new board) result
settles_units board check did after new (Ok given) h = (h.0, h.1, ap (λ c. with_units c board) h.2)
settles_units board check did after new (Err WantOfMemory) h = ap (λ c. with_units c board) h
settles_units board check did after new (Err refused) h = (h.0, ap (λ c. with_units c board) h.1)

-- the same after a check that passed
pub settles_after : {A : Type 0} (first rest : Option Refusal) (did : Done) (after old new : A)
    (result : Result Done Refusal) → first ≡ None → VerbOutcome rest did after old new result →
    VerbOutcome (first or_else rest) did after old new result
settles_after first rest did after old new result h k = rw h k

-- A check that failed refuses the verb.
pub settles_failed : {A : Type 0} (check : Option Refusal) (did : Done) (after old : A) (failed reported : Refusal)
    (result : Result Done Refusal) → IsCheckResult {A = Unit} check (Err failed) → result ≡ Err reported →
    reported ≡ failed → VerbOutcome check did after old old result
settles_failed check did after old failed reported result h e same = rw (e, same) (refused failed h)
  where
    refused : (r : Refusal) → IsCheckResult {A = Unit} check (Err r) → VerbOutcome check did after old old (Err r)
    refused WantOfMemory k = refl
    refused r k = (k, refl)

failed_first : (first rest : Option Refusal) (failed : Refusal) → IsCheckResult {A = Unit} first (Err failed) →
    IsCheckResult {A = Unit} (first or_else rest) (Err failed)
failed_first first rest WantOfMemory h = tt
failed_first first rest failed h = rw h refl

-- the same of the first of two checks, whatever the second says
pub settles_refused : {A : Type 0} (first rest : Option Refusal) (did : Done) (after old : A)
    (failed reported : Refusal)
    (result : Result Done Refusal) → IsCheckResult {A = Unit} first (Err failed) → result ≡ Err reported →
    reported ≡ failed → VerbOutcome (first or_else rest) did after old old result
settles_refused first rest did after old failed reported result h =
    settles_failed (first or_else rest) did after old failed reported result (failed_first first rest failed h)
