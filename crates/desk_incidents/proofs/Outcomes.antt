-- What comes of a verb where memory is refused, and incidents that are told by their parts.
use Rattle.std.proofs.Common.{◌≡◌, List, Result, Ok, Err, refl, sym, subst}
use Rattle.std.specs.Prelude.{Option, Some, None, IfOk, IsErrAnd}
use Rattle.desk_types.specs.Checks.{◌or_else◌, VerbOutcome}
use Rattle.desk_types.specs.declared.refusal.Refusal.{Refusal}
use Rattle.desk_types.specs.declared.refusal.Refusal.TheVariants.{WantOfMemory}
use Rattle.desk_types.specs.declared.reply.Done.{Done}
use Rattle.desk_incidents.specs.declared.incident.HasCall.{HasCall}
use Rattle.desk_incidents.specs.declared.incident.Incident.{Incident}
use Rattle.desk_incidents.specs.declared.incident.Linked.{Linked}
use Rattle.desk_incidents.specs.Checks.{IsCheckResult}
use Rattle.desk_incidents.specs.IncidentsValue.{IncidentsValue}

-- memory was refused, and what was there stands
pub memory_refused : {A : Type 0} (refusal : Option Refusal) (done : Done) (after old new : A)
    (r : Result Done Refusal) → IsErrAnd r (λ e. e ≡ WantOfMemory) → new ≡ old →
    VerbOutcome refusal done after old new r
memory_refused refusal done after old new (Ok d) h same = absurd h
memory_refused refusal done after old new (Err e) h same =
    subst (λ x. VerbOutcome refusal done after old new (Err x)) (sym h) same

-- the check of a verb failed
pub verb_refused : {A : Type 0} (refusal : Option Refusal) (done : Done) (after old : A) (x : Refusal)
    (r : Result Done Refusal) → IsErrAnd r (λ e. e ≡ x) → IsCheckResult {A = Done} refusal (Err x) →
    VerbOutcome refusal done after old old r
verb_refused refusal done after old x (Ok d) h failed = absurd h
verb_refused refusal done after old x (Err e) h failed =
    subst (λ z. VerbOutcome refusal done after old old (Err z)) (sym h) (at x failed)
  where
    at : (x : Refusal) → IsCheckResult {A = Done} refusal (Err x) → VerbOutcome refusal done after old old (Err x)
    at WantOfMemory k = refl
    at y k = (k, refl)

-- a check failed with the refusal of one of its parts
pub check_fails : {A : Type 0} (part whole : Option Refusal) (x : Refusal) (r : Result A Refusal) →
    IsErrAnd r (λ e. e ≡ x) → IsCheckResult {A = A} part (Err x) →
    ((y : Refusal) → part ≡ Some y → whole ≡ Some y) → IsCheckResult whole r
check_fails part whole x (Ok a) h failed tells = absurd h
check_fails {A = A} part whole x (Err e) h failed tells =
    subst (λ z. IsCheckResult {A = A} whole (Err z)) (sym h) (at x failed)
  where
    at : (x : Refusal) → IsCheckResult {A = A} part (Err x) → IsCheckResult {A = A} whole (Err x)
    at WantOfMemory k = tt
    at y k = tells y k

-- of two checks the first failed
pub first_fails : (one other : Option Refusal) (y : Refusal) → one ≡ Some y → (one or_else other) ≡ Some y
first_fails one other y h = rw h refl

-- of two checks the second failed
pub second_fails : (one other : Option Refusal) (y : Refusal) → one ≡ None → other ≡ Some y →
    (one or_else other) ≡ Some y
second_fails one other y h k = rw (h, k) refl

-- nothing is asked of what failed
pub no_result : {A E : Type 0} (P : A → Type 0) (Q : E → Type 0) (r : Result A E) → IsErrAnd r Q → IfOk r P
no_result P Q (Ok a) h = absurd h
no_result P Q (Err e) h = tt

-- incidents of these parts
abbrev pub incidents_value : List Incident → List HasCall → List Linked → IncidentsValue
incidents_value is hs ls = record { incidents = is; has_call = hs; linked = ls }

-- incidents of equal parts
pub of_parts : (is js : List Incident) (hs gs : List HasCall) (ls ms : List Linked) → is ≡ js → hs ≡ gs → ls ≡ ms →
    incidents_value is hs ls ≡ incidents_value js gs ms
of_parts is js hs gs ls ms e f g = rw (e, f, g) refl
