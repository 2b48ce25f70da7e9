-- Counts of failed calls, call after call.
use Rattle.std.proofs.Common.{◌≡◌, ℕ, Bool, List, Option, Result, Ok, Err, IfErr, MatchResult, inl, inr, refl, ap}
use Rattle.std.proofs.Common.{subst, ◌∙◌}
use Rattle.desk_types.specs.declared.refusal.Refusal.{Refusal}
use Rattle.desk_types.specs.declared.refusal.Refusal.TheVariants as refusals
use Rattle.desk_lines.specs.Lines.{HasCome}
use Rattle.desk_lines.specs.FailedCalls.{count_after_failure, NoneFailed, IsWritersFault, IsStreamsFault}
use Rattle.desk_lines.specs.FailedCalls.{GaveUp, IsWantOrHandlers}

-- something of a line has come
abbrev pub HoldsSome : List ℕ → Bool → Type 0
HoldsSome preserved is_long = (line : List ℕ) × HasCome preserved is_long line

-- a write after others of which none failed
pub written : {T : Type 0} (IsOther : Refusal → Type 0) (old mid new : Option ℕ) (r : Result T Refusal) → mid ≡ old →
    MatchResult r (λ _. new ≡ mid) (λ _. new ≡ count_after_failure mid) → IfErr r (λ e. e ≡ refusals.WriteFault) →
    MatchResult r (λ _. new ≡ old) (λ e. IsWritersFault IsOther e old new)
written IsOther old mid new (Ok x) preserved call fault = call ∙ preserved
written IsOther old mid new (Err e) preserved call fault = inl (fault, call ∙ ap count_after_failure preserved)

-- a fault of the writer, or another, after writes of which none failed
pub broken : (IsOther IsAny : Refusal → Type 0) (fault : Refusal) (old mid new : Option ℕ) →
    (IsOther fault → IsAny fault) → mid ≡ old → IsWritersFault IsOther fault mid new →
    IsWritersFault IsAny fault old new
broken IsOther IsAny fault old mid new any preserved (inl w) = inl (w.0, w.1 ∙ ap count_after_failure preserved)
broken IsOther IsAny fault old mid new any preserved (inr w) = inr (any w.0, w.1 ∙ preserved)

-- the other faults that can have ended a run may be told in other words
pub ended_as : {T : Type 0} (IsOther IsAny : Refusal → Type 0) → ((fault : Refusal) → IsOther fault → IsAny fault) →
    (reads reads' writes writes' : Option ℕ) (r : Result T Refusal) →
    MatchResult r (λ _. NoneFailed reads reads' writes writes')
    (λ e. IsStreamsFault IsOther e reads reads' writes writes') →
    MatchResult r (λ _. NoneFailed reads reads' writes writes')
    (λ e. IsStreamsFault IsAny e reads reads' writes writes')
ended_as IsOther IsAny any reads reads' writes writes' (Ok x) none = none
ended_as IsOther IsAny any reads reads' writes writes' (Err e) (inl read) = inl read
ended_as IsOther IsAny any reads reads' writes writes' (Err e) (inr rest) =
    inr (rest.0, broken IsOther IsAny e writes writes writes' (any e) refl rest.1)

module _ {S : Type 0} (gives_up : S → List ℕ → Refusal → S → Type 0) where
  -- lines were taken, or were the last, after reads and writes of which none failed
  pub taken : {T : Type 0} (reads reads' writes mid writes' : Option ℕ) (r : Result T Refusal) → reads' ≡ reads →
      mid ≡ writes →
      MatchResult r (λ _. writes' ≡ mid) (λ e. IsWritersFault (GaveUp gives_up) e mid writes') →
      MatchResult r (λ _. NoneFailed reads reads' writes writes')
      (λ e. IsStreamsFault (IsWantOrHandlers gives_up) e reads reads' writes writes')
  taken reads reads' writes mid writes' (Ok x) read preserved call = (read, call ∙ preserved)
  taken reads reads' writes mid writes' (Err e) read preserved call =
      inr (read, broken (GaveUp gives_up) (IsWantOrHandlers gives_up) e writes mid writes' inr preserved call)

  -- a read failed
  pub unread : (fault : Refusal) (reads mid reads' writes writes' : Option ℕ) → mid ≡ reads → writes' ≡ writes →
      fault ≡ refusals.ReadFault → reads' ≡ count_after_failure mid →
      IsStreamsFault (IsWantOrHandlers gives_up) fault reads reads' writes writes'
  unread fault reads mid reads' writes writes' preserved unwritten is call =
      inl (is, call ∙ ap count_after_failure preserved, unwritten)

  -- a flush failed
  pub unsent : (fault : Refusal) (reads reads' writes mid writes' : Option ℕ) → reads' ≡ reads → mid ≡ writes →
      fault ≡ refusals.WriteFault → writes' ≡ count_after_failure mid →
      IsStreamsFault (IsWantOrHandlers gives_up) fault reads reads' writes writes'
  unsent fault reads reads' writes mid writes' read preserved is call =
      inr (read, inl (is, call ∙ ap count_after_failure preserved))
