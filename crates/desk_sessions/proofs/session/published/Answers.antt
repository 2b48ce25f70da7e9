use Rattle.std.proofs.Common.{◌≡◌, ℕ, List, ◌++◌, Option, Some, None, MatchOption, inr, refl, sym, ap, subst, ◌∙◌}
use Rattle.std.proofs.Common.{append_assoc}
use mathlib.Core.List.{IsPrefix}
use Rattle.desk_published.specs.Reads.{HasFailedOnce}
use Rattle.desk_sessions.proofs.session.published.Goals as goal

-- What a reader's pass begins with it still begins with once the board was read.
begins_still : {A T : Type 0} (answer : Option T) (P : T → Type 0) (front old new : List A) → IsPrefix front old →
    MatchOption answer (new ≡ old) (λ t. IsPrefix old new × P t) → IsPrefix front new
begins_still None P front old new begins same = subst (IsPrefix front) (sym same) begins
begins_still (Some t) P front old new begins read =
    let more = read.0.0 in
    (begins.0 ++ more, sym (append_assoc front begins.0 more) ∙ ap (λ l. l ++ more) begins.1 ∙ read.0.1)

-- A read that gave no answer, of a reader that had learned before.
failed_once : {T : Type 0} (answer : Option T) (old mid new : ℕ) → answer ≡ None → mid ≡ old →
    MatchOption answer (HasFailedOnce mid new) (λ _. new ≡ mid) → HasFailedOnce old new
failed_once None old mid new none same failed = subst (λ n. HasFailedOnce n new) same failed
failed_once (Some t) old mid new none same failed = absurd (let no : ⊥ = cc none in no)

pub returns-in-Some-clause-preserved : goal.returns-in-Some-clause-preserved
returns-in-Some-clause-preserved g c =
    begins_still c.read-reader.result.1 _ _ _ _ c.learn-reader.ensures.pass c.read-reader.ensures.read

pub returns-in-Some-clause-reported : goal.returns-in-Some-clause-reported
returns-in-Some-clause-reported g c =
    begins_still c.read-reader.result.1 _ _ _ _ c.learn-reader.ensures.reported c.read-reader.ensures.read

pub returns-in-None-clause-preserved : goal.returns-in-None-clause-preserved
returns-in-None-clause-preserved g c =
    begins_still c.read-reader.result.1 _ _ _ _ c.learn-reader.ensures.pass c.read-reader.ensures.read

pub returns-in-None-clause-reported : goal.returns-in-None-clause-reported
returns-in-None-clause-reported g c =
    begins_still c.read-reader.result.1 _ _ _ _ c.learn-reader.ensures.reported c.read-reader.ensures.read

pub returns-in-None-clause-ok : goal.returns-in-None-clause-ok
returns-in-None-clause-ok g c = inr (
  rw (c.refused.ensures, c.client-client.ensures, c.number-number.ensures) refl,
  failed_once c.read-reader.result.1 _ _ _ c.in-None.is c.learn-reader.ensures.failed c.read-reader.ensures.failed,
)
