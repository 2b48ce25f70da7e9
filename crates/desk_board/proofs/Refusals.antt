-- What an entry that a check refuses does.
use Rattle.std.proofs.Common.{◌≡◌, ◌≢◌, ℕ, Option, Some, Result, Ok, Err, refl, ap, sym, subst, ◌∙◌}
use Rattle.std.specs.Result.{IfOk, OnErr}
use Rattle.std.proofs.lemmas.Result.{IfOk-weaker}
use Rattle.desk_types.specs.Checks.{VerbOutcome}
use Rattle.desk_types.specs.declared.command.Entry.{Entry}
use Rattle.desk_types.specs.declared.refusal.Refusal.{Refusal}
use Rattle.desk_types.specs.declared.refusal.Refusal.TheVariants.{WantOfMemory}
use Rattle.desk_types.specs.declared.reply.Done.{Done}
use Rattle.desk_types.specs.declared.reply.Reply.{Reply}
use Rattle.desk_types.specs.declared.reply.Reply.TheVariants as replies
use Rattle.desk_board.specs.BoardValue.{BoardValue}
use Rattle.desk_board.specs.Execute.{refusal, effect, done, step_of, step_with_row, request_at, execute}

-- A verb that failed, and not for memory, was refused by its checks.
refused_by_checks : {A : Type 0} (check : Option Refusal) (did : Done) (after old new : A) (failed : Refusal) →
    failed ≢ WantOfMemory → VerbOutcome check did after old new (Err failed) → (check ≡ Some failed) × (new ≡ old)
refused_by_checks check did after old new WantOfMemory other h = absurd (other refl)
refused_by_checks check did after old new failed other h = h

refused_step : (board old new : BoardValue) (place : ℕ) (e : Entry) (failed reported : Refusal) → old ≡ board →
    reported ≡ failed → reported ≢ WantOfMemory →
    VerbOutcome (refusal old e.command) (done place old e.command) (effect place old e.command) old new (Err failed) →
    step_with_row (request_at place e) (new, replies.Refused place reported) ≡ execute board place e
unfolding execute
refused_step board old new place e failed reported old_is same other h =
    let by = refused_by_checks (refusal old e.command) (done place old e.command) (effect place old e.command) old new
    failed (λ q. other (same ∙ q)) h in
    let check : refusal board e.command ≡ Some failed =
    subst (λ (b : BoardValue). refusal b e.command ≡ Some failed) old_is by.0 in
    ap (λ (b : BoardValue). step_with_row (request_at place e) (b, replies.Refused place reported)) (by.1 ∙ old_is)
    ∙ (ap (λ (r : Refusal). step_with_row (request_at place e) (board, replies.Refused place r)) same
    ∙ ap (λ (o : Option Refusal). step_with_row (request_at place e) (step_of place board e.command o)) (sym check))

-- The row with the refusal makes the entry's step, where the verb failed, and not for memory.
pub refused_entry : {E : Type 0} (result : Result Reply E) (last board old new : BoardValue) (place : ℕ) (e : Entry)
    (failed reported : Refusal) → old ≡ board → reported ≡ failed → reported ≢ WantOfMemory →
    VerbOutcome (refusal old e.command) (done place old e.command) (effect place old e.command) old new (Err failed) →
    IfOk result (λ reply. (last, reply) ≡ step_with_row (request_at place e) (new, replies.Refused place reported)) →
    IfOk result (λ reply. (last, reply) ≡ execute board place e)
refused_entry result last board old new place e failed reported old_is same other h =
    IfOk-weaker result (λ reply. (last, reply) ≡ step_with_row (request_at place e)
    (new, replies.Refused place reported))
    (λ reply. (last, reply) ≡ execute board place e)
    (λ reply is. is ∙ refused_step board old new place e failed reported old_is same other h)

same_on_err : {X E A : Type 0} (result : Result X E) (last new old : A) → new ≡ old → OnErr result (last ≡ new) →
    OnErr result (last ≡ old)
same_on_err (Ok x) last new old same h = tt
same_on_err (Err y) last new old same h = h ∙ same

-- Where its row is refused memory then, the board is as it was.
pub refused_entry_err : {E : Type 0} (result : Result Reply E) (last board old new : BoardValue) (place : ℕ) (e : Entry)
    (failed reported : Refusal) → old ≡ board → reported ≡ failed → reported ≢ WantOfMemory →
    VerbOutcome (refusal old e.command) (done place old e.command) (effect place old e.command) old new (Err failed) →
    OnErr result (last ≡ new) → OnErr result (last ≡ board)
refused_entry_err result last board old new place e failed reported old_is same other h =
    let by = refused_by_checks (refusal old e.command) (done place old e.command) (effect place old e.command) old new
    failed (λ q. other (same ∙ q)) h in
    same_on_err result last new board (by.1 ∙ old_is)
