-- What comes of a word that was given to its channel.
use Rattle.std.proofs.Common.{◌≡◌, ◌⊎◌, ◌∙◌, ap, inl, inr, Result, Ok, Err, IfErr}
use Rattle.crossbeam_channel.specs.Err.{try_send_message}
use Rattle.crossbeam_channel.specs.declared.err.TrySendError.{TrySendError}
use Rattle.crossbeam_channel.specs.declared.err.TrySendError.TheVariants as sends
use Rattle.desk_threads.specs.Waiting.{SessionValue, ReportedValue, with_unsent, after_send}

-- It went out, or it is kept as it was given.
pub sent_or_preserved : {T U : Type 0} (sent : Result U (TrySendError T)) (word : T) (value : T → ReportedValue)
    (old new : SessionValue) → new ≡ after_send sent value old → IfErr sent (λ e. try_send_message e ≡ word) →
    (new ≡ old) ⊎ (new ≡ with_unsent (value word) old)
sent_or_preserved (Ok u) word value old new is back = inl is
sent_or_preserved (Err (sends.Disconnected t)) word value old new is back = inl is
sent_or_preserved (Err (sends.Full t)) word value old new is back = inr (is ∙ ap (λ t. with_unsent (value t) old) back)
sent_or_preserved (Err (sends.OutOfMemory t)) word value old new is back =
    inr (is ∙ ap (λ t. with_unsent (value t) old) back)
