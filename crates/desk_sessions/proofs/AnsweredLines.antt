-- What a session writes for a line.
use Rattle.std.proofs.Common.{◌≡◌, ℕ, List, [], Result, Ok, Err, refl, append-nil, inl, inr}
use mathlib.Core.List.{IsPrefix}
use Rattle.desk_types.specs.declared.limits.TheConstants.{DOCUMENT_BYTES}
use Rattle.desk_types.specs.declared.command.Entry.{Entry}
use Rattle.desk_types.specs.declared.outcome.Outcome.{Outcome}
use Rattle.desk_types.specs.declared.outcome.Outcome.TheVariants as outcomes
use Rattle.desk_types.specs.declared.refusal.Refusal.{Refusal}
use Rattle.desk_types.specs.declared.refusal.Refusal.TheVariants as refusals
use Rattle.desk_published.specs.Reads.{HasFailedOnce}
use Rattle.desk_published.specs.declared.reported.ReportedWord.{ReportedWord}
use Rattle.desk_published.specs.declared.reported.ReportedWord.TheVariants as words
use Rattle.desk_eido.specs.declared.ask.Ask.{Ask}
use Rattle.desk_eido.specs.declared.ask.Ask.TheVariants as asks
use Rattle.desk_eido.specs.Reading.{ReadsAs, ask_on_line}
use Rattle.desk_eido.specs.ReplyLine.{line_of}
use Rattle.desk_sessions.specs.Exchanges.{Saying}
use Rattle.desk_sessions.specs.Sessions.{SessionStanding, AnswersAsk, GivesUpAnswer, ByWord, ByAnswer}
use Rattle.desk_sessions.specs.Lines.{AnswersLine, IsAnswerTo, LeadsWithoutMemory}

prefix_same : (old new : List Entry) → new ≡ old → IsPrefix old new
prefix_same old new e = rw e ([], append-nil old)

by_word : (domain : List ℕ) (e : Entry) (w : ReportedWord) (reported old new : List Entry) (Failed : Type 0)
    (o : Outcome) →
    ByWord domain e w reported old new Failed o → IsPrefix old new
by_word domain e (words.Refused r) reported old new Failed o h = prefix_same old new h.0
by_word domain e (words.Published n) reported old new Failed o h = h.0

by_answer : (domain : List ℕ) (e : Entry) (a : Result Saying Refusal) (old new : List Entry) (Failed : Type 0)
    (o : Outcome) →
    ByAnswer domain e a old new Failed o → IsPrefix old new
by_answer domain e (Ok s) old new Failed o h = by_word domain e s.word s.published old new Failed o h
by_answer domain e (Err r) old new Failed o h = prefix_same old new h.0

-- an answer that is thrown away
gives_up : (domain : List ℕ) (ask : Ask) (old new : SessionStanding) (o : Outcome) → AnswersAsk domain ask old new o →
    GivesUpAnswer ask old new
gives_up domain (asks.Show show) old new o (inl h, x) = (h.0, x)
gives_up domain (asks.Show show) old new o (inr h, x) = (prefix_same old.pass new.pass h.0, x)
gives_up domain (asks.Command e) old new o h = (
  by_answer domain e h.0 old.pass new.pass (HasFailedOnce old.failed_reads new.failed_reads) o h.2,
  inr (h.0, h.1),
)

lacks_still : (r : Result Ask Refusal) (s : SessionStanding) → LeadsWithoutMemory r s s
lacks_still (Ok (asks.Show show)) s = (prefix_same s.pass s.pass refl, refl)
lacks_still (Ok (asks.Command e)) s = (prefix_same s.pass s.pass refl, inl refl)
lacks_still (Err r) s = refl

pub answered : (domain line : List ℕ) (ask : Ask) (old new : SessionStanding) (o : Outcome) (text : List ℕ) →
    ask_on_line DOCUMENT_BYTES line ≡ Ok ask → AnswersAsk domain ask old new o → IsAnswerTo o text →
    AnswersLine domain old line text new
answered domain line ask old new o text r h (inl e) = (o, e, inl (rw r h))
answered domain line ask old new o text r h (inr e) =
    (outcomes.Document refusals.WantOfMemory, e, inr (refl, rw r (gives_up domain ask old new o h)))

pub wanted : (domain line : List ℕ) (ask : Ask) (old new : SessionStanding) → ask_on_line DOCUMENT_BYTES line ≡ Ok ask →
    GivesUpAnswer ask old new → AnswersLine domain old line (line_of (outcomes.Document refusals.WantOfMemory)) new
wanted domain line ask old new r h = (outcomes.Document refusals.WantOfMemory, refl, inr (refl, rw r h))

pub refused : (domain line : List ℕ) (r : Refusal) (s : SessionStanding) (text : List ℕ) →
    ReadsAs (Err r) (ask_on_line DOCUMENT_BYTES line) → IsAnswerTo (outcomes.Document r) text →
    AnswersLine domain s line text s
refused domain line r s text h (inr e) =
    (outcomes.Document refusals.WantOfMemory, e, inr (refl, lacks_still (ask_on_line DOCUMENT_BYTES line) s))
refused domain line refusals.WantOfMemory s text h (inl e) =
    (outcomes.Document refusals.WantOfMemory, e, inr (refl, lacks_still (ask_on_line DOCUMENT_BYTES line) s))
refused domain line r s text h (inl e) = (outcomes.Document r, e, inl (rw h (refl, refl)))
