-- What a replay answers.
use Rattle.std.specs.Prelude.{◌≡◌, ◌⊎◌, ℕ, ◌+◌, List, [], ◌∷◌, ◌++◌, length, if◌then◌else◌, take, Option, Some, None}
use Rattle.std.specs.Prelude.{Result, Ok, Err}
use Rattle.std.specs.Io.KnownBytes.{Appends}
use Rattle.desk_types.specs.declared.command.Entry.{Entry}
use Rattle.desk_types.specs.declared.limits.TheConstants.{DOCUMENT_BYTES}
use Rattle.desk_types.specs.declared.outcome.Outcome.{Outcome}
use Rattle.desk_types.specs.declared.outcome.Outcome.TheVariants as outcomes
use Rattle.desk_types.specs.declared.refusal.Refusal.{Refusal}
use Rattle.desk_types.specs.declared.refusal.Refusal.TheVariants as refusals
use Rattle.desk_types.specs.declared.reply.Reply.{Reply}
use Rattle.desk_eido.specs.declared.ask.Ask.{Ask}
use Rattle.desk_eido.specs.declared.ask.Ask.TheVariants as asks
use Rattle.desk_eido.specs.Reading.{ask_on_line}
use Rattle.desk_eido.specs.ReplyLine.{line_of}
use Rattle.desk_log.specs.declared.admission.Admission.{Admission}
use Rattle.desk_log.specs.declared.admission.Admission.TheVariants.{Append, Retry, Stale, Full}
use Rattle.desk_log.specs.Admission.{admission}
use Rattle.desk_board.specs.Execute.{execute}
use Rattle.desk_board.specs.Log.{board_of, reply_at}
use Rattle.desk_board.specs.Shown.{shown_on}
use Rattle.desk_replay.specs.BoardLog.{BoardLog, log_with_entry}
use Rattle.desk_lines.specs.Lines.{lines_of, is_skipped}

-- what comes of a line, and the log after it
pub record LineAnswer : Type 0 where
  pub outcome : Outcome
  pub after : BoardLog

-- this is the outcome, and this the log after it
abbrev pub AnswersAs : Outcome → BoardLog → LineAnswer → Type 0
AnswersAs outcome after a = (outcome ≡ a.outcome) × (after ≡ a.after)

-- an outcome that leaves the log as it is
abbrev pub same_log_answer : BoardLog → Outcome → LineAnswer
same_log_answer b outcome = record { outcome = outcome; after = b }

-- The entry takes the next place of the log, and the board's reply there is written.
abbrev pub append_answer : BoardLog → Entry → LineAnswer
append_answer b e = record {
  outcome = outcomes.Command e.client e.number (execute (board_of b.domain b.log) (length b.log + 1) e).1;
  after = log_with_entry b e;
}

-- The reply at the place of the client's latest entry is written again, whatever the command is. Each place of a log
-- has a reply; where there were none, the entry would be new.
abbrev pub retry_answer : BoardLog → Entry → Option Reply → LineAnswer
retry_answer b e (Some reply) = same_log_answer b (outcomes.Command e.client e.number reply)
retry_answer b e None = append_answer b e

-- what comes of a command, by what the log makes of it
abbrev pub admission_answer : BoardLog → Entry → Admission → LineAnswer
admission_answer b e Append = append_answer b e
admission_answer b e (Retry place) = retry_answer b e (reply_at b.domain b.log place)
admission_answer b e (Stale latest) = same_log_answer b (outcomes.Node e.client e.number (refusals.Stale latest))
admission_answer b e Full = same_log_answer b (outcomes.Node e.client e.number refusals.BookFull)

-- A show is shown the board of the log.
abbrev pub ask_answer : BoardLog → Ask → LineAnswer
ask_answer b (asks.Command e) = admission_answer b e (admission b.log e.client e.number)
ask_answer b (asks.Show show) =
    same_log_answer b (outcomes.Board show.client (shown_on (board_of b.domain b.log) show.subject))

-- what comes of what a line reads as
abbrev pub reading_answer : BoardLog → Result Ask Refusal → LineAnswer
reading_answer b (Ok ask) = ask_answer b ask
reading_answer b (Err refusal) = same_log_answer b (outcomes.Document refusal)

-- what comes of a line
unfoldable pub line_answer : BoardLog → List ℕ → LineAnswer
line_answer b line = reading_answer b (ask_on_line DOCUMENT_BYTES line)

-- The text is the reply to a line, and this the log after it.
abbrev pub IsReply : BoardLog → List ℕ → List ℕ → BoardLog → Type 0
IsReply b line text after = (text ≡ line_of (line_answer b line).outcome) × (after ≡ (line_answer b line).after)

-- Memory was refused at a line. The log is as it was; or the document was answered, and its reply line got no memory.
abbrev pub LacksMemory : BoardLog → List ℕ → Refusal → BoardLog → Type 0
LacksMemory b line refusal after =
    (refusal ≡ refusals.WantOfMemory) × ((after ≡ b) ⊎ (after ≡ (line_answer b line).after))

-- the reply lines of the lines that are not skipped
abbrev pub replies : BoardLog → List (List ℕ) → List ℕ
replies b [] = []
replies b (line ∷ lines) =
    if is_skipped line then replies b lines
    else line_of (line_answer b line).outcome ++ replies (line_answer b line).after lines

-- the reply lines of the lines of an input, on an empty log
unfoldable pub replies_to : List ℕ → List (List ℕ) → List ℕ
replies_to domain lines = replies (record { domain = domain; log = [] }) lines

-- the reply lines of a whole input
abbrev pub replay_text : List ℕ → List ℕ → List ℕ
replay_text domain input = replies_to domain (lines_of input)

-- known bytes grow by the reply lines of the first lines of an input, however many
abbrev pub AppendsReplies : Option (List ℕ) → Option (List ℕ) → List ℕ → List ℕ → Type 0
AppendsReplies old new domain input = (n : ℕ) × Appends old new (replies_to domain (take n (lines_of input)))
