-- What a session writes for the lines that it reads.
use Rattle.std.specs.Prelude.{◌≡◌, ◌⊎◌, ℕ, List, Result, Ok, Err}
use Rattle.desk_types.specs.declared.limits.TheConstants.{DOCUMENT_BYTES}
use Rattle.desk_types.specs.declared.outcome.Outcome.{Outcome}
use Rattle.desk_types.specs.declared.outcome.Outcome.TheVariants as outcomes
use Rattle.desk_types.specs.declared.refusal.Refusal.{Refusal}
use Rattle.desk_types.specs.declared.refusal.Refusal.TheVariants as refusals
use Rattle.desk_eido.specs.declared.ask.Ask.{Ask}
use Rattle.desk_eido.specs.Reading.{ask_on_line}
use Rattle.desk_eido.specs.ReplyLine.{line_of}
use Rattle.desk_sessions.specs.Sessions.{SessionStanding, AnswersAsk, GivesUpAnswer}

-- The text is the outcome's line, or that of want of memory.
abbrev pub IsAnswerTo : Outcome → List ℕ → Type 0
IsAnswerTo outcome text =
    (text ≡ line_of outcome) ⊎ (text ≡ line_of (outcomes.Document refusals.WantOfMemory))

-- what comes of what a line reads as
abbrev pub OfReading : List ℕ → Result Ask Refusal → SessionStanding → SessionStanding → Outcome → Type 0
OfReading domain (Ok ask) old new outcome = AnswersAsk domain ask old new outcome
OfReading domain (Err r) old new outcome = (new ≡ old) × (outcome ≡ outcomes.Document r)

-- where that leads if memory is refused
abbrev pub LeadsWithoutMemory : Result Ask Refusal → SessionStanding → SessionStanding → Type 0
LeadsWithoutMemory (Ok ask) old new = GivesUpAnswer ask old new
LeadsWithoutMemory (Err r) old new = new ≡ old

-- One outcome is written for a line: what comes of it, or want of memory. This is its line, and where it leads.
abbrev pub AnswersLine : List ℕ → SessionStanding → List ℕ → List ℕ → SessionStanding → Type 0
AnswersLine domain old line text new =
    (outcome : Outcome) × (text ≡ line_of outcome)
    × (OfReading domain (ask_on_line DOCUMENT_BYTES line) old new outcome
    ⊎ ((outcome ≡ outcomes.Document refusals.WantOfMemory)
    × LeadsWithoutMemory (ask_on_line DOCUMENT_BYTES line) old new))
