-- What a node answers to the clients of its entries.
use Rattle.std.specs.Prelude.{◌≡◌, ◌≤◌, ℕ, zero, suc, ◌+◌, ◌-◌, List, [], ◌∷◌, ◌++◌, Option, Some, None}
use Rattle.desk_types.specs.declared.command.Entry.{Entry}
use Rattle.desk_types.specs.declared.outcome.Outcome.{Outcome}
use Rattle.desk_types.specs.declared.outcome.Outcome.TheVariants as outcomes
use Rattle.desk_types.specs.declared.reply.Reply.{Reply}
use Rattle.desk_log.specs.declared.answers.Answers.{Answers}
use Rattle.desk_log.specs.declared.answers.Answers.TheVariants.{Nothing, Replies, Repeat, Refusal}
use Rattle.desk_log.specs.Entries.{entry_at, latest}
use Rattle.desk_board.specs.Log.{reply_at}

-- an entry's answer: its client, its number and the reply
abbrev pub answer_of : Option Entry → Option Reply → List Outcome
answer_of None reply = []
answer_of (Some e) None = []
answer_of (Some e) (Some reply) = outcomes.Command e.client e.number reply ∷ []

-- the answer to the entry at a place
abbrev pub answer_at : List ℕ → List Entry → ℕ → List Outcome
answer_at domain log place = answer_of (entry_at log place) (reply_at domain log place)

-- the answers to so many entries after a place, in the order of places
abbrev pub answers_after : List ℕ → List Entry → ℕ → ℕ → List Outcome
answers_after domain log place zero = []
answers_after domain log place (suc count) =
    answers_after domain log place count ++ answer_at domain log (place + suc count)

-- What a rule answers, with the replies that a log's board gives.
abbrev pub outcomes_of : List ℕ → List Entry → Answers → List Outcome
outcomes_of domain log Nothing = []
outcomes_of domain log (Replies after upto) = answers_after domain log after (upto - after)
outcomes_of domain log (Repeat place) = answer_at domain log place
outcomes_of domain log (Refusal client number refusal) = outcomes.Node client number refusal ∷ []

-- At the place stands the latest entry of its client, and it is committed.
pub record IsCommittedLatest (log : List Entry) (commit place : ℕ) : Type 0 where
  pub client : ℕ
  pub latest_is : latest client log ≡ Some place
  pub within : place ≤ commit

-- What the board of the committed entries answers: the replies to the last of them, or that to a client's latest one.
abbrev pub IsAnswerable : List Entry → ℕ → Answers → Type 0
IsAnswerable log commit Nothing = Unit {0}
IsAnswerable log commit (Replies after upto) = (after ≤ upto) × (upto ≡ commit)
IsAnswerable log commit (Repeat place) = IsCommittedLatest log commit place
IsAnswerable log commit (Refusal client number refusal) = Unit {0}
