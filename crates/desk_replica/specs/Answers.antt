-- What the sessions that wait hear of what is answered.
use Rattle.std.specs.Prelude.{◌≡◌, ℕ, ◌+◌, ◌-◌, ◌^◌, min, Bool, true, false, List, [], ◌∷◌, ◌++◌, Option, Some, None}
use Rattle.std.specs.Prelude.{option_to_list}
use Rattle.desk_types.specs.declared.outcome.Outcome.{Outcome}
use Rattle.desk_types.specs.declared.outcome.Outcome.TheVariants as outcomes
use Rattle.desk_types.specs.declared.refusal.Refusal.{Refusal}
use Rattle.desk_types.specs.declared.refusal.Refusal.TheVariants as refusals
use Rattle.desk_types.specs.declared.reply.Reply.{Reply}
use Rattle.desk_types.specs.declared.reply.Reply.TheVariants as replies
use Rattle.desk_replica.specs.declared.answer.Answer.{Answer}
use Rattle.desk_replica.specs.declared.answer.Answer.TheVariants.{Committed, Refused}

-- the place of the entry that a reply answers
abbrev pub place_of_reply : Reply → ℕ
place_of_reply (replies.Done place word incident) = place
place_of_reply (replies.Refused place refusal) = place

-- the greatest number of 64 bits
abbrev pub greatest_u64 : ℕ
greatest_u64 = 2 ^ 64 - 1

-- A place of a log, after so many entries of the logs before it. It stays at its greatest value.
abbrev pub place_after : ℕ → ℕ → ℕ
place_after base place = min (base + place) greatest_u64

-- What an outcome tells the session of its request: of a reply the place alone, after so many entries of past logs. A
-- document that was refused and a board that was shown tell none.
abbrev pub session_answer : ℕ → Outcome → Option Answer
session_answer base (outcomes.Document refusal) = None
session_answer base (outcomes.Command client number reply) =
    Some (Committed client number (place_after base (place_of_reply reply)))
session_answer base (outcomes.Node client number refusal) = Some (Refused client number refusal)
session_answer base (outcomes.Board client shown) = None

-- what outcomes tell sessions, in order
abbrev pub session_answers : ℕ → List Outcome → List Answer
session_answers base [] = []
session_answers base (outcome ∷ more) = option_to_list (session_answer base outcome) ++ session_answers base more

-- what an item answers: what these outcomes tell, and then an answer of the replica's own, where there is one
abbrev pub answers_with_own : ℕ → List Outcome → Option Answer → List Answer
answers_with_own base outcomes own = session_answers base outcomes ++ option_to_list own

-- It is one of the refusals that a node gives, whose copy takes no memory.
abbrev pub is_of_node : Refusal → Bool
is_of_node (refusals.NotPrimary view node) = true
is_of_node (refusals.Stale latest) = true
is_of_node refusals.BookFull = true
is_of_node _ = false

-- The answer is a refusal whose copy may take memory; no node gives such a one.
abbrev pub TakesMemory : Answer → Type 0
TakesMemory (Committed client number place) = ⊥
TakesMemory (Refused client number refusal) = is_of_node refusal ≡ false
