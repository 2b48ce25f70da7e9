-- What the items of a turn make of a keeper's replica, in memory.
use Rattle.std.specs.Prelude.{◌≡◌, ℕ, Bool, false, List, [], ◌∷◌, ◌++◌, Option, Result, MatchResult}
use Rattle.desk_types.specs.declared.refusal.Refusal.{Refusal}
use Rattle.desk_types.specs.declared.epoch_packet.EpochPacket.{EpochPacket}
use Rattle.desk_mailbox.specs.declared.item.Item.{Item}
use Rattle.desk_mailbox.specs.declared.rule.SentItem.{SentItem}
use Rattle.desk_replica.specs.declared.answer.Answer.{Answer}
use Rattle.desk_replica.specs.declared.item_step.ItemStep.{ItemStep}
use Rattle.desk_replica.specs.declared.replica.Replica.{Ghosts}
use Rattle.desk_replica.specs.EpochPackets.{packets_of_step}
use Rattle.desk_threads.specs.Replicas.{MeetsItems}
use Rattle.desk_replica.specs.Saving.{Saving}
use Rattle.desk_threads.specs.Waiting.{SessionValue}
use Rattle.desk_threads.specs.EndingItems.{NoneEnds, OnlyLastEnds}
use Rattle.desk_threads.specs.Runs.{items_in}
use Rattle.desk_threads.specs.Telling.{NotesItems}

-- the packets of steps, in order
abbrev pub packets_of_steps : List ItemStep → List (ℕ × EpochPacket)
packets_of_steps [] = []
packets_of_steps (s ∷ more) = packets_of_step s ++ packets_of_steps more

-- the answers of steps, in order
abbrev pub answers_of_steps : List ItemStep → List Answer
answers_of_steps [] = []
answers_of_steps (s ∷ more) = s.answers ++ answers_of_steps more

-- The items were met, in order, and the steps that they made stand after those before.
abbrev pub MetMore : {R : Type 0} → Ghosts R → R → List ItemStep → List Item → R → List ItemStep →
    Type 0
MetMore g owned steps list owned_now steps_now =
    (packets : List (ℕ × EpochPacket)) × (answers : List Answer)
    × (packets_of_steps steps_now ≡ packets_of_steps steps ++ packets)
    × (answers_of_steps steps_now ≡ answers_of_steps steps ++ answers)
    × MeetsItems g owned list packets answers owned_now

-- What items made of a replica was saved; or its save failed.
abbrev pub EndsInSave : {R A : Type 0} → Saving R → R → Result A Refusal → R → Type 0
EndsInSave s made outcome new = MatchResult outcome (λ saved. s.saves made new) (λ r. s.fails made new)

-- The items were met, in order, and what they made was saved, or its save failed.
abbrev pub MetAndSaved : {R A : Type 0} → Ghosts R → Saving R → R → List ItemStep → List Item → Result A Refusal → R →
    List ItemStep → Type 0
MetAndSaved {R} g s old steps list outcome new steps_now =
    (made : R) × MetMore g old steps list made steps_now × g.follows old made × EndsInSave s made outcome new

-- So it is with items that were taken.
abbrev pub TookMore : {R : Type 0} → Ghosts R → List (SentItem Item) → R → List ItemStep → List (SentItem Item) →
    List (SentItem Item) → R → List ItemStep → Type 0
TookMore g taken owned steps sent taken_now owned_now steps_now =
    (taken_now ≡ taken ++ sent) × MetMore g owned steps (items_in sent) owned_now steps_now

-- Whatever items made the sessions what they are, these came after them.
abbrev pub NotesMore : List (SentItem Item) → List SessionValue → Option Item → List SessionValue → Option Item → Type 0
NotesMore sent waiting late waiting_now late_now =
    (turn : List Item) (old : List SessionValue) → NotesItems turn old waiting late →
    NotesItems (turn ++ items_in sent) old waiting_now late_now

-- A turn has these items so far: none but the last ends it, nor does the last where the turn is not over.
abbrev pub IsTurnSoFar : List Item → Bool → Type 0
IsTurnSoFar turn over = OnlyLastEnds turn × (over ≡ false → NoneEnds turn)

-- Whatever items a turn had, it has these after them, and none was taken once it was over.
abbrev pub AddsToTurn : List (SentItem Item) → Bool → Bool → Type 0
AddsToTurn sent over over_now =
    (turn : List Item) → IsTurnSoFar turn over → IsTurnSoFar (turn ++ items_in sent) over_now
