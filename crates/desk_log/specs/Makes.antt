-- That a rule's code does what its definition says.
use Rattle.std.specs.Prelude.{◌≡◌, List}
use Rattle.desk_types.specs.declared.packet.Message.{Message}
use Rattle.std.specs.Prelude.{ℕ}
use Rattle.desk_log.specs.declared.answers.Answers.{Answers}
use Rattle.desk_log.specs.Change.{Change}
use Rattle.desk_log.specs.SavedValue.{SavedValue}

-- The saved state, the packets and the answers are those of a change.
pub record Makes (c : Change) (saved : SavedValue) (packets : List (ℕ × Message)) (answers : Answers) : Type 0 where
  pub saved_is : saved ≡ c.saved
  pub packets_are : packets ≡ c.packets
  pub answers_are : answers ≡ c.answers
