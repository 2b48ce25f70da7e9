-- What a rule gives, and what the rules of a node share. In all of them the node is node i of n.
use Rattle.std.specs.Prelude.{ℕ, min, max, Bool, ◌&&◌, ◌==◌, nat_le, List, [], ◌∷◌, ◌++◌, length, take, map}
use Rattle.desk_types.specs.declared.command.Entry.{Entry}
use Rattle.desk_types.specs.declared.packet.Message.{Message}
use Rattle.desk_types.specs.declared.packet.Message.TheVariants.{PrepareOk}
use Rattle.desk_types.specs.declared.refusal.Refusal.{Refusal}
use Rattle.desk_types.specs.Lists.{others_below}
use Rattle.desk_types.specs.SameEntries.{same_entries}
use Rattle.desk_log.specs.declared.answers.Answers.{Answers}
use Rattle.desk_log.specs.declared.answers.Answers.TheVariants as answers
use Rattle.desk_log.specs.Quorum.{primary}
use Rattle.desk_log.specs.SavedValue.{SavedValue, committed_entries, with_commit}

-- the new saved state, the packets that the node takes in, those that it sends, each with its receiver, and what it
-- answers to clients
pub record Change : Type 0 where
  pub saved : SavedValue
  pub taken : List Message
  pub packets : List (ℕ × Message)
  pub answers : Answers

-- Nothing changes, and nothing is sent or answered.
abbrev pub nothing : SavedValue → Change
nothing saved = record { saved = saved; taken = []; packets = []; answers = answers.Nothing }

-- One packet is sent.
abbrev pub one_packet : SavedValue → ℕ → Message → Change
one_packet saved to packet = record {
  saved = saved;
  taken = [];
  packets = (to, packet) ∷ [];
  answers =
      answers.Nothing;
}

-- A request is refused.
abbrev pub one_refusal : SavedValue → Entry → Refusal → Change
one_refusal saved entry refusal =
    record { saved = saved; taken = []; packets = []; answers = answers.Refusal entry.client entry.number refusal }

-- A change, after these packets were taken in and those sent.
abbrev pub change_after : List Message → List (ℕ × Message) → Change → Change
change_after taken packets c =
    record { saved = c.saved; taken = taken ++ c.taken; packets = packets ++ c.packets; answers = c.answers }

abbrev pub is_normal : SavedValue → Bool
is_normal saved = saved.normal == saved.view

-- the normal primary of its view
abbrev pub leads : ℕ → ℕ → SavedValue → Bool
leads i n saved = is_normal saved && (i == primary n saved.view)

-- one packet to each other node
unfoldable pub to_others : ℕ → ℕ → Message → List (ℕ × Message)
to_others i n packet = map (λ j. (j, packet)) (others_below i n)

-- The commit rises to a place, or to the last place of the log where that is less, and never falls.
abbrev pub commit_up_to : ℕ → SavedValue → SavedValue
commit_up_to k s = with_commit (max s.commit (min k (length s.log))) s

-- Normal in a view, with a log in the place of its own, of which it commits up to a place.
abbrev pub with_log : ℕ → List Entry → ℕ → SavedValue → SavedValue
with_log view log k s = record { view = view; normal = view; log = log; commit = max s.commit (min k (length log)) }

-- whether the committed entries are the first ones of a log
abbrev pub keeps_committed : SavedValue → List Entry → Bool
keeps_committed s log = nat_le s.commit (length log) && same_entries (committed_entries s) (take s.commit log)

-- The node takes the log of a view in which it is not the primary, and acknowledges it.
unfoldable pub adoption : ℕ → ℕ → SavedValue → ℕ → ℕ → List Entry → Change
adoption i n saved view commit log =
    one_packet (with_log view log commit saved) (primary n view) (PrepareOk i view (length log))
