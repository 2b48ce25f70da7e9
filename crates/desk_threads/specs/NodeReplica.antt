-- A keeper's node as what its items are done to.
use Rattle.std.specs.Prelude.{◌≡◌, ℕ, List}
use Rattle.desk_types.specs.declared.epoch_packet.EpochPacket.{EpochPacket}
use Rattle.desk_log.specs.Entries.{IsLogPrefix}
use Rattle.desk_log.specs.SavedValue.{committed_entries}
use Rattle.desk_mailbox.specs.declared.item.Item.{Item}
use Rattle.desk_node.specs.NodeValue.{IsSameNode}
use Rattle.desk_replica.specs.declared.answer.Answer.{Answer}
use Rattle.desk_threads.specs.ItemAnswers.{AnswersSessions}
use Rattle.desk_threads.specs.OwnedValue.{OwnedValue, DoesItem, with_one_refused}

-- The node did an item, gave these answers, and is the same node.
abbrev pub NodeDoes : OwnedValue → Item → List (ℕ × EpochPacket) → List Answer → OwnedValue → Type 0
NodeDoes old item packets answers new =
    DoesItem old item packets new × AnswersSessions old item answers × IsSameNode old.node new.node

-- An item of the node was counted as refused.
abbrev pub NodeRefuses : OwnedValue → OwnedValue → Type 0
NodeRefuses old new = new ≡ with_one_refused old

-- The node is the same, and what it had committed stays committed.
abbrev pub NodeFollows : OwnedValue → OwnedValue → Type 0
NodeFollows old new =
    IsSameNode old.node new.node × IsLogPrefix (committed_entries old.node.saved) (committed_entries new.node.saved)
