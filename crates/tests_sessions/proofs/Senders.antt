-- Senders of one mailbox, whatever value its taker has.
use Rattle.std.proofs.Common.{All, List, sym, ◌∙◌}
use Rattle.desk_mailbox.specs.Ends.{SendsTo, IsSameTaker}
use Rattle.desk_mailbox.specs.declared.sender.Sender.{Sender}
use Rattle.desk_mailbox.specs.declared.taker.Taker.{Taker}

module _ {T : Type 0} where
  -- those who put into a taker's mailbox put into it when the taker has gone on
  pub still_send : (old new : Taker T) (senders : List (Sender T)) → IsSameTaker old new → All (SendsTo old) senders →
      All (SendsTo new) senders
  still_send old new senders same all k d lt = all k d lt ∙ sym same
