-- The putting end of one queue.
use Rattle.std.proofs.Common.{◌≡◌, Option, None, Some, refl, sym, subst}
use Rattle.desk_types.specs.declared.epoch_packet.EpochPacket.{EpochPacket}
use Rattle.desk_mailbox.specs.declared.sender.Sender.{Sender}
use Rattle.desk_mailbox.specs.Ends.{IsSameSender}
use Rattle.desk_peers.specs.Queues.{IsSameEnd}

pub same_some : (old : Option (Sender EpochPacket)) (sender back : Sender EpochPacket) → IsSameSender sender back →
    old ≡ Some sender → IsSameEnd old (Some back)
same_some old sender back h e = subst (λ o. IsSameEnd o (Some back)) (sym e) h

pub same_none : (old new : Option (Sender EpochPacket)) → old ≡ None → new ≡ None → IsSameEnd old new
same_none old new e f = rw (e, f) tt

-- an end is the same end as itself
pub same_self : (end : Option (Sender EpochPacket)) → IsSameEnd end end
same_self None = tt
same_self (Some sender) = (refl, refl)
