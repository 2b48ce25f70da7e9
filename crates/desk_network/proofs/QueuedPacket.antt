-- What queues take of one packet.
use Rattle.std.proofs.Common.{◌≡◌, ◌≢◌, ◌==◌, ◌++◌, ◌∙◌, ℕ, Bool, true, false, if◌then◌else◌, List, [], ◌∷◌}
use Rattle.std.proofs.Common.{Option, refl, sym, ap, subst, append-nil}
use Rattle.std.proofs.lemmas.Bool.{eqb-true, eqb-false}
use Rattle.desk_types.specs.declared.epoch_packet.EpochPacket.{EpochPacket}
use Rattle.desk_mailbox.specs.declared.sender.Sender.{Sender}
use Rattle.desk_peers.specs.Outgoing.{IsSubsequence}
use Rattle.desk_peers.specs.Queues.{end_to, put_in, put_to, IsSameEnd}
use Rattle.desk_peers.proofs.Ends.{same_self}
use Rattle.desk_network.specs.Queued.{packets_for, HasQueued}

-- the packets for a node, of one that goes there, and of one that goes to another
one_here : (node to : ℕ) (packet : EpochPacket) → (to == node) ≡ true →
    packets_for node ((to, packet) ∷ []) ≡ packet ∷ []
one_here node to packet is = rw is refl

none_here : (node to : ℕ) (packet : EpochPacket) → (to == node) ≡ false → packets_for node ((to, packet) ∷ []) ≡ []
none_here node to packet is = rw is refl

-- what was put of one packet
put_or_lost : (old new : List EpochPacket) (packet : EpochPacket) (b : Bool) →
    new ≡ (if b then old ++ packet ∷ [] else old) →
    (put : List EpochPacket) × (new ≡ old ++ put) × IsSubsequence put (packet ∷ [])
put_or_lost old new packet true put = (packet ∷ [], put, (true ∷ [], refl, refl))
put_or_lost old new packet false put = ([], put ∙ sym (append-nil old), (false ∷ [], refl, refl))

-- One packet, at the node to which it goes and at any other.
queued_at : (old new : List (Option (Sender EpochPacket))) (to : ℕ) (packet : EpochPacket) (b : Bool) →
    put_to new to ≡ (if b then put_to old to ++ packet ∷ [] else put_to old to) →
    IsSameEnd (end_to old to) (end_to new to) →
    ((node : ℕ) → node ≢ to → end_to new node ≡ end_to old node) → (node : ℕ) (is : Bool) → (to == node) ≡ is →
    IsSameEnd (end_to old node) (end_to new node) × (put : List EpochPacket)
    × (put_to new node ≡ put_to old node ++ put) × IsSubsequence put (packets_for node ((to, packet) ∷ []))
queued_at old new to packet b put same others node true is =
    let here : to ≡ node = eqb-true to node is in
    let some = put_or_lost (put_to old to) (put_to new to) packet b put in (
      subst (λ n. IsSameEnd (end_to old n) (end_to new n)) here same,
      some.0,
      subst (λ n. put_to new n ≡ put_to old n ++ some.0) here some.1,
      subst (IsSubsequence some.0) (sym (one_here node to packet is)) some.2,
    )
queued_at old new to packet b put same others node false is =
    let stays = others node (λ e. eqb-false to node is (sym e)) in (
      subst (IsSameEnd (end_to old node)) (sym stays) (same_self (end_to old node)),
      [],
      ap put_in stays ∙ sym (append-nil (put_to old node)),
      subst (IsSubsequence []) (sym (none_here node to packet is)) ([], refl, refl),
    )

pub queued_one : (old new : List (Option (Sender EpochPacket))) (to : ℕ) (packet : EpochPacket) (b : Bool) →
    put_to new to ≡ (if b then put_to old to ++ packet ∷ [] else put_to old to) →
    IsSameEnd (end_to old to) (end_to new to) →
    ((node : ℕ) → node ≢ to → end_to new node ≡ end_to old node) → HasQueued old ((to, packet) ∷ []) new
queued_one old new to packet b put same others = λ node.
    queued_at old new to packet b put same others node (to == node) refl
