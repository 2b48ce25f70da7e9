-- What was put into queues was handed out.
use Rattle.std.proofs.Common.{◌≡◌, ◌==◌, ◌++◌, ◌∙◌, ℕ, Bool, true, false, List, [], ◌∷◌, map, refl, sym, subst}
use Rattle.std.proofs.Common.{⊎_elim}
use Rattle.std.specs.List.{AllByRecursion, Contains, items_where_true}
use Rattle.std.proofs.lemmas.Bool.{eqb-true}
use Rattle.std.proofs.lemmas.List.{append_cancel_left}
use Rattle.std.proofs.lemmas.List.Elements.{Contains-append_right}
use Rattle.desk_types.specs.declared.epoch_packet.EpochPacket.{EpochPacket}
use Rattle.desk_mailbox.specs.declared.item.Item.TheVariants as items
use Rattle.desk_peers.specs.Queues.{put_to}
use Rattle.desk_network.specs.Queued.{packets_for, HasQueued}
use Rattle.desk_network.specs.Putting.{QueueEnds}
use Rattle.desk_world.proofs.Packets.{Contains-here, Contains-there, Contains-none, Contains-cases}
use Rattle.desk_group.specs.Group.{WasHanded}
use Rattle.desk_refinement.specs.Nodes.{WasPut}
use Rattle.desk_refinement.specs.Groups.{QueuedMayBeTaken}

-- what is kept of a list stands in it
preserved_stands : (owned : List Bool) (all : List EpochPacket) (m : EpochPacket) →
    Contains (items_where_true owned all) m → Contains all m
preserved_stands [] all m c = absurd (Contains-none m c)
preserved_stands (b ∷ owned) [] m c = absurd (Contains-none m c)
preserved_stands (true ∷ owned) (x ∷ all) m c =
    ⊎_elim (λ e. subst (Contains (x ∷ all)) e (Contains-here x all))
    (λ r. Contains-there x all m (preserved_stands owned all m r))
    (Contains-cases x (items_where_true owned all) m c)
preserved_stands (false ∷ owned) (x ∷ all) m c = Contains-there x all m (preserved_stands owned all m c)

-- the packets for a node, of one that goes there and others, and of one that goes to another
goes_here : (node to : ℕ) (packet : EpochPacket) (more : List (ℕ × EpochPacket)) → (to == node) ≡ true →
    packets_for node ((to, packet) ∷ more) ≡ packet ∷ packets_for node more
goes_here node to packet more is = rw is refl

goes_on : (node to : ℕ) (packet : EpochPacket) (more : List (ℕ × EpochPacket)) → (to == node) ≡ false →
    packets_for node ((to, packet) ∷ more) ≡ packets_for node more
goes_on node to packet more is = rw is refl

-- a packet for a node was handed out for it
for_node : (node : ℕ) (packets : List (ℕ × EpochPacket)) (m : EpochPacket) → Contains (packets_for node packets) m →
    Contains packets (node, m)
for_node node [] m c = absurd (Contains-none m c)
for_node node ((to, packet) ∷ more) m c = by_test (for_node node more m) (to == node) refl
  where
    by_test : (Contains (packets_for node more) m → Contains more (node, m)) → (b : Bool) → (to == node) ≡ b →
        Contains ((to, packet) ∷ more) (node, m)
    by_test later true is =
        let here : to ≡ node = eqb-true to node is in
        ⊎_elim
        (λ e. subst (λ x. Contains ((to, packet) ∷ more) (x, m)) here
        (subst (λ x. Contains ((to, packet) ∷ more) (to, x)) e (Contains-here (to, packet) more)))
        (λ r. Contains-there (to, packet) more (node, m) (later r))
        (Contains-cases packet (packets_for node more) m
        (subst (λ ps. Contains ps m) (goes_here node to packet more is) c))
    by_test later false is =
        Contains-there (to, packet) more (node, m)
        (later (subst (λ ps. Contains ps m) (goes_on node to packet more is) c))

pub queued_was_handed : (old new : QueueEnds) (packets : List (ℕ × EpochPacket)) (sent : ℕ × EpochPacket) →
    HasQueued old packets new → WasPut old new sent → Contains packets sent
queued_was_handed old new packets (to, m) has (put, is, c) =
    let at = has to in
    let same : put ≡ at.1 = append_cancel_left (put_to old to) put at.1 (sym is ∙ at.2) in
    for_node to packets m
    (preserved_stands at.3.0 (packets_for to packets) m (subst (λ ps. Contains ps m) (same ∙ at.3.2) c))

each_was_handed : (handed : List (ℕ × EpochPacket)) (i : ℕ) (put : List EpochPacket) →
    ((m : EpochPacket) → Contains put m → Contains handed (i, m)) →
    AllByRecursion (WasHanded handed i) (map (λ p. items.Packet p) put)
each_was_handed handed i [] f = tt
each_was_handed handed i (m ∷ put) f =
    (f m (Contains-here m put), each_was_handed handed i put (λ x c. f x (Contains-there m put x c)))

pub queued_may_be_taken : QueuedMayBeTaken
queued_may_be_taken i old new handed packets put has is =
    each_was_handed (handed ++ packets) i put
    (λ m c. Contains-append_right handed packets (i, m)
    (queued_was_handed old new packets (i, m) has (put, is, c)))
