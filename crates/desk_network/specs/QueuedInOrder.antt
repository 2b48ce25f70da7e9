-- What queues take: of no packets, of one, and of some and then others.
use Rattle.std.proofs.Common.{◌≡◌, ◌==◌, ◌++◌, ◌∙◌, ℕ, Bool, true, false, List, [], ◌∷◌, map}
use Rattle.std.proofs.Common.{length, arith, Option, None, Some, refl, sym, ap, subst, append_assoc, append-nil}
use Rattle.std.proofs.lemmas.List.{map-append}
use Rattle.std.proofs.lemmas.List.Elements.{filter-append}
use Rattle.std.specs.List.{filter, items_where_true}
use Rattle.desk_types.specs.declared.epoch_packet.EpochPacket.{EpochPacket}
use Rattle.desk_mailbox.specs.declared.sender.Sender.{Sender}
use Rattle.desk_peers.specs.Outgoing.{IsSubsequence}
use Rattle.desk_peers.specs.Queues.{end_to, put_to, IsSameEnd}
use Rattle.desk_peers.proofs.Ends.{same_self}
use Rattle.desk_peers.proofs.Subsequences.{with_last, without_last}
use Rattle.desk_network.specs.Queued.{packets_for, HasQueued}

pub queued_none : (ends : List (Option (Sender EpochPacket))) → HasQueued ends [] ends
queued_none ends = λ node. (same_self (end_to ends node), [], sym (append-nil (put_to ends node)), ([], refl, refl))

-- an end is the same as one that is the same as its own
same_then : (old mid new : Option (Sender EpochPacket)) → IsSameEnd old mid → IsSameEnd mid new → IsSameEnd old new
same_then None None new one more = more
same_then None (Some sender) new one more = absurd one
same_then (Some sender) None new one more = absurd one
same_then (Some sender) (Some mid) None one more = absurd more
same_then (Some sender) (Some mid) (Some new) one more = (more.0 ∙ one.0, more.1 ∙ one.1)

-- some of these, and then some of others
with_chosen : (chosen : List Bool) (more some all : List EpochPacket) → IsSubsequence some all →
    length chosen ≡ length more →
    IsSubsequence (some ++ items_where_true chosen more) (all ++ more)
with_chosen [] [] some all h e = rw (append-nil some, append-nil all) h
with_chosen [] (m ∷ more) some all h e = absurd (let no : ⊥ = omega (arith, e) in no)
with_chosen (k ∷ chosen) [] some all h e = absurd (let no : ⊥ = omega (arith, e) in no)
with_chosen (true ∷ chosen) (m ∷ more) some all h e =
    subst (λ t. IsSubsequence t (all ++ m ∷ more)) (append_assoc some (m ∷ []) (items_where_true chosen more))
    (subst (IsSubsequence ((some ++ m ∷ []) ++ items_where_true chosen more)) (append_assoc all (m ∷ []) more)
    (with_chosen chosen more (some ++ m ∷ []) (all ++ m ∷ []) (with_last some all m h) (omega (arith, e))))
with_chosen (false ∷ chosen) (m ∷ more) some all h e =
    subst (IsSubsequence (some ++ items_where_true chosen more)) (append_assoc all (m ∷ []) more)
    (with_chosen chosen more some (all ++ m ∷ []) (without_last some all m h) (omega (arith, e)))

with_others : (some all few more : List EpochPacket) → IsSubsequence some all → IsSubsequence few more →
    IsSubsequence (some ++ few) (all ++ more)
with_others some all few more h k =
    subst (λ t. IsSubsequence (some ++ t) (all ++ more)) (sym k.2) (with_chosen k.0 more some all h k.1)

-- the packets for a node, of some and then others
packets_then : (node : ℕ) (first last : List (ℕ × EpochPacket)) →
    packets_for node (first ++ last) ≡ packets_for node first ++ packets_for node last
packets_then node first last =
    ap (map (λ p. p.1)) (filter-append (λ p. p.0 == node) first last)
    ∙ map-append (λ p. p.1) (filter (λ p. p.0 == node) first) (filter (λ p. p.0 == node) last)

pub queued_then : (old mid new : List (Option (Sender EpochPacket))) (first last : List (ℕ × EpochPacket)) →
    HasQueued old first mid → HasQueued mid last new → HasQueued old (first ++ last) new
queued_then old mid new first last one more = λ node.
    let a = one node in
    let b = more node in (
      same_then (end_to old node) (end_to mid node) (end_to new node) a.0 b.0,
      a.1 ++ b.1,
      b.2 ∙ ap (λ t. t ++ b.1) a.2 ∙ append_assoc (put_to old node) a.1 b.1,
      subst (IsSubsequence (a.1 ++ b.1)) (sym (packets_then node first last))
          (with_others a.1 (packets_for node first) b.1 (packets_for node last) a.3 b.3),
    )
