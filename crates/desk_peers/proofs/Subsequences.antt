-- Some packets of a list, in their order, where one more comes.
use Rattle.std.proofs.Common.{◌≡◌, Bool, true, false, List, [], ◌∷◌, ◌++◌, length, ◌+◌, refl, sym, ap, ◌∙◌, append-nil}
use Rattle.std.proofs.Common.{arith}
use Rattle.std.proofs.lemmas.List.{length-append}
use Rattle.std.specs.List.{items_where_true}
use Rattle.desk_types.specs.declared.epoch_packet.EpochPacket.{EpochPacket}
use Rattle.desk_peers.specs.Outgoing.{IsSubsequence}

where_true_append : (bs cs : List Bool) (xs ys : List EpochPacket) → length bs ≡ length xs →
    items_where_true (bs ++ cs) (xs ++ ys) ≡ items_where_true bs xs ++ items_where_true cs ys
where_true_append [] cs [] ys h = refl
where_true_append [] cs (x ∷ xs) ys h = absurd (let no : ⊥ = omega (arith, h) in no)
where_true_append (b ∷ bs) cs [] ys h = absurd (let no : ⊥ = omega (arith, h) in no)
where_true_append (true ∷ bs) cs (x ∷ xs) ys h =
    ap (λ t. x ∷ t) (where_true_append bs cs xs ys (omega (arith, h)))
where_true_append (false ∷ bs) cs (x ∷ xs) ys h = where_true_append bs cs xs ys (omega (arith, h))

-- the lengths stay the same
one_longer : (bs : List Bool) (b : Bool) (xs : List EpochPacket) (x : EpochPacket) → length bs ≡ length xs →
    length (bs ++ b ∷ []) ≡ length (xs ++ x ∷ [])
one_longer bs b xs x h = length-append bs (b ∷ []) ∙ ap (λ n. n + 1) h ∙ sym (length-append xs (x ∷ []))

pub with_last : (some all : List EpochPacket) (m : EpochPacket) → IsSubsequence some all →
    IsSubsequence (some ++ m ∷ []) (all ++ m ∷ [])
with_last some all m h = (
  h.0 ++ true ∷ [],
  one_longer h.0 true all m h.1,
  ap (λ t. t ++ m ∷ []) h.2 ∙ sym (where_true_append h.0 (true ∷ []) all (m ∷ []) h.1),
)

pub without_last : (some all : List EpochPacket) (m : EpochPacket) → IsSubsequence some all →
    IsSubsequence some (all ++ m ∷ [])
without_last some all m h = (
  h.0 ++ false ∷ [],
  one_longer h.0 false all m h.1,
  h.2 ∙ sym (append-nil (items_where_true h.0 all)) ∙ sym (where_true_append h.0 (false ∷ []) all (m ∷ []) h.1),
)
