-- What items make of what a keeper does them to.
use Rattle.std.specs.Prelude.{◌≡◌, ◌⊎◌, ℕ, List, [], ◌∷◌, ◌++◌}
use Rattle.desk_types.specs.declared.epoch_packet.EpochPacket.{EpochPacket}
use Rattle.desk_mailbox.specs.declared.item.Item.{Item}
use Rattle.desk_replica.specs.declared.answer.Answer.{Answer}
use Rattle.desk_replica.specs.declared.replica.Replica.{Ghosts}

-- The item was done; or it was refused and counted, and there are no packets and no answers.
abbrev pub MeetsItem : {R : Type 0} → Ghosts R → R → Item → List (ℕ × EpochPacket) → List Answer → R → Type 0
MeetsItem g old item packets answers new =
    g.does old item packets answers new ⊎ ((packets ≡ []) × (answers ≡ []) × g.refuses old new)

-- So it is with items one after the other, and these are all packets and answers, in order.
abbrev pub MeetsItems : {R : Type 0} → Ghosts R → R → List Item → List (ℕ × EpochPacket) → List Answer → R → Type 0
MeetsItems g old [] packets answers new = (packets ≡ []) × (answers ≡ []) × (new ≡ old)
MeetsItems {R} g old (item ∷ more) packets answers new =
    (mid : R) × (first : List (ℕ × EpochPacket)) × (last : List (ℕ × EpochPacket))
    × (early : List Answer) × (late : List Answer) × (packets ≡ first ++ last) × (answers ≡ early ++ late)
    × MeetsItem g old item first early mid × MeetsItems g mid more last late new
