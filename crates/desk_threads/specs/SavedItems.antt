-- Items of a replica that is saved.
use Rattle.std.specs.Prelude.{◌≡◌, ◌⊎◌, ℕ, List, [], ◌∷◌, ◌++◌}
use Rattle.desk_types.specs.declared.epoch_packet.EpochPacket.{EpochPacket}
use Rattle.desk_mailbox.specs.declared.item.Item.{Item}
use Rattle.desk_replica.specs.declared.answer.Answer.{Answer}
use Rattle.desk_replica.specs.declared.replica.Replica.{Ghosts}
use Rattle.desk_types.specs.declared.command.Entry.{Entry}
use Rattle.desk_threads.specs.Noted.{PublishesOn}
use Rattle.desk_threads.specs.Replicas.{MeetsItem, MeetsItems}
use Rattle.desk_replica.specs.Saving.{Saving, MayForget, Advances}

-- The item was done, and what it made was saved.
abbrev pub DoesAndSaves : {R : Type 0} → Ghosts R → Saving R → R → Item → List (ℕ × EpochPacket) → List Answer → R →
    Type 0
DoesAndSaves {R} g s old item packets answers new =
    (made : R) × g.does old item packets answers made × s.saves made new

-- The item was done, what it made was saved, and then the replica may have forgotten the log that was reported to it.
abbrev pub DoesAndForgets : {R : Type 0} → Ghosts R → Saving R → R → Item → List (ℕ × EpochPacket) → List Answer → R →
    Type 0
DoesAndForgets {R} g s old item packets answers new =
    (saved : R) × DoesAndSaves g s old item packets answers saved × MayForget s saved new

-- The item was refused and counted, and then the replica may have forgotten the log that was reported to it.
abbrev pub RefusesAndForgets : {R : Type 0} → Ghosts R → Saving R → R → R → Type 0
RefusesAndForgets {R} g s old new = (counted : R) × g.refuses old counted × MayForget s counted new

-- The item was done, and what it made was saved; or it was refused and counted.
abbrev pub StoresItem : {R : Type 0} → Ghosts R → Saving R → R → Item → R → Type 0
StoresItem {R} g s old item new =
    ((packets : List (ℕ × EpochPacket)) × (answers : List Answer) × DoesAndSaves g s old item packets answers new)
    ⊎ g.refuses old new

-- So it is with the item; from there what is published goes on, and then the replica may have forgotten the log that
-- was reported to it.
abbrev pub PublishesItem : {R : Type 0} → Ghosts R → Saving R → R → Item → List Entry → List Entry → R → Type 0
PublishesItem {R} g s old item shown shown_now new =
    (stored : R) × StoresItem g s old item stored × PublishesOn s stored shown shown_now × MayForget s stored new

-- The item was done, and what it made was not saved: the state of before was the one that was saved last, and the save
-- failed.
abbrev pub DoesAndFails : {R : Type 0} → Ghosts R → Saving R → R → Item → List (ℕ × EpochPacket) → List Answer → R →
    Type 0
DoesAndFails {R} g s old item packets answers new =
    (made : R) × g.does old item packets answers made × s.is_saved old × s.fails made new

-- So it is with items that were done or refused, in order.
abbrev pub MeetsAndFails : {R : Type 0} → Ghosts R → Saving R → R → List Item → R → Type 0
MeetsAndFails {R} g s old items new =
    (packets : List (ℕ × EpochPacket)) × (answers : List Answer) × (made : R)
    × MeetsItems g old items packets answers made × s.is_saved old × s.fails made new

-- The replica was saved, and then it may have forgotten the log that was reported to it.
abbrev pub SavesAndForgets : {R : Type 0} → Saving R → R → R → Type 0
SavesAndForgets {R} s made new = (saved : R) × s.saves made saved × MayForget s saved new

-- What an item made is as it was; or it was saved, and the keeper advanced it, for which these packets went out.
abbrev pub MaySave : {R : Type 0} → Saving R → R → List (ℕ × EpochPacket) → R → Type 0
MaySave {R} s made packets new =
    ((packets ≡ []) × (new ≡ made)) ⊎ ((end : R) × SavesAndForgets s made end × Advances s end packets new)

-- The items were done or refused, in order, and what each of them made may have been saved after it.
abbrev pub MeetsAndSaves : {R : Type 0} → Ghosts R → Saving R → R → List Item → List (ℕ × EpochPacket) →
    List Answer → R → Type 0
MeetsAndSaves g s old [] packets answers new = (packets ≡ []) × (answers ≡ []) × (new ≡ old)
MeetsAndSaves {R} g s old (item ∷ more) packets answers new =
    (made : R) × (mid : R) × (first : List (ℕ × EpochPacket)) × (between : List (ℕ × EpochPacket))
    × (last : List (ℕ × EpochPacket)) × (early : List Answer) × (late : List Answer)
    × (packets ≡ first ++ (between ++ last)) × (answers ≡ early ++ late)
    × MeetsItem g old item first early made × MaySave s made between mid × MeetsAndSaves g s mid more last late new
