-- What a keeper did with what it took.
use Rattle.std.specs.Prelude.{◌≡◌, ◌≢◌, ◌<◌, ◌≤◌, ◌⊎◌, ℕ, Bool, true, false, List, [], ◌∷◌, ◌++◌, map, flat_map, length}
use Rattle.std.specs.Prelude.{MatchBool}
use mathlib.Core.List.{IsPrefix}
use Rattle.desk_types.specs.declared.command.Entry.{Entry}
use Rattle.desk_types.specs.declared.epoch_packet.EpochPacket.{EpochPacket}
use Rattle.desk_types.specs.declared.refusal.Refusal.{Refusal}
use Rattle.desk_types.specs.declared.refusal.Refusal.TheVariants as refusals
use Rattle.desk_mailbox.specs.declared.item.Item.{Item}
use Rattle.desk_mailbox.specs.declared.item.Item.TheVariants as items
use Rattle.desk_mailbox.specs.declared.rule.SentItem.{SentItem}
use Rattle.desk_replica.specs.declared.answer.Answer.{Answer}
use Rattle.desk_threads.specs.declared.handing.Out.{Ghosts}
use Rattle.desk_replica.specs.declared.replica.Replica.{Ghosts as ReplicaGhosts}
use Rattle.desk_threads.specs.Replicas.{MeetsItems}
use Rattle.desk_threads.specs.SavedItems.{MeetsAndSaves, MeetsAndFails}
use Rattle.desk_threads.specs.Noted.{PublishesOn, replica_history}
use Rattle.desk_replica.specs.Saving.{Saving, MayForget, MayPrepare, Advances}
use Rattle.desk_threads.specs.Waiting.{SessionValue}
use Rattle.desk_threads.specs.EndingItems.{OnlyLastEnds}
use Rattle.desk_threads.specs.Telling.{TellsOfTurn, TellsOfStop}

-- the items alone
abbrev pub items_in : List (SentItem Item) → List Item
items_in sent = map (λ s. s.item) sent

-- The last of the items is a stop.
abbrev pub EndsInStop : List Item → Type 0
EndsInStop list = (before : List Item) × (list ≡ before ++ items.Stop ∷ [])

-- More was taken, and the last of it is a stop.
abbrev pub TookStop : List (SentItem Item) → List (SentItem Item) → Type 0
TookStop taken taken_now = (sent : List (SentItem Item)) × (taken_now ≡ taken ++ sent) × EndsInStop (items_in sent)

-- why a run ends: the item that it took last is a stop, or its last take found that no sender is left
abbrev pub HasRunOut : List (SentItem Item) → List (SentItem Item) → Bool → Type 0
HasRunOut taken taken_now no_sender_left = TookStop taken taken_now ⊎ (no_sender_left ≡ true)

-- More was taken; each item was done or refused, in order, with saves between them; and the packets of all went out, in
-- order.
abbrev pub Ran : {O R : Type 0} → Ghosts O → ReplicaGhosts R → Saving R → List (SentItem Item) → R → O →
    List (SentItem Item) → R → O → Type 0
Ran g h s taken replica out taken_now replica_now out_now =
    (sent : List (SentItem Item)) × (packets : List (ℕ × EpochPacket)) × (answers : List Answer)
    × (taken_now ≡ taken ++ sent) × MeetsAndSaves h s replica (items_in sent) packets answers replica_now
    × g.takes out packets out_now

-- where a keeper stands between two turns: its replica, the sessions that wait, what it has published, whether it says
-- that this is all that is committed, and what packets are handed to
pub record Stand (O R : Type 0) : Type 0 where
  pub replica : R
  pub waiting : List SessionValue
  pub published : List Entry
  pub all_published : Bool
  pub out : O

abbrev pub stand : {O R : Type 0} → R → List SessionValue → List Entry → Bool → O → Stand O R
stand replica waiting published all_published out = record {
  replica = replica;
  waiting = waiting;
  published = published;
  all_published = all_published;
  out = out;
}

-- A turn leads from here to there. It has one item at least and so many at most, and none but the last ends it. Its
-- items were done or refused, in order; what they made was saved, and then the replica may have forgotten the log that
-- was reported to it; what was published went on, within what the replica had committed when it was saved, after the
-- logs of its past, which were published before, and the keeper says whether it is all of that; their packets went out,
-- in order; and the sessions that wait heard of the items and of what was answered.
pub record TakesTurn {O R : Type 0} (g : Ghosts O) (h : ReplicaGhosts R) (s : Saving R) (most : ℕ) (turn : List Item)
    (old new : Stand O R) : Type 0 where
  pub some : 0 < length turn
  pub few : length turn ≤ most
  pub early : OnlyLastEnds turn
  pub packets : List (ℕ × EpochPacket)
  pub answers : List Answer
  pub made : R
  pub does : MeetsItems h old.replica turn packets answers made
  pub follows : h.follows old.replica made
  pub stored : R
  pub saved : s.saves made stored
  pub forgets : MayForget s stored new.replica
  pub gave : g.takes old.out packets new.out
  pub grows : IsPrefix old.published new.published
  pub publishes : PublishesOn s stored old.published new.published
  pub whole : MatchBool new.all_published (new.published ≡ replica_history s stored old.published)
      (new.published ≢ replica_history s stored old.published)
  pub reported : TellsOfTurn new.published turn answers old.waiting new.waiting

-- Between two turns the keeper advanced its replica, the packets of that went out, and nothing else changed. Where not
-- all that the replica has committed is published, it begins no epoch.
pub record AdvancesBetween {O R : Type 0} (g : Ghosts O) (s : Saving R) (old new : Stand O R) : Type 0 where
  pub packets : List (ℕ × EpochPacket)
  pub advances : Advances s old.replica packets new.replica
  pub waits : old.all_published ≡ false → (packets ≡ []) × MayPrepare s old.replica new.replica
  pub gave : g.takes old.out packets new.out
  pub waiting : new.waiting ≡ old.waiting
  pub published : new.published ≡ old.published
  pub all_published : new.all_published ≡ old.all_published

-- So do turns, one after the other, and after each the keeper advances.
abbrev pub TakesTurns : {O R : Type 0} → Ghosts O → ReplicaGhosts R → Saving R → ℕ → List (List (SentItem Item)) →
    Stand O R → Stand O R → Type 0
TakesTurns g h s most [] old new = old ≡ new
TakesTurns {O} {R} g h s most (turn ∷ more) old new =
    (end : Stand O R) × (mid : Stand O R) × TakesTurn g h s most (items_in turn) old end × AdvancesBetween g s end mid
    × TakesTurns g h s most more mid new

-- More was taken, all in such turns.
abbrev pub RanInTurns : {O R : Type 0} → Ghosts O → ReplicaGhosts R → Saving R → ℕ → List (SentItem Item) → Stand O R →
    List (SentItem Item) → Stand O R → Type 0
RanInTurns g h s most taken old taken_now new =
    (turns : List (List (SentItem Item))) × (taken_now ≡ taken ++ flat_map (λ turn. turn) turns)
    × TakesTurns g h s most turns old new

-- All that wait heard of a stop, and nothing else changed.
pub record IsStopped {O R : Type 0} (old new : Stand O R) : Type 0 where
  pub replica : new.replica ≡ old.replica
  pub out : new.out ≡ old.out
  pub published : new.published ≡ old.published
  pub all_published : new.all_published ≡ old.all_published
  pub reported : TellsOfStop old.published (items.Stop ∷ []) old.waiting new.waiting

-- More was taken, all in such turns. The last of it is a stop, and the last turn left the keeper as it is; or the last
-- take found that no sender is left, and then all that waited heard of a stop.
abbrev pub RanToEnd : {O R : Type 0} → Ghosts O → ReplicaGhosts R → Saving R → ℕ → List (SentItem Item) → Stand O R →
    List (SentItem Item) → Stand O R → Bool → Type 0
RanToEnd {O} {R} g h s most taken old taken_now new no_sender_left =
    (end : Stand O R) × RanInTurns g h s most taken old taken_now end
    × ((TookStop taken taken_now × (end ≡ new)) ⊎ ((no_sender_left ≡ true) × IsStopped end new))

-- The items are those of a last turn that was not saved, by this fault: at StoreFault they were done or refused before
-- the save that failed; at NodeStopped the replica is as it was.
pub record IsUnsaved {R : Type 0} (h : ReplicaGhosts R) (s : Saving R) (fault : Refusal) (turn : List Item)
    (old new : R) : Type 0 where
  pub made : fault ≡ refusals.StoreFault → MeetsAndFails h s old turn new
  pub unchanged : fault ≡ refusals.NodeStopped → new ≡ old

-- A last turn was taken that was not saved: nothing of it went out or was published, no session heard an answer, and
-- all that waited were refused.
pub record TakesLast {O R : Type 0} (h : ReplicaGhosts R) (s : Saving R) (most : ℕ) (fault : Refusal)
    (taken : List (SentItem Item)) (old : Stand O R) (taken_now : List (SentItem Item)) (new : Stand O R) : Type 0 where
  pub turn : List (SentItem Item)
  pub taken_is : taken_now ≡ taken ++ turn
  pub some : 0 < length turn
  pub few : length turn ≤ most
  pub early : OnlyLastEnds (items_in turn)
  pub silent : new.out ≡ old.out
  pub unpublished : new.published ≡ old.published
  pub reported : TellsOfStop old.published (items_in turn) old.waiting new.waiting
  pub unsaved : IsUnsaved h s fault (items_in turn) old.replica new.replica

-- The keeper could not begin the next epoch, or prepare a beginning, by this refusal: nothing of that went out or was
-- published, and all that waited were refused.
pub record StopsBetween {O R : Type 0} (s : Saving R) (fault : Refusal) (old new : Stand O R) : Type 0 where
  pub stops : s.stops fault old.replica new.replica
  pub silent : new.out ≡ old.out
  pub unpublished : new.published ≡ old.published
  pub reported : TellsOfStop old.published [] old.waiting new.waiting

-- A turn that begins with an item that was taken failed: its save did, by `StoreFault`, and nothing of it went out or
-- was published; or it was saved, and then the keeper could not advance, by this refusal.
abbrev pub FailsInTurn : {O R : Type 0} → Ghosts O → ReplicaGhosts R → Saving R → ℕ → Refusal → Item →
    List (SentItem Item) → Stand O R → List (SentItem Item) → Stand O R → Type 0
FailsInTurn {O} {R} g h s most fault item taken old taken_now new =
    (sent : List (SentItem Item)) × (taken_now ≡ taken ++ sent)
    × (((fault ≡ refusals.StoreFault) × (length sent < most) × OnlyLastEnds (item ∷ items_in sent)
    × (new.out ≡ old.out) × (new.published ≡ old.published)
    × TellsOfStop old.published (item ∷ items_in sent) old.waiting new.waiting
    × MeetsAndFails h s old.replica (item ∷ items_in sent) new.replica)
    ⊎ ((end : Stand O R) × (mid : Stand O R) × TakesTurn g h s most (item ∷ items_in sent) old end
    × AdvancesBetween g s end mid × StopsBetween s fault mid new))

-- by what a keeper that ran ends first: a save failed, or its replica was stopped by this refusal as it advanced
abbrev pub EndsFirstBy : {R : Type 0} → Saving R → Refusal → R → Type 0
EndsFirstBy {R} s fault new = (fault ≡ refusals.StoreFault) ⊎ ((old : R) × s.stops fault old new)

-- More was taken, in turns up to such a last one; or all was taken in turns, and then the keeper could not advance, by
-- this refusal.
abbrev pub RanToTurn : {O R : Type 0} → Ghosts O → ReplicaGhosts R → Saving R → ℕ → Refusal → List (SentItem Item) →
    Stand O R → List (SentItem Item) → Stand O R → Type 0
RanToTurn {O} {R} g h s most fault taken old taken_now new =
    (before : List (SentItem Item)) × (end : Stand O R) × RanInTurns g h s most taken old before end
    × (TakesLast h s most fault before end taken_now new ⊎ ((taken_now ≡ before) × StopsBetween s fault end new))

-- The last that was taken was not saved.
abbrev pub TakesLastItem : {O R : Type 0} → ReplicaGhosts R → Saving R → Refusal → List (SentItem Item) → Stand O R →
    List (SentItem Item) → Stand O R → Type 0
TakesLastItem h s fault before end taken_now new =
    (last : SentItem Item) × (taken_now ≡ before ++ last ∷ [])
    × IsUnsaved h s fault (last.item ∷ []) end.replica new.replica

-- More was taken; it ran so up to the last of it, and what the store is to keep stood till then. The last was not
-- saved, and nothing of it went out; or all of it ran so, and then the keeper could not advance, by this refusal.
abbrev pub RanToLast : {O R : Type 0} → Ghosts O → ReplicaGhosts R → Saving R → Refusal → List (SentItem Item) →
    Stand O R → List (SentItem Item) → Stand O R → Type 0
RanToLast {O} {R} g h s fault taken old taken_now new =
    (before : List (SentItem Item)) × (end : Stand O R)
    × Ran g h s taken old.replica old.out before end.replica new.out × s.keeps old.replica end.replica
    × (TakesLastItem h s fault before end taken_now new
    ⊎ ((taken_now ≡ before) × s.stops fault end.replica new.replica))
