-- What contracts say of a replica's logs, and of its saves.
use Rattle.std.specs.Prelude.{◌≡◌, ◌⊎◌, ◌+◌, ◌++◌, ℕ, Bool, List, [], ◌∷◌, length}
use mathlib.Core.List.{IsPrefix}
use Rattle.desk_types.specs.declared.command.Entry.{Entry}
use Rattle.desk_types.specs.declared.owner.Owner.{Owner}
use Rattle.desk_types.specs.declared.epoch_packet.EpochPacket.{EpochPacket}
use Rattle.desk_types.specs.declared.refusal.Refusal.{Refusal}

-- of a replica: whose it is; which entries are the logs of its past, one after the other, and how many these are; the
-- log after them that another node reported to it, as long as not all of that is published, and what it has committed
-- after that; whether its state is the one that was saved last, in a store that has not failed; what it becomes by a
-- save, and by one that failed; what its store is to keep from one moment to a later one; what it becomes where it
-- forgets the log that was reported; whether it may begin the next epoch, and what it becomes where it begins it, for
-- which these packets go out; what it becomes where it prepares a beginning, or memory is refused for that, and whether
-- one is prepared; and what it becomes where one of the two fails by a refusal that ends it. A proof that entries are
-- its past has one value at most, and so has one that it is saved.
pub record Saving (R : Type 0) : Type 1 where
  pub owner : R → Owner
  pub stands : R → List Entry → Type 0
  pub base : R → ℕ
  pub reported : R → List Entry
  pub cut : R → List Entry
  pub is_saved : R → Type 0
  pub saves : R → R → Type 0
  pub fails : R → R → Type 0
  pub keeps : R → R → Type 0
  pub forgets : R → R → Type 0
  pub may_begin : R → Bool
  pub begins : R → List (ℕ × EpochPacket) → R → Type 0
  pub prepares : R → R → Type 0
  pub is_ready : R → Type 0
  pub stops : Refusal → R → R → Type 0
  pub stands_prop : (r : R) (past : List Entry) → IsProp (stands r past)
  pub saved_prop : (r : R) → IsProp (is_saved r)

-- what a replica has committed after the logs of its past: the log that was reported to it, and what follows that
abbrev pub after_base : {R : Type 0} → Saving R → R → List Entry
after_base s r = s.reported r ++ s.cut r

-- the one log, where it has entries, and else the other
abbrev pub entries_or : List Entry → List Entry → List Entry
entries_or [] other = other
entries_or (entry ∷ more) other = entry ∷ more

-- what is to be published after the logs of its past: the log that was reported to it, and once that is published what
-- it has committed after it
abbrev pub to_publish : {R : Type 0} → Saving R → R → List Entry
to_publish s r = entries_or (s.reported r) (s.cut r)

-- It is the same member of the same group. The logs of its past are as they were, and what it has committed after them
-- goes on; so does what is to be published, also where a log is reported to it.
pub record LogsGoOn {R : Type 0} (s : Saving R) (old new : R) : Type 0 where
  pub owner : s.owner new ≡ s.owner old
  pub base : s.base new ≡ s.base old
  pub after : IsPrefix (after_base s old) (after_base s new)
  pub next : IsPrefix (to_publish s old) (to_publish s new)
  pub stands : (past : List Entry) → s.stands old past → s.stands new past

-- All of the log that was reported to it is published: from then on that is the last log of its past. What it has
-- committed after it is as it was, and its state stays saved.
pub record ForgetsReported {R : Type 0} (s : Saving R) (old new : R) : Type 0 where
  pub owner : s.owner new ≡ s.owner old
  pub base : s.base new ≡ s.base old + length (s.reported old)
  pub reported : s.reported new ≡ []
  pub cut : s.cut new ≡ s.cut old
  pub stands : (past : List Entry) → s.stands old past → s.stands new (past ++ s.reported old)
  pub saved : s.is_saved old → s.is_saved new
  pub keeps : s.keeps old new

-- It began the next epoch, after all that it had committed of the one before: that is the last log of its past, and it
-- has committed nothing after it.
pub record BeginsEpoch {R : Type 0} (s : Saving R) (old new : R) : Type 0 where
  pub owner : s.owner new ≡ s.owner old
  pub none : s.reported old ≡ []
  pub base : s.base new ≡ s.base old + length (s.cut old)
  pub reported : s.reported new ≡ []
  pub cut : s.cut new ≡ []
  pub stands : (past : List Entry) → s.stands old past → s.stands new (past ++ s.cut old)

-- Its logs are as they were.
pub record HasSameLogs {R : Type 0} (s : Saving R) (old new : R) : Type 0 where
  pub owner : s.owner new ≡ s.owner old
  pub base : s.base new ≡ s.base old
  pub reported : s.reported new ≡ s.reported old
  pub cut : s.cut new ≡ s.cut old
  pub stands : (past : List Entry) → s.stands old past → s.stands new past

-- It is as it was, or forgot the log that was reported to it.
abbrev pub MayForget : {R : Type 0} → Saving R → R → R → Type 0
MayForget s old new = (new ≡ old) ⊎ s.forgets old new

-- It is as it was, or began the next epoch, for which these packets go out.
abbrev pub MayBegin : {R : Type 0} → Saving R → R → List (ℕ × EpochPacket) → R → Type 0
MayBegin s old packets new = ((packets ≡ []) × (new ≡ old)) ⊎ s.begins old packets new

-- It is as it was, or prepared a beginning, or memory was refused for that.
abbrev pub MayPrepare : {R : Type 0} → Saving R → R → R → Type 0
MayPrepare s old new = (new ≡ old) ⊎ s.prepares old new

-- What a keeper makes of a replica between two turns: it may begin the next epoch, for which these packets go out, and
-- it may prepare the beginning after that.
abbrev pub Advances : {R : Type 0} → Saving R → R → List (ℕ × EpochPacket) → R → Type 0
Advances {R} s old packets new = (begun : R) × MayBegin s old packets begun × MayPrepare s begun new

-- Its logs went on, and then it may have forgotten the log that was reported to it.
abbrev pub GoesOnAndForgets : {R : Type 0} → Saving R → R → R → Type 0
GoesOnAndForgets {R} s old new = (end : R) × LogsGoOn s old end × MayForget s end new

-- Its state is the one that was saved last, and what its store is to keep stood.
abbrev pub StaysSaved : {R : Type 0} → Saving R → R → R → Type 0
StaysSaved s old new = s.is_saved new × s.keeps old new
