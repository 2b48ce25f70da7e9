-- What a keeper does between two turns, and what that makes of the turns before it.
use Rattle.std.proofs.Common.{◌≡◌, ◌++◌, inl, inr, ℕ, Bool, false, List, [], ◌∷◌, refl, sym, ◌∙◌, subst}
use Rattle.desk_types.specs.declared.epoch_packet.EpochPacket.{EpochPacket}
use Rattle.desk_types.specs.declared.refusal.Refusal.{Refusal}
use Rattle.desk_mailbox.specs.declared.item.Item.{Item}
use Rattle.desk_mailbox.specs.declared.rule.SentItem.{SentItem}
use Rattle.desk_replica.specs.declared.replica.Replica.{Ghosts as ReplicaGhosts}
use Rattle.desk_replica.specs.Saving.{Saving, MayBegin, MayPrepare, StaysSaved}
use Rattle.desk_threads.specs.declared.handing.Out.{Ghosts}
use Rattle.desk_threads.specs.Runs.{AdvancesBetween, EndsFirstBy, FailsInTurn, RanInTurns, RanToTurn, Stand}
use Rattle.desk_threads.specs.Runs.{TakesLast, TakesTurn, items_in}
use Rattle.desk_threads.proofs.Histories.{AdvanceLaws}
use Rattle.desk_threads.proofs.KeeperRuns.{KeepsFurther, KeepsStill, TakesNone}
use Rattle.desk_threads.proofs.KeeperTurns.{KeepsBy, between_stays, took_last, turn_stays, turns_none}
use Rattle.desk_threads.proofs.KeeperTurns.{turns_one}

-- where not all is published, no epoch begins: the replica is as it was, and nothing goes out
abbrev pub WaitsForAll : {R : Type 0} → Bool → List (ℕ × EpochPacket) → R → R → Type 0
WaitsForAll whole packets old new = whole ≡ false → (packets ≡ []) × (new ≡ old)

-- nothing was done
pub advances_none : {O R : Type 0} (g : Ghosts O) (s : Saving R) → TakesNone g → (old : Stand O R) →
    AdvancesBetween g s old old
advances_none g s none old = record {
  packets = [];
  advances = (old.replica, inl (refl, refl), inl refl);
  waits = λ lags. (refl, inl refl);
  gave = none old.out;
  waiting = refl;
  published = refl;
  all_published = refl;
}

-- it may have begun the next epoch
pub advances_begun : {O R : Type 0} (g : Ghosts O) (s : Saving R) (old new : Stand O R) →
    (packets : List (ℕ × EpochPacket)) × MayBegin s old.replica packets new.replica
    × g.takes old.out packets new.out × WaitsForAll old.all_published packets old.replica new.replica →
    new.waiting ≡ old.waiting → new.published ≡ old.published → new.all_published ≡ old.all_published →
    AdvancesBetween g s old new
advances_begun g s old new (packets, begins, gave, waits) waiting published all_published = record {
  packets = packets;
  advances = (new.replica, begins, inl refl);
  waits = λ lags. let w = waits lags in (w.0, inl w.1);
  gave = gave;
  waiting = waiting;
  published = published;
  all_published = all_published;
}

-- and then it may have prepared the beginning after that
pub advances_prepared : {O R : Type 0} (g : Ghosts O) (s : Saving R) (old mid new : Stand O R) →
    (packets : List (ℕ × EpochPacket)) × MayBegin s old.replica packets mid.replica
    × g.takes old.out packets mid.out × WaitsForAll old.all_published packets old.replica mid.replica →
    mid.waiting ≡ old.waiting → mid.published ≡ old.published → mid.all_published ≡ old.all_published →
    MayPrepare s mid.replica new.replica → new.out ≡ mid.out → new.waiting ≡ mid.waiting →
    new.published ≡ mid.published → new.all_published ≡ mid.all_published → AdvancesBetween g s old new
advances_prepared {O} {R} g s old mid new (packets, begins, gave, waits) waiting published all prepares out still same
    whole =
    record {
      packets = packets;
      advances = (mid.replica, begins, prepares);
      waits = λ lags.
          let w = waits lags in (w.0, subst (λ (r : R). MayPrepare s r new.replica) w.1 prepares);
      gave = subst (g.takes old.out packets) (sym out) gave;
      waiting = still ∙ waiting;
      published = same ∙ published;
      all_published = whole ∙ all;
    }

-- A turn, and what was done after it, is a run of one turn.
pub turn_advanced : {O R : Type 0} (g : Ghosts O) (h : ReplicaGhosts R) (s : Saving R) (most : ℕ)
    (b m a : List (SentItem Item)) (x : SentItem Item) (old mid new : Stand O R) → m ≡ b ++ x ∷ [] → mid ≡ old →
    (more : List (SentItem Item)) × (a ≡ m ++ more) × (end : Stand O R)
    × TakesTurn g h s most (x.item ∷ items_in more) mid end × AdvancesBetween g s end new →
    RanInTurns g h s most b old a new
turn_advanced g h s most b m a x old mid new taken same (more, then, end, one, on) =
    turns_one g h s most b m a x old mid end new taken same (more, then, one) on

-- And it leaves the replica saved.
pub turn_advanced_stays : {O R : Type 0} (g : Ghosts O) (h : ReplicaGhosts R) (s : Saving R) →
    ((a b : R) → s.saves a b → s.is_saved b) → KeepsFurther s → KeepsStill s → KeepsBy s h.follows →
    KeepsBy s s.saves → AdvanceLaws s → (most : ℕ) (turn : List Item) (old end new : Stand O R) →
    TakesTurn g h s most turn old end → AdvancesBetween g s end new → StaysSaved s old.replica new.replica
turn_advanced_stays g h s last further still followed saved laws most turn old end new one on =
    between_stays g s further still laws old.replica end new on
    (turn_stays g h s last further still followed saved laws most turn old end one)

-- What failed in a turn ends a run.
pub turn_failed : {O R : Type 0} (g : Ghosts O) (h : ReplicaGhosts R) (s : Saving R) (most : ℕ)
    (b m a : List (SentItem Item)) (x : SentItem Item) (old mid new : Stand O R) → m ≡ b ++ x ∷ [] → mid ≡ old →
    (fault : Refusal) → FailsInTurn g h s most fault x.item m mid a new → RanToTurn g h s most fault b old a new
turn_failed g h s most b m a x old mid new taken same fault
    (sent, then, inl (is, few, early, out, still, reported, unsaved)) = (
      b,
      old,
      turns_none g h s most b old,
      inl (took_last h s most fault b m a x old mid new taken same
          (sent, few, early, then, out, still, reported, unsaved) is),
    )
turn_failed g h s most b m a x old mid new taken same fault (sent, then, inr (end, between, one, on, stops)) = (
  a,
  between,
  turns_one g h s most b m a x old mid end between taken same (sent, then, one) on,
  inr (refl, stops),
)

-- What failed in a turn is what the keeper ends by.
pub fails_first : {O R : Type 0} (g : Ghosts O) (h : ReplicaGhosts R) (s : Saving R) (most : ℕ) (fault : Refusal)
    (item : Item) (taken taken_now : List (SentItem Item)) (old new : Stand O R) →
    FailsInTurn g h s most fault item taken old taken_now new → EndsFirstBy s fault new.replica
fails_first g h s most fault item taken taken_now old new (sent, then, inl unsaved) = inl unsaved.0
fails_first g h s most fault item taken taken_now old new (sent, then, inr (end, mid, one, on, stops)) =
    inr (mid.replica, stops.stops)

-- A last turn ends a run too.
pub last_turn : {O R : Type 0} (g : Ghosts O) (h : ReplicaGhosts R) (s : Saving R) (most : ℕ) (fault : Refusal)
    (b a : List (SentItem Item)) (old new : Stand O R) → TakesLast h s most fault b old a new →
    RanToTurn g h s most fault b old a new
last_turn g h s most fault b a old new last = (b, old, turns_none g h s most b old, inl last)
