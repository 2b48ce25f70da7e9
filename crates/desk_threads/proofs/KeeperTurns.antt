-- Turns of a keeper: of none, of one, and some after others.
use Rattle.std.proofs.Common.{◌≡◌, ◌++◌, ◌<◌, ◌≤◌, ◌⊎◌, inl, inr, ℕ, List, [], ◌∷◌, refl, sym, ◌∙◌, ap, subst}
use Rattle.std.proofs.Common.{Bool, true, append_assoc, append-nil, flat_map, length, arith}
use Rattle.desk_types.specs.declared.command.Entry.{Entry}
use Rattle.desk_types.specs.declared.refusal.Refusal.{Refusal}
use Rattle.desk_types.specs.declared.refusal.Refusal.TheVariants as refusals
use Rattle.desk_mailbox.specs.declared.item.Item.{Item}
use Rattle.desk_mailbox.specs.declared.item.Item.TheVariants as items
use Rattle.desk_mailbox.specs.declared.rule.SentItem.{SentItem}
use Rattle.desk_threads.specs.declared.handing.Out.{Ghosts}
use Rattle.desk_threads.specs.Waiting.{SessionValue}
use Rattle.desk_replica.specs.declared.replica.Replica.{Ghosts as ReplicaGhosts}
use Rattle.desk_threads.specs.Runs.{items_in, Ran, RanToLast, Stand, stand, TakesTurn, TakesTurns, RanInTurns}
use Rattle.desk_threads.specs.Runs.{EndsInStop, TookStop, HasRunOut, IsStopped, RanToEnd, IsUnsaved}
use Rattle.desk_threads.specs.Runs.{TakesLast, RanToTurn, AdvancesBetween}
use Rattle.desk_threads.specs.EndingItems.{OnlyLastEnds}
use Rattle.desk_threads.specs.Telling.{TellsOfStop}
use Rattle.desk_threads.proofs.EndingItems.{last_alone}
use Rattle.desk_threads.specs.SavedItems.{MeetsAndFails}
use Rattle.desk_replica.specs.Saving.{Saving, StaysSaved}
use Rattle.desk_threads.proofs.KeeperRuns.{TakesNone, TakesThen, KeepsStill, KeepsFurther, items_then, ran_none}
use Rattle.desk_threads.proofs.KeeperRuns.{ran_then}
use Rattle.desk_threads.proofs.Histories.{AdvanceLaws, forget_stays, advance_stays}
use Rattle.desk_threads.proofs.SavedItems.{turn_saves}

-- all that is in turns, one after the other
abbrev joined : List (List (SentItem Item)) → List (SentItem Item)
joined turns = flat_map (λ turn. turn) turns

joined_then : (xs ys : List (List (SentItem Item))) → joined (xs ++ ys) ≡ joined xs ++ joined ys
joined_then [] ys = refl
joined_then (x ∷ xs) ys = ap (λ w. x ++ w) (joined_then xs ys) ∙ sym (append_assoc x (joined xs) (joined ys))

takes_then : {O R : Type 0} (g : Ghosts O) (h : ReplicaGhosts R) (s : Saving R) (most : ℕ)
    (xs ys : List (List (SentItem Item)))
    (old mid new : Stand O R) → TakesTurns g h s most xs old mid → TakesTurns g h s most ys mid new →
    TakesTurns g h s most (xs ++ ys) old new
takes_then g h s most [] ys old mid new e last = subst (λ x. TakesTurns g h s most ys x new) (sym e) last
takes_then g h s most (x ∷ xs) ys old mid new (end, next, one, on, more) last =
    (end, next, one, on, takes_then g h s most xs ys next mid new more last)

pub turns_none : {O R : Type 0} (g : Ghosts O) (h : ReplicaGhosts R) (s : Saving R) (most : ℕ)
    (b : List (SentItem Item))
    (old : Stand O R) → RanInTurns g h s most b old b old
turns_none g h s most b old = ([], sym (append-nil b), refl)

pub turns_then : {O R : Type 0} (g : Ghosts O) (h : ReplicaGhosts R) (s : Saving R) (most : ℕ)
    (b m a : List (SentItem Item))
    (old mid new : Stand O R) → RanInTurns g h s most b old m mid → RanInTurns g h s most m mid a new →
    RanInTurns g h s most b old a new
turns_then g h s most b m a old mid new (xs, e, first) (ys, f, last) = (
  xs ++ ys,
  f ∙ ap (λ w. w ++ joined ys) e ∙ append_assoc b (joined xs) (joined ys)
      ∙ ap (λ w. b ++ w) (sym (joined_then xs ys)),
  takes_then g h s most xs ys old mid new first last,
)

-- a stop was taken after some items
stop_then : (b m a xs : List (SentItem Item)) → m ≡ b ++ xs → TookStop m a → TookStop b a
stop_then b m a xs e (sent, f, (before, stops)) = (
  xs ++ sent,
  f ∙ ap (λ w. w ++ sent) e ∙ append_assoc b xs sent,
  (
    items_in xs ++ before,
    items_then xs sent
        ∙ ap (λ w. items_in xs ++ w) stops
        ∙ sym (append_assoc (items_in xs) before (items.Stop ∷ [])),
  ),
)

-- and some items, and then the end
end_then : {O R : Type 0} (b m a xs : List (SentItem Item)) (end new : Stand O R) (ended : Bool) → m ≡ b ++ xs →
    (TookStop m a × (end ≡ new)) ⊎ ((ended ≡ true) × IsStopped end new) →
    (TookStop b a × (end ≡ new)) ⊎ ((ended ≡ true) × IsStopped end new)
end_then b m a xs end new ended e (inl (stop, same)) = inl (stop_then b m a xs e stop, same)
end_then b m a xs end new ended e (inr stopped) = inr stopped

-- turns, and then some to the end
pub turns_to_end : {O R : Type 0} (g : Ghosts O) (h : ReplicaGhosts R) (s : Saving R) (most : ℕ)
    (b m a : List (SentItem Item))
    (old mid new : Stand O R) (ended : Bool) → RanInTurns g h s most b old m mid →
    RanToEnd g h s most m mid a new ended → RanToEnd g h s most b old a new ended
turns_to_end g h s most b m a old mid new ended first (end, last, how) = (
  end,
  turns_then g h s most b m a old mid end first last,
  end_then b m a (joined first.0) end new ended first.1 how,
)

-- one item was taken, and others after it, and this was a turn, after which the keeper advanced
pub turns_one : {O R : Type 0} (g : Ghosts O) (h : ReplicaGhosts R) (s : Saving R) (most : ℕ)
    (b m a : List (SentItem Item)) (x : SentItem Item) (old mid end new : Stand O R) → m ≡ b ++ x ∷ [] → mid ≡ old →
    (more : List (SentItem Item)) × (a ≡ m ++ more) × TakesTurn g h s most (x.item ∷ items_in more) mid end →
    AdvancesBetween g s end new → RanInTurns g h s most b old a new
turns_one g h s most b m a x old mid end new taken same (more, then, one) on = (
  (x ∷ more) ∷ [],
  then ∙ ap (λ w. w ++ more) taken ∙ append_assoc b (x ∷ []) more ∙ ap (λ w. b ++ w) (sym (append-nil (x ∷ more))),
  (end, new, subst (λ w. TakesTurn g h s most (x.item ∷ items_in more) w end) same one, on, refl),
)

-- a stop is the last of all that was taken where it is the last of a turn
pub took_stop : (b m a : List (SentItem Item)) (x : SentItem Item) → m ≡ b ++ x ∷ [] →
    (sent : List (SentItem Item)) × (a ≡ m ++ sent) × EndsInStop (x.item ∷ items_in sent) → TookStop b a
took_stop b m a x taken (sent, more, stops) =
    (x ∷ sent, more ∙ ap (λ w. w ++ sent) taken ∙ append_assoc b (x ∷ []) sent, stops)

-- turns whose last item is a stop ran to the end
pub turns_end : {O R : Type 0} (g : Ghosts O) (h : ReplicaGhosts R) (s : Saving R) (most : ℕ)
    (b a : List (SentItem Item))
    (old new : Stand O R) (ended : Bool) → RanInTurns g h s most b old a new → TookStop b a →
    RanToEnd g h s most b old a new ended
turns_end g h s most b a old new ended ran stop = (new, ran, inl (stop, refl))

-- no sender was left
pub turns_stopped : {O R : Type 0} (g : Ghosts O) (h : ReplicaGhosts R) (s : Saving R) (most : ℕ)
    (b a : List (SentItem Item))
    (old new : Stand O R) (ended : Bool) → a ≡ b → ended ≡ true → IsStopped old new →
    RanToEnd g h s most b old a new ended
turns_stopped g h s most b a old new ended same is stopped =
    (old, ([], same ∙ sym (append-nil b), refl), inr (is, stopped))

-- what ran to the end has run out
pub end_run_out : {O R : Type 0} (g : Ghosts O) (h : ReplicaGhosts R) (s : Saving R) (most : ℕ)
    (b a : List (SentItem Item))
    (old new : Stand O R) (ended : Bool) → RanToEnd g h s most b old a new ended → HasRunOut b a ended
end_run_out g h s most b a old new ended (end, ran, inl how) = inl how.0
end_run_out g h s most b a old new ended (end, ran, inr how) = inr how.0

-- What ran in turns ran.
takes_ran : {O R : Type 0} (g : Ghosts O) (h : ReplicaGhosts R) (s : Saving R) → TakesNone g → TakesThen g → (most : ℕ)
    (turns : List (List (SentItem Item))) (b : List (SentItem Item)) (old new : Stand O R) →
    TakesTurns g h s most turns old new → Ran g h s b old.replica old.out (b ++ joined turns) new.replica new.out
takes_ran g h s none then most [] b old new e =
    subst (λ w. Ran g h s b old.replica old.out w new.replica new.out) (sym (append-nil b))
    (subst (λ (w : Stand _ _). Ran g h s b old.replica old.out b w.replica w.out) e
    (ran_none g h s none b old.replica old.out))
takes_ran g h s none then most (x ∷ xs) b old new (end, mid, one, on, more) =
    let all : List (SentItem Item) = (b ++ x) ++ joined xs in
    subst (λ w. Ran g h s b old.replica old.out w new.replica new.out) (append_assoc b x (joined xs))
    (ran_then g h s then b (b ++ x) all old.replica mid.replica new.replica old.out mid.out new.out (
      x,
      one.packets ++ on.packets,
      one.answers,
      refl,
      turn_saves h s old.replica one.made end.replica mid.replica (items_in x) one.packets on.packets one.answers
          one.some one.does (one.stored, one.saved, one.forgets) on.advances,
      then old.out end.out mid.out one.packets on.packets one.gave on.gave,
    )
    (takes_ran g h s none then most xs (b ++ x) mid new more))

pub turns_ran : {O R : Type 0} (g : Ghosts O) (h : ReplicaGhosts R) (s : Saving R) → TakesNone g → TakesThen g →
    (most : ℕ) (b a : List (SentItem Item)) (old new : Stand O R) → RanInTurns g h s most b old a new →
    Ran g h s b old.replica old.out a new.replica new.out
turns_ran g h s none then most b a old new (turns, e, took) =
    subst (λ w. Ran g h s b old.replica old.out w new.replica new.out) (sym e)
    (takes_ran g h s none then most turns b old new took)

same_end : {O R : Type 0} (g : Ghosts O) (h : ReplicaGhosts R) (s : Saving R) (b a : List (SentItem Item))
    (old end new : Stand O R) (ended : Bool) → Ran g h s b old.replica old.out a end.replica end.out →
    (TookStop b a × (end ≡ new)) ⊎ ((ended ≡ true) × IsStopped end new) →
    Ran g h s b old.replica old.out a new.replica new.out
same_end g h s b a old end new ended ran (inl (stop, e)) =
    subst (λ (w : Stand _ _). Ran g h s b old.replica old.out a w.replica w.out) e ran
same_end {O} {R} g h s b a old end new ended ran (inr (is, stopped)) =
    subst (λ (w : R). Ran g h s b old.replica old.out a w new.out) (sym stopped.replica)
    (subst (λ w. Ran g h s b old.replica old.out a end.replica w) (sym stopped.out) ran)

pub end_ran : {O R : Type 0} (g : Ghosts O) (h : ReplicaGhosts R) (s : Saving R) → TakesNone g → TakesThen g →
    (most : ℕ) (b a : List (SentItem Item)) (old new : Stand O R) (ended : Bool) →
    RanToEnd g h s most b old a new ended → Ran g h s b old.replica old.out a new.replica new.out
end_ran g h s none then most b a old new ended (end, ran, how) =
    same_end g h s b a old end new ended (turns_ran g h s none then most b a old end ran) how

-- a keeper that stands where another does
pub stand_same : {O R : Type 0} (k l : R) (v w : List SessionValue) (p q : List Entry) (a b : Bool) (o : O) → l ≡ k →
    w ≡ v → q ≡ p → b ≡ a → stand l w q b o ≡ stand k v p a o
stand_same k l v w p q a b o e f i j =
    ap (λ x. stand x w q b o) e
    ∙ ap (λ x. stand k x q b o) f
    ∙ ap (λ x. stand k v x b o) i
    ∙ ap (λ x. stand k v p x o) j

-- sessions that were told of a stop, begun where another keeper stands
pub reported_same : (p q : List Entry) (turn : List Item) (v w new : List SessionValue) → q ≡ p → w ≡ v →
    TellsOfStop q turn w new → TellsOfStop p turn v new
reported_same p q turn v w new e f reported =
    subst (λ l. TellsOfStop p turn l new) f (subst (λ (l : List Entry). TellsOfStop l turn w new) e reported)

-- so much is one turn
pub some_few : {A : Type 0} (x : A) (more : List A) (most : ℕ) → length more < most →
    (0 < length (x ∷ more)) × (length (x ∷ more) ≤ most)
some_few x more most few = (omega arith, omega (arith, few))

-- one item was taken, and others after it, and this was a turn whose save failed
pub took_last : {O R : Type 0} (h : ReplicaGhosts R) (s : Saving R) (most : ℕ) (fault : Refusal)
    (b m a : List (SentItem Item)) (x : SentItem Item) (old mid new : Stand O R) → m ≡ b ++ x ∷ [] → mid ≡ old →
    (more : List (SentItem Item)) × (length more < most) × OnlyLastEnds (x.item ∷ items_in more) × (a ≡ m ++ more)
    × (new.out ≡ mid.out) × (new.published ≡ mid.published)
    × TellsOfStop mid.published (x.item ∷ items_in more) mid.waiting new.waiting
    × MeetsAndFails h s mid.replica (x.item ∷ items_in more) new.replica →
    fault ≡ refusals.StoreFault → TakesLast h s most fault b old a new
took_last h s most fault b m a x old mid new taken same (more, few, early, then, out, still, reported, unsaved) is =
    record {
      turn = x ∷ more;
      taken_is = then ∙ ap (λ w. w ++ more) taken ∙ append_assoc b (x ∷ []) more;
      some = (some_few x more most few).0;
      few = (some_few x more most few).1;
      early = early;
      silent = out ∙ ap (λ (w : Stand _ _). w.out) same;
      unpublished = still ∙ ap (λ (w : Stand _ _). w.published) same;
      reported = subst (λ (w : Stand _ _). TellsOfStop w.published (x.item ∷ items_in more) w.waiting new.waiting) same
          reported;
      unsaved = record {
        made = λ _. subst (λ (w : Stand _ _). MeetsAndFails h s w.replica (x.item ∷ items_in more) new.replica) same
            unsaved;
        unchanged = λ later. absurd (let none : ⊥ = cc in none);
      };
    }

-- one item was taken by a keeper that had stopped
pub refused_last : {O R : Type 0} (h : ReplicaGhosts R) (s : Saving R) (most : ℕ) (b a : List (SentItem Item))
    (x : SentItem Item) (old new : Stand O R) → 0 < most → a ≡ b ++ x ∷ [] → new.replica ≡ old.replica →
    new.out ≡ old.out → new.published ≡ old.published →
    TellsOfStop old.published (x.item ∷ []) old.waiting new.waiting →
    TakesLast h s most refusals.NodeStopped b old a new
refused_last h s most b a x old new some taken same silent still reported = record {
  turn = x ∷ [];
  taken_is = taken;
  some = (some_few x [] most some).0;
  few = (some_few x [] most some).1;
  early = last_alone x.item;
  silent = silent;
  unpublished = still;
  reported = reported;
  unsaved = record { made = λ first. absurd (let none : ⊥ = cc in none); unchanged = λ _. same };
}

-- what the store is to keep stands where something is done
abbrev pub KeepsBy : {R : Type 0} → Saving R → (R → R → Type 0) → Type 0
KeepsBy {R} s by = (a b : R) → by a b → s.keeps a b

-- a turn leaves the replica saved, and what its store is to keep stands
pub turn_stays : {O R : Type 0} (g : Ghosts O) (h : ReplicaGhosts R) (s : Saving R) →
    ((a b : R) → s.saves a b → s.is_saved b) → KeepsFurther s → KeepsStill s → KeepsBy s h.follows →
    KeepsBy s s.saves → AdvanceLaws s → (most : ℕ) (turn : List Item) (old new : Stand O R) →
    TakesTurn g h s most turn old new → StaysSaved s old.replica new.replica
turn_stays g h s last further still followed saved laws most turn old new t =
    forget_stays s further still laws old.replica t.stored new.replica t.forgets (
      last t.made t.stored t.saved,
      further old.replica t.made t.stored (followed old.replica t.made t.follows) (saved t.made t.stored t.saved),
    )

-- and so does one after which the keeper advanced
pub between_stays : {O R : Type 0} (g : Ghosts O) (s : Saving R) → KeepsFurther s → KeepsStill s → AdvanceLaws s →
    (old : R) (mid new : Stand O R) → AdvancesBetween g s mid new → StaysSaved s old mid.replica →
    StaysSaved s old new.replica
between_stays g s further still laws old mid new on =
    advance_stays s further still laws old mid.replica new.replica on.packets on.advances

-- what the store is to keep stood through all turns
takes_keep : {O R : Type 0} (g : Ghosts O) (h : ReplicaGhosts R) (s : Saving R) →
    ((a b : R) → s.saves a b → s.is_saved b) → KeepsFurther s → KeepsStill s → KeepsBy s h.follows →
    KeepsBy s s.saves → AdvanceLaws s → (most : ℕ) (turns : List (List (SentItem Item))) (old new : Stand O R) →
    TakesTurns g h s most turns old new → s.keeps old.replica new.replica
takes_keep g h s last further still followed saved laws most [] old new e =
    subst (λ (w : Stand _ _). s.keeps old.replica w.replica) e (still old.replica)
takes_keep g h s last further still followed saved laws most (x ∷ xs) old new (end, mid, one, on, more) =
    further old.replica mid.replica new.replica
    (between_stays g s further still laws old.replica end mid on
    (turn_stays g h s last further still followed saved laws most (items_in x) old end one)).1
    (takes_keep g h s last further still followed saved laws most xs mid new more)

-- a list of one
one_only : (xs : List (SentItem Item)) → 0 < length xs → length xs ≤ 1 → (x : SentItem Item) × (xs ≡ x ∷ [])
one_only [] some few = absurd (omega (arith, some))
one_only (x ∷ []) some few = (x, refl)
one_only (x ∷ y ∷ more) some few = absurd (omega (arith, few))

-- where a turn is one item, it is the last item that was not saved
pub turn_to_last : {O R : Type 0} (g : Ghosts O) (h : ReplicaGhosts R) (s : Saving R) → TakesNone g → TakesThen g →
    ((a b : R) → s.saves a b → s.is_saved b) → KeepsFurther s → KeepsStill s → KeepsBy s h.follows →
    KeepsBy s s.saves → AdvanceLaws s → (fault : Refusal) (b a : List (SentItem Item)) (old new : Stand O R) →
    RanToTurn g h s 1 fault b old a new → RanToLast g h s fault b old a new
turn_to_last g h s none then last further still followed saved laws fault b a old new (before, end, ran, inl unsaved) =
    let one = one_only unsaved.turn unsaved.some unsaved.few in (
      before,
      end,
      subst (λ w. Ran g h s b old.replica old.out before end.replica w) (sym unsaved.silent)
          (turns_ran g h s none then 1 b before old end ran),
      takes_keep g h s last further still followed saved laws 1 ran.0 old end ran.2,
      inl (
        one.0,
        unsaved.taken_is ∙ ap (λ w. before ++ w) one.1,
        subst (λ w. IsUnsaved h s fault (items_in w) end.replica new.replica) one.1 unsaved.unsaved,
      ),
    )
turn_to_last g h s none then last further still followed saved laws fault b a old new
    (before, end, ran, inr (taken, stopped)) = (
      before,
      end,
      subst (λ w. Ran g h s b old.replica old.out before end.replica w) (sym stopped.silent)
          (turns_ran g h s none then 1 b before old end ran),
      takes_keep g h s last further still followed saved laws 1 ran.0 old end ran.2,
      inr (taken, stopped.stops),
    )

-- turns, and then some up to a last one
pub turns_to_turn : {O R : Type 0} (g : Ghosts O) (h : ReplicaGhosts R) (s : Saving R) (most : ℕ) (fault : Refusal)
    (b m a : List (SentItem Item)) (old mid new : Stand O R) → RanInTurns g h s most b old m mid →
    RanToTurn g h s most fault m mid a new → RanToTurn g h s most fault b old a new
turns_to_turn g h s most fault b m a old mid new first (before, end, ran, how) =
    (before, end, turns_then g h s most b m before old mid end first ran, how)
