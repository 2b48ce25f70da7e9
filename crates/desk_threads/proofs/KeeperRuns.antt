-- Runs of a keeper: of none, of one, and one after another.
use Rattle.std.proofs.Common.{◌≡◌, ◌++◌, ℕ, List, [], ◌∷◌, refl, sym, ◌∙◌, ap, subst, append_assoc, append-nil}
use Rattle.std.proofs.Common.{Result, Ok, Err, OnOk, IfOk, OnErr, IfErr, Option, Some, None, MatchOption}
use Rattle.desk_types.specs.declared.epoch_packet.EpochPacket.{EpochPacket}
use Rattle.desk_mailbox.specs.declared.item.Item.{Item}
use Rattle.desk_mailbox.specs.declared.rule.SentItem.{SentItem}
use Rattle.desk_threads.specs.declared.handing.Out.{Ghosts}
use Rattle.desk_replica.specs.declared.replica.Replica.{Ghosts as ReplicaGhosts}
use Rattle.desk_threads.specs.Runs.{items_in, Ran}
use Rattle.desk_threads.specs.SavedItems.{MeetsAndSaves}
use Rattle.desk_replica.specs.Saving.{Saving, StaysSaved}
use Rattle.desk_threads.proofs.SavedItems.{saves_none, saves_then}

pub items_then : (xs ys : List (SentItem Item)) → items_in (xs ++ ys) ≡ items_in xs ++ items_in ys
items_then [] ys = refl
items_then (x ∷ xs) ys = ap (λ w. x.item ∷ w) (items_then xs ys)

-- no packets are taken by one that stays as it is
abbrev pub TakesNone : {O : Type 0} → Ghosts O → Type 0
TakesNone {O} g = (out : O) → g.takes out [] out

-- packets are taken one after the other
abbrev pub TakesThen : {O : Type 0} → Ghosts O → Type 0
TakesThen {O} g = (old mid new : O) → (first last : List (ℕ × EpochPacket)) → g.takes old first mid →
    g.takes mid last new → g.takes old (first ++ last) new

pub ran_none : {O R : Type 0} (g : Ghosts O) (h : ReplicaGhosts R) (s : Saving R) → TakesNone g →
    (b : List (SentItem Item)) (k : R) (o : O) → Ran g h s b k o b k o
ran_none g h s none b k o = ([], [], [], sym (append-nil b), saves_none h s k, none o)

pub ran_then : {O R : Type 0} (g : Ghosts O) (h : ReplicaGhosts R) (s : Saving R) → TakesThen g →
    (b m a : List (SentItem Item)) (k k1 k2 : R) (o o1 o2 : O) → Ran g h s b k o m k1 o1 → Ran g h s m k1 o1 a k2 o2 →
    Ran g h s b k o a k2 o2
ran_then g h s more b m a k k1 k2 o o1 o2 (s1, p1, a1, e1, h1, g1) (s2, p2, a2, e2, h2, g2) = (
  s1 ++ s2,
  p1 ++ p2,
  a1 ++ a2,
  e2 ∙ ap (λ x. x ++ s2) e1 ∙ append_assoc b s1 s2,
  subst (λ x. MeetsAndSaves h s k x (p1 ++ p2) (a1 ++ a2) k2) (sym (items_then s1 s2))
      (saves_then h s k k1 k2 (items_in s1) (items_in s2) p1 p2 a1 a2 h1 h2),
  more o o1 o2 p1 p2 g1 g2,
)

-- what a store is to keep stands where nothing is done, and over two parts of a time
abbrev pub KeepsStill : {R : Type 0} → Saving R → Type 0
KeepsStill {R} s = (a : R) → s.keeps a a

abbrev pub KeepsFurther : {R : Type 0} → Saving R → Type 0
KeepsFurther {R} s = (a b c : R) → s.keeps a b → s.keeps b c → s.keeps a c

pub stays_then : {R : Type 0} (s : Saving R) (old mid new : R) → KeepsFurther s → StaysSaved s old mid →
    StaysSaved s mid new → StaysSaved s old new
stays_then s old mid new further a b = (b.0, further old mid new a.1 b.1)

pub stays_same : {R : Type 0} (s : Saving R) (old new : R) → KeepsStill s → new ≡ old → s.is_saved old →
    StaysSaved s old new
stays_same {R} s old new still same is = subst (λ (r : R). StaysSaved s old r) (sym same) (is, still old)

-- what holds where a call answered Ok, and of its value
pub on_ok : {A E : Type 0} (r : Result A E) (x : A) (P : Type 0) → r ≡ Ok x → OnOk r P → P
on_ok r x P e h = subst (λ w. OnOk w P) e h

pub if_ok : {A E : Type 0} (r : Result A E) (x : A) (P : A → Type 0) → r ≡ Ok x → IfOk r P → P x
if_ok r x P e h = subst (λ (w : Result _ _). IfOk w P) e h

-- and where it was refused
pub on_err : {A E : Type 0} (r : Result A E) (e : E) (P : Type 0) → r ≡ Err e → OnErr r P → P
on_err r e P is h = subst (λ w. OnErr w P) is h

pub if_err : {A E : Type 0} (r : Result A E) (e : E) (P : E → Type 0) → r ≡ Err e → IfErr r P → P e
if_err r e P is h = subst (λ (w : Result _ _). IfErr w P) is h

pub if_some : {A : Type 0} (o : Option A) (x : A) (N : Type 0) (P : A → Type 0) → o ≡ Some x → MatchOption o N P → P x
if_some o x N P e h = subst (λ w. MatchOption w N P) e h

pub if_none : {A : Type 0} (o : Option A) (N : Type 0) (P : A → Type 0) → o ≡ None → MatchOption o N P → N
if_none o N P e h = subst (λ w. MatchOption w N P) e h
