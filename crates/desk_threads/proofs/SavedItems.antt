-- Items with saves between them: of none, of a turn that was saved, and one list of them after another.
use Rattle.std.proofs.Common.{◌≡◌, ◌<◌, ◌++◌, ◌∙◌, ℕ, List, [], ◌∷◌, length, refl, sym, ap, subst, inl, inr}
use Rattle.std.proofs.Common.{append_assoc, append-nil, arith, Result, Ok, Err}
use Rattle.desk_types.specs.declared.epoch_packet.EpochPacket.{EpochPacket}
use Rattle.desk_types.specs.declared.refusal.Refusal.{Refusal}
use Rattle.desk_mailbox.specs.declared.item.Item.{Item}
use Rattle.desk_replica.specs.declared.answer.Answer.{Answer}
use Rattle.desk_replica.specs.declared.item_step.ItemStep.{ItemStep}
use Rattle.desk_replica.specs.declared.replica.Replica.{Ghosts}
use Rattle.desk_threads.specs.Replicas.{MeetsItems}
use Rattle.desk_threads.specs.SavedItems.{MeetsAndSaves, MeetsAndFails, SavesAndForgets}
use Rattle.desk_replica.specs.Saving.{Saving, LogsGoOn, Advances}
use Rattle.desk_threads.specs.Turns.{MetAndSaved, EndsInSave}
use Rattle.desk_threads.proofs.Histories.{goes_then}

pub saves_none : {R : Type 0} (g : Ghosts R) (s : Saving R) (k : R) → MeetsAndSaves g s k [] [] [] k
saves_none g s k = (refl, refl, refl)

pub saves_then : {R : Type 0} (g : Ghosts R) (s : Saving R) (k m new : R) (xs ys : List Item)
    (p q : List (ℕ × EpochPacket)) (a b : List Answer) → MeetsAndSaves g s k xs p a m → MeetsAndSaves g s m ys q b new →
    MeetsAndSaves g s k (xs ++ ys) (p ++ q) (a ++ b) new
saves_then {R} g s k m new [] ys p q a b (e, f, same) h =
    subst (λ (x : R). MeetsAndSaves g s x ys (p ++ q) (a ++ b) new) same
    (subst (λ (w : List (ℕ × EpochPacket)). MeetsAndSaves g s m ys (w ++ q) (a ++ b) new) (sym e)
    (subst (λ (w : List Answer). MeetsAndSaves g s m ys q (w ++ b) new) (sym f) h))
saves_then g s k m new (x ∷ xs) ys p q a b (made, mid, first, between, last, early, late, e, f, one, saved, more) h = (
  made,
  mid,
  first,
  between,
  last ++ q,
  early,
  late ++ b,
  ap (λ w. w ++ q) e ∙ append_assoc first (between ++ last) q ∙ ap (λ w. first ++ w) (append_assoc between last q),
  ap (λ w. w ++ b) f ∙ append_assoc early late b,
  one,
  saved,
  saves_then g s mid m new xs ys last q late b more h,
)

-- the items of a turn were met, what they made was saved, and the keeper advanced that
pub turn_saves : {R : Type 0} (g : Ghosts R) (s : Saving R) (k made end new : R) (turn : List Item)
    (packets after : List (ℕ × EpochPacket)) (answers : List Answer) → 0 < length turn →
    MeetsItems g k turn packets answers made → SavesAndForgets s made end → Advances s end after new →
    MeetsAndSaves g s k turn (packets ++ after) answers new
turn_saves g s k made end new [] packets after answers some met saved on = absurd (omega (arith, some))
turn_saves {R} g s k made end new (x ∷ []) packets after answers some
    (mid, first, last, early, late, e, f, one, rest) saved on = (
      mid,
      new,
      first,
      after,
      [],
      early,
      late,
      ap (λ w. w ++ after) (e ∙ ap (λ w. first ++ w) rest.0 ∙ append-nil first)
          ∙ ap (λ w. first ++ w) (sym (append-nil after)),
      f,
      one,
      inr (end, subst (λ (r : R). SavesAndForgets s r end) rest.2 saved, on),
      (refl, rest.1, refl),
    )
turn_saves g s k made end new (x ∷ y ∷ more) packets after answers some
    (mid, first, last, early, late, e, f, one, rest) saved on = (
      mid,
      mid,
      first,
      [],
      last ++ after,
      early,
      late,
      ap (λ w. w ++ after) e ∙ append_assoc first last after,
      f,
      one,
      inl (refl, refl),
      turn_saves g s mid made end new (y ∷ more) last after late (omega arith) rest saved on,
    )

-- what a turn made was saved where that is told
pub saves_if : {R A : Type 0} (s : Saving R) (made new : R) (outcome : Result A Refusal) (x : A) → outcome ≡ Ok x →
    EndsInSave s made outcome new → s.saves made new
saves_if {R} {A} s made new outcome x ok saved =
    subst (λ (o : Result A Refusal). EndsInSave s made o new) ok saved

-- and its save failed where that is told
pub fails_if : {R A : Type 0} (s : Saving R) (made new : R) (outcome : Result A Refusal) (r : Refusal) →
    outcome ≡ Err r → EndsInSave s made outcome new → s.fails made new
fails_if {R} {A} s made new outcome r err failed =
    subst (λ (o : Result A Refusal). EndsInSave s made o new) err failed

-- what is said of a replica that goes on
abbrev OnBy : {R : Type 0} → Saving R → (R → R → Type 0) → Type 0
OnBy {R} s by = (old new : R) → by old new → LogsGoOn s old new

ends_on : {R A : Type 0} (s : Saving R) → OnBy s s.saves → OnBy s s.fails → (made new : R)
    (outcome : Result A Refusal) → EndsInSave s made outcome new → LogsGoOn s made new
ends_on s saved failed made new (Ok x) h = saved made new h
ends_on s saved failed made new (Err r) h = failed made new h

-- after a turn the replica goes on, whether it was saved or not
pub turn_on : {R A : Type 0} (g : Ghosts R) (s : Saving R) → OnBy s g.follows → OnBy s s.saves → OnBy s s.fails →
    (old first new : R) (steps after : List ItemStep) (items : List Item) (outcome : Result A Refusal) → first ≡ old →
    MetAndSaved g s first steps items outcome new after → LogsGoOn s old new
turn_on {R} g s followed saved failed old first new steps after items outcome is (made, met, follows, ends) =
    subst (λ (r : R). LogsGoOn s r new) is
    (goes_then s first made new (followed first made follows) (ends_on s saved failed made new outcome ends))

-- the items of a turn that was not saved
pub turn_fails : {R A : Type 0} (g : Ghosts R) (s : Saving R) (old first new : R) (steps after : List ItemStep)
    (items : List Item) (outcome : Result A Refusal) (r : Refusal) → first ≡ old → s.is_saved old → outcome ≡ Err r →
    MetAndSaved g s first steps items outcome new after → MeetsAndFails g s old items new
turn_fails {R} g s old first new steps after items outcome r is was err
    (made, (packets, answers, e, f, met), follows, ends) = (
      packets,
      answers,
      made,
      subst (λ (k : R). MeetsItems g k items packets answers made) is met,
      was,
      fails_if s made new outcome r err ends,
    )
