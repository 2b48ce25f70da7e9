-- Steps of a turn: of no item, of one, and one after another.
use Rattle.std.proofs.Common.{◌≡◌, ◌++◌, ◌<◌, ◌≤◌, ℕ, ◌+◌, List, [], ◌∷◌, refl, sym, ◌∙◌, ap, subst, append_assoc}
use Rattle.std.proofs.Common.{append-nil, length, length-append, arith, Result, Ok, Err, OnOk, IfOk, OnErr, IfErr}
use Rattle.std.proofs.Common.{Option, None, inl, inr}
use Rattle.std.specs.List.{AllZip}
use Rattle.desk_types.specs.declared.epoch_packet.EpochPacket.{EpochPacket}
use Rattle.desk_mailbox.specs.declared.item.Item.{Item}
use Rattle.desk_mailbox.specs.declared.rule.SentItem.{SentItem}
use Rattle.desk_replica.specs.declared.item_step.ItemStep.{ItemStep}
use Rattle.desk_replica.specs.EpochPackets.{packets_of_step}
use Rattle.desk_threads.specs.Waiting.{SessionValue, HearsAll}
use Rattle.desk_threads.proofs.ReplicaItems.{meets_one, meets_then}
use Rattle.desk_threads.specs.Turns.{packets_of_steps, answers_of_steps, MetMore, TookMore, NotesMore}
use Rattle.desk_threads.specs.declared.handing.Out.{Ghosts as OutGhosts}
use Rattle.desk_replica.specs.declared.replica.Replica.{Ghosts}
use Rattle.desk_threads.specs.Runs.{items_in}
use Rattle.desk_threads.specs.Telling.{NotesItems}
use Rattle.desk_threads.proofs.KeeperRuns.{TakesThen, items_then}
use Rattle.desk_threads.proofs.TurnTelling.{notes_then, hears_then}

pub packets_then : (xs ys : List ItemStep) → packets_of_steps (xs ++ ys) ≡ packets_of_steps xs ++ packets_of_steps ys
packets_then [] ys = refl
packets_then (x ∷ xs) ys =
    ap (λ w. packets_of_step x ++ w) (packets_then xs ys)
    ∙ sym (append_assoc (packets_of_step x) (packets_of_steps xs) (packets_of_steps ys))

answers_push : (xs : List ItemStep) (s : ItemStep) →
    answers_of_steps (xs ++ s ∷ []) ≡ answers_of_steps xs ++ s.answers
answers_push [] s = append-nil s.answers
answers_push (x ∷ xs) s =
    ap (λ w. x.answers ++ w) (answers_push xs s)
    ∙ sym (append_assoc x.answers (answers_of_steps xs) s.answers)

-- the answers of one step more were heard
pub heard_push : (xs : List ItemStep) (s : ItemStep) (old mid new : List SessionValue) →
    AllZip (HearsAll (answers_of_steps xs)) old mid → AllZip (HearsAll s.answers) mid new →
    AllZip (HearsAll (answers_of_steps (xs ++ s ∷ []))) old new
heard_push xs s old mid new one more =
    subst (λ w. AllZip (HearsAll w) old new) (sym (answers_push xs s))
    (hears_then (answers_of_steps xs) s.answers old mid new one more)

packets_push : (xs : List ItemStep) (s : ItemStep) →
    packets_of_steps (xs ++ s ∷ []) ≡ packets_of_steps xs ++ packets_of_step s
packets_push xs s = packets_then xs (s ∷ []) ∙ ap (λ w. packets_of_steps xs ++ w) (append-nil (packets_of_step s))

-- the packets of one step more were handed out
pub gave_push : {O : Type 0} (g : OutGhosts O) → TakesThen g → (old mid new : O) (xs : List ItemStep) (s : ItemStep)
    (packets : List (ℕ × EpochPacket)) → packets ≡ packets_of_step s → g.takes old (packets_of_steps xs) mid →
    g.takes mid packets new → g.takes old (packets_of_steps (xs ++ s ∷ [])) new
gave_push g more old mid new xs s packets e a b =
    subst (λ t. g.takes old t new) (ap (λ q. packets_of_steps xs ++ q) e ∙ sym (packets_push xs s))
    (more old mid new (packets_of_steps xs) packets a b)

pub met_none : {R : Type 0} (g : Ghosts R) (k : R) (steps : List ItemStep) → MetMore g k steps [] k steps
met_none g k steps = (
  [],
  [],
  sym (append-nil (packets_of_steps steps)),
  sym (append-nil (answers_of_steps steps)),
  (refl, refl, refl),
)

pub met_then : {R : Type 0} (g : Ghosts R) (k m new : R) (steps mid after : List ItemStep) (xs ys : List Item) →
    MetMore g k steps xs m mid → MetMore g m mid ys new after → MetMore g k steps (xs ++ ys) new after
met_then g k m new steps mid after xs ys (p, b, e, i, a) (q, c, f, j, h) = (
  p ++ q,
  b ++ c,
  f ∙ ap (λ w. w ++ q) e ∙ append_assoc (packets_of_steps steps) p q,
  j ∙ ap (λ w. w ++ c) i ∙ append_assoc (answers_of_steps steps) b c,
  meets_then g k m new xs ys p q b c a h,
)

-- one item was done
pub met_one : {R : Type 0} (g : Ghosts R) (k new : R) (steps after : List ItemStep) (step : ItemStep) (item : Item) →
    after ≡ steps ++ step ∷ [] → g.does k item (packets_of_step step) step.answers new →
    MetMore g k steps (item ∷ []) new after
met_one g k new steps after step item is does = (
  packets_of_step step,
  step.answers,
  ap packets_of_steps is ∙ packets_push steps step,
  ap answers_of_steps is ∙ answers_push steps step,
  meets_one g k new item (packets_of_step step) step.answers (inl does),
)

-- one item was refused
pub met_refused : {R : Type 0} (g : Ghosts R) (k new : R) (steps after : List ItemStep) (item : Item) → after ≡ steps →
    g.refuses k new → MetMore g k steps (item ∷ []) new after
met_refused g k new steps after item is refused = (
  [],
  [],
  ap packets_of_steps is ∙ sym (append-nil (packets_of_steps steps)),
  ap answers_of_steps is ∙ sym (append-nil (answers_of_steps steps)),
  meets_one g k new item [] [] (inr (refl, refl, refused)),
)

pub took_none : {R : Type 0} (g : Ghosts R) (taken : List (SentItem Item)) (k : R) (steps : List ItemStep) →
    TookMore g taken k steps [] taken k steps
took_none g taken k steps = (sym (append-nil taken), met_none g k steps)

pub took_then : {R : Type 0} (g : Ghosts R) (taken between now : List (SentItem Item)) (k m new : R)
    (steps mid after : List ItemStep) (xs ys : List (SentItem Item)) → TookMore g taken k steps xs between m mid →
    TookMore g between m mid ys now new after → TookMore g taken k steps (xs ++ ys) now new after
took_then g taken between now k m new steps mid after xs ys (e, a) (f, b) = (
  f ∙ ap (λ w. w ++ ys) e ∙ append_assoc taken xs ys,
  subst (λ items. MetMore g k steps items new after) (sym (items_then xs ys))
      (met_then g k m new steps mid after (items_in xs) (items_in ys) a b),
)

pub notes_more_none : (w : List SessionValue) (late : Option Item) → NotesMore [] w late w late
notes_more_none w late = λ turn old h. subst (λ x. NotesItems x old w late) (sym (append-nil turn)) h

pub notes_more_one : (sent : SentItem Item) (w new : List SessionValue) (late late_now : Option Item) → late ≡ None →
    NotesItems (sent.item ∷ []) w new late_now → NotesMore (sent ∷ []) w late new late_now
notes_more_one sent w new late late_now none one = λ turn old h.
    notes_then turn (sent.item ∷ []) old w new late_now (subst (λ l. NotesItems turn old w l) none h) one

pub notes_more_then : (xs ys : List (SentItem Item)) (w mid new : List SessionValue) (l m n : Option Item) →
    NotesMore xs w l mid m → NotesMore ys mid m new n → NotesMore (xs ++ ys) w l new n
notes_more_then xs ys w mid new l m n a b = λ turn old h.
    subst (λ x. NotesItems x old new n)
    (append_assoc turn (items_in xs) (items_in ys) ∙ ap (λ z. turn ++ z) (sym (items_then xs ys)))
    (b (turn ++ items_in xs) old (a turn old h))

pub few_more : {A : Type 0} (xs ys : List A) (n : ℕ) → length xs < n → length ys ≤ 1 → length (xs ++ ys) < n + 1
few_more xs ys n few one = omega (arith, few, one, length-append xs ys)

pub few_most : {A : Type 0} (xs ys : List A) (n most : ℕ) → length xs < n → length ys ≤ 1 → n < most →
    length (xs ++ ys) < most
few_most xs ys n most few one less = omega (arith, few, one, less, length-append xs ys)

-- what was taken is what was taken before, and more
pub taken_after : (taken mid now sent : List (SentItem Item)) → now ≡ mid ++ sent → mid ≡ taken → now ≡ taken ++ sent
taken_after taken mid now sent e same = e ∙ ap (λ w. w ++ sent) same

-- what holds where a call answered Ok, or an error, goes on to hold by what follows from it
pub if_ok_map : {A E : Type 0} (r : Result A E) (P : Type 0) (Q : A → Type 0) → (P → (x : A) → Q x) → OnOk r P →
    IfOk r Q
if_ok_map (Ok x) P Q f h = f h x
if_ok_map (Err e) P Q f h = tt

-- and what holds of its value
pub if_ok_each : {A E : Type 0} (r : Result A E) (P Q : A → Type 0) → ((x : A) → P x → Q x) → IfOk r P → IfOk r Q
if_ok_each (Ok x) P Q f h = f x h
if_ok_each (Err e) P Q f h = tt

-- and what holds where it answered Ok, and of its value
pub if_ok_both : {A E : Type 0} (r : Result A E) (P : Type 0) (Q T : A → Type 0) → (P → (x : A) → Q x → T x) →
    OnOk r P → IfOk r Q → IfOk r T
if_ok_both (Ok x) P Q T f h k = f h x k
if_ok_both (Err e) P Q T f h k = tt

-- and two things that hold where it answered Ok
pub on_ok_both : {A E : Type 0} (r : Result A E) (P Q T : Type 0) → (P → Q → T) → OnOk r P → OnOk r Q → OnOk r T
on_ok_both (Ok x) P Q T f h k = f h k
on_ok_both (Err e) P Q T f h k = tt

pub on_err_map : {A E : Type 0} (r : Result A E) (P Q : Type 0) → (P → Q) → OnErr r P → OnErr r Q
on_err_map (Ok x) P Q f h = tt
on_err_map (Err e) P Q f h = f h

pub if_err_map : {A E : Type 0} (r : Result A E) (P : Type 0) (Q T : E → Type 0) → (P → (e : E) → Q e → T e) →
    OnErr r P → IfErr r Q → IfErr r T
if_err_map (Ok x) P Q T f h k = tt
if_err_map (Err e) P Q T f h k = f h e k

pub if_err_each : {A E : Type 0} (r : Result A E) (P Q : E → Type 0) → ((e : E) → P e → Q e) → IfErr r P → IfErr r Q
if_err_each (Ok x) P Q f h = tt
if_err_each (Err e) P Q f h = f e h
