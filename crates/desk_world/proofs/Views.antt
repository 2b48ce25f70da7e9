-- What packets tell of a view: it only grows, and it changes by a StartView and by a Prepare of the next place alone.
use Rattle.std.proofs.Common.{◌≡◌, ℕ, ◌+◌, ◌≤◌, true, false, if◌then◌else◌, not, ◌&&◌, List, [], ◌∷◌, ◌++◌, length}
use Rattle.std.proofs.Common.{refl, sym, ap, ◌∙◌, arith, eqb}
use Rattle.std.specs.List.{Contains}
use Rattle.std.proofs.lemmas.Bool.{cond_both, and_parts, and_from, not-true, eqb-true, eq-eqb, false≢true}
use Rattle.std.proofs.lemmas.List.{length_push}
use Rattle.desk_types.specs.declared.command.Entry.{Entry}
use Rattle.desk_types.specs.declared.packet.Message.{Message}
use Rattle.desk_types.specs.declared.packet.Message.TheVariants.{Prepare, PrepareOk, Commit, StartViewChange}
use Rattle.desk_types.specs.declared.packet.Message.TheVariants.{DoViewChange, StartView, GetState, NewState}
use Rattle.desk_log.specs.Entries.{IsLogPrefix}
use Rattle.desk_world.proofs.ViewLog.{ViewLog, view_start, view_after, view_from, view_of, has_begun, announced_start}
use Rattle.desk_world.proofs.ViewLog.{announced_log}
use Rattle.desk_log.proofs.Prefixes.{prefix_refl, prefix_trans, prefix_append}
use Rattle.desk_world.proofs.Packets.{Contains-here, Contains-there}

-- What has started stays started, with its start log, and its log grows.
pub record ViewGrows (v u : ViewLog) : Type 0 where
  pub begun : v.begun ≡ true → u.begun ≡ true
  pub start : v.begun ≡ true → u.start ≡ v.start
  pub log : v.begun ≡ true → IsLogPrefix v.log u.log

ViewGrows-refl : (v : ViewLog) → ViewGrows v v
ViewGrows-refl v = record { begun = λ b. b; start = λ b. refl; log = λ b. prefix_refl v.log }

ViewGrows-trans : (v u t : ViewLog) → ViewGrows v u → ViewGrows u t → ViewGrows v t
ViewGrows-trans v u t g h = record {
  begun = λ b. h.begun (g.begun b);
  start = λ b. h.start (g.begun b) ∙ g.start b;
  log = λ b. prefix_trans v.log u.log t.log (g.log b) (h.log (g.begun b));
}

after_grows : (w : ℕ) (v : ViewLog) (p : Message) → ViewGrows v (view_after w v p)
after_grows w v (StartView from x c l) = cond_both (eqb x w && not v.begun) _ _ (ViewGrows v)
    (λ t. record {
      begun = λ b. refl;
      start = λ b. absurd (false≢true (sym (not-true v.begun (and_parts (eqb x w) (not v.begun) t).1) ∙ b));
      log = λ b. absurd (false≢true (sym (not-true v.begun (and_parts (eqb x w) (not v.begun) t).1) ∙ b));
    })
    (λ _. ViewGrows-refl v)
after_grows w v (Prepare from x m c e) = cond_both (eqb x w && v.begun && eqb m (length v.log + 1)) _ _ (ViewGrows v)
    (λ _. record { begun = λ b. b; start = λ b. refl; log = λ b. prefix_append v.log (e ∷ []) })
    (λ _. ViewGrows-refl v)
after_grows w v (PrepareOk from x m) = ViewGrows-refl v
after_grows w v (Commit from x c) = ViewGrows-refl v
after_grows w v (StartViewChange from x) = ViewGrows-refl v
after_grows w v (DoViewChange from x u c l) = ViewGrows-refl v
after_grows w v (GetState from x b) = ViewGrows-refl v
after_grows w v (NewState from x b c l) = ViewGrows-refl v

pub from_grows : (w : ℕ) (v : ViewLog) (ps : List Message) → ViewGrows v (view_from w v ps)
from_grows w v [] = ViewGrows-refl v
from_grows w v (p ∷ ps) = ViewGrows-trans v (view_after w v p) (view_from w (view_after w v p) ps) (after_grows w v p)
    (from_grows w (view_after w v p) ps)

view_from-append : (w : ℕ) (v : ViewLog) (ps qs : List Message) →
    view_from w v (ps ++ qs) ≡ view_from w (view_from w v ps) qs
view_from-append w v [] qs = refl
view_from-append w v (p ∷ ps) qs = view_from-append w (view_after w v p) ps qs

pub view_of-append : (ps qs : List Message) (w : ℕ) → view_of (ps ++ qs) w ≡ view_from w (view_of ps w) qs
view_of-append ps qs w = view_from-append w (view_start w) ps qs

pub view_grows : (ps qs : List Message) (w : ℕ) → ViewGrows (view_of ps w) (view_of (ps ++ qs) w)
view_grows ps qs w = rw (view_of-append ps qs w) (from_grows w (view_of ps w) qs)

after_starts : (w : ℕ) (v : ViewLog) (p : Message) → IsLogPrefix v.start v.log →
    IsLogPrefix (view_after w v p).start (view_after w v p).log
after_starts w v (StartView from x c l) h =
    cond_both (eqb x w && not v.begun) _ _ (λ (u : ViewLog). IsLogPrefix u.start u.log) (λ _. prefix_refl l) (λ _. h)
after_starts w v (Prepare from x m c e) h =
    cond_both (eqb x w && v.begun && eqb m (length v.log + 1)) _ _ (λ (u : ViewLog). IsLogPrefix u.start u.log)
    (λ _. prefix_trans v.start v.log (v.log ++ e ∷ []) h (prefix_append v.log (e ∷ [])))
    (λ _. h)
after_starts w v (PrepareOk from x m) h = h
after_starts w v (Commit from x c) h = h
after_starts w v (StartViewChange from x) h = h
after_starts w v (DoViewChange from x u c l) h = h
after_starts w v (GetState from x b) h = h
after_starts w v (NewState from x b c l) h = h

from_starts : (w : ℕ) (v : ViewLog) (ps : List Message) → IsLogPrefix v.start v.log →
    IsLogPrefix (view_from w v ps).start (view_from w v ps).log
from_starts w v [] h = h
from_starts w v (p ∷ ps) h = from_starts w (view_after w v p) ps (after_starts w v p h)

-- A view's log begins with its start log.
pub view_starts : (ps : List Message) (w : ℕ) → IsLogPrefix (announced_start ps w) (announced_log ps w)
view_starts ps w = from_starts w (view_start w) ps tt

-- A packet that tells nothing new: a StartView of a view that has started, or a Prepare of a place in its log.
abbrev pub TellsNothingNew : ViewLog → ℕ → Message → Type 0
TellsNothingNew v w (StartView from x c l) = x ≡ w → v.begun ≡ true
TellsNothingNew v w (Prepare from x m c e) = x ≡ w → (v.begun ≡ true) × (m ≤ length v.log)
TellsNothingNew v w (PrepareOk from x m) = Unit {0}
TellsNothingNew v w (Commit from x c) = Unit {0}
TellsNothingNew v w (StartViewChange from x) = Unit {0}
TellsNothingNew v w (DoViewChange from x u c l) = Unit {0}
TellsNothingNew v w (GetState from x b) = Unit {0}
TellsNothingNew v w (NewState from x b c l) = Unit {0}

after_same : (w : ℕ) (v : ViewLog) (p : Message) → TellsNothingNew v w p → view_after w v p ≡ v
after_same w v (StartView from x c l) h = cond_both (eqb x w && not v.begun) _ _ (λ u. u ≡ v)
    (λ t.
    let a = and_parts (eqb x w) (not v.begun) t in
    absurd (false≢true (sym (not-true v.begun a.1) ∙ h (eqb-true x w a.0))))
    (λ _. refl)
after_same w v (Prepare from x m c e) h = cond_both (eqb x w && v.begun && eqb m (length v.log + 1)) _ _ (λ u. u ≡ v)
    (λ t.
    let a = and_parts (eqb x w && v.begun) (eqb m (length v.log + 1)) t in
    let b = and_parts (eqb x w) v.begun a.0 in
    let next : m ≡ length v.log + 1 = eqb-true m (length v.log + 1) a.1 in
    absurd (omega (arith, (h (eqb-true x w b.0)).1)))
    (λ _. refl)
after_same w v (PrepareOk from x m) h = refl
after_same w v (Commit from x c) h = refl
after_same w v (StartViewChange from x) h = refl
after_same w v (DoViewChange from x u c l) h = refl
after_same w v (GetState from x b) h = refl
after_same w v (NewState from x b c l) h = refl

from_same : (w : ℕ) (v : ViewLog) (ps : List Message) → ((p : Message) → Contains ps p → TellsNothingNew v w p) →
    view_from w v ps ≡ v
from_same w v [] h = refl
from_same w v (p ∷ ps) h =
    let here : view_after w v p ≡ v = after_same w v p (h p (Contains-here p ps)) in
    ap (λ u. view_from w u ps) here ∙ from_same w v ps (λ q c. h q (Contains-there p ps q c))

-- Packets that tell nothing new of a view change nothing there.
pub view_same : (ps qs : List Message) (w : ℕ) → ((q : Message) → Contains qs q → TellsNothingNew (view_of ps w) w q) →
    view_of (ps ++ qs) w ≡ view_of ps w
view_same ps qs w h = view_of-append ps qs w ∙ from_same w (view_of ps w) qs h

-- The Prepare of the next place, sent with a PrepareOk, lengthens the view's log.
pub view_longer : (ps : List Message) (ok : Message) (p : Message) (qs : List Message) (w j x k i m c : ℕ) (e : Entry) →
    ok ≡ PrepareOk j x k → p ≡ Prepare i w m c e →
    has_begun ps w ≡ true → m ≡ length (announced_log ps w) + 1 → ((q : Message) → Contains qs q → q ≡ p) →
    view_of (ps ++ ok ∷ p ∷ qs) w ≡ record
    { begun = true; start = announced_start ps w; log = announced_log ps w ++ e ∷ [] }
view_longer ps ok p qs w j x k i m c e is_ok is b next h =
    let v : ViewLog = view_of ps w in
    let u : ViewLog = record { begun = v.begun; start = v.start; log = v.log ++ e ∷ [] } in
    let test : (eqb w w && v.begun && eqb m (length v.log + 1)) ≡ true =
    and_from (eqb w w && v.begun) (eqb m (length v.log + 1)) (and_from (eqb w w) v.begun (eq-eqb w w refl) b)
    (eq-eqb m (length v.log + 1) next) in
    let here : view_after w v (Prepare i w m c e) ≡ u = ap (λ t. if t then u else v) test in
    let first : view_after w v p ≡ u = ap (view_after w v) is ∙ here in
    let pushed : length u.log ≡ length v.log + 1 = length_push v.log e in
    let old : TellsNothingNew u w (Prepare i w m c e) = λ _. (b, omega arith) in
    let rest : view_from w u qs ≡ u = from_same w u qs (λ q l. rw (h q l, is) old) in
    let quiet : view_after w v ok ≡ v = ap (view_after w v) is_ok in
    view_of-append ps (ok ∷ p ∷ qs) w
    ∙ (ap (λ t. view_from w (view_after w t p) qs) quiet
    ∙ (ap (λ t. view_from w t qs) first
    ∙ (rest ∙ ap (λ t. record { begun = t; start = v.start; log = v.log ++ e ∷ [] }) b)))

-- The first StartView, sent with a PrepareOk, starts the view.
pub view_begins : (ps : List Message) (ok p : Message) (qs : List Message) (w j x k i c : ℕ) (l : List Entry) →
    ok ≡ PrepareOk j x k → p ≡ StartView i w c l →
    has_begun ps w ≡ false → ((q : Message) → Contains qs q → q ≡ p) →
    view_of (ps ++ ok ∷ p ∷ qs) w ≡ record { begun = true; start = l; log = l }
view_begins ps ok p qs w j x k i c l is_ok is b h =
    let v : ViewLog = view_of ps w in
    let u : ViewLog = record { begun = true; start = l; log = l } in
    let test : (eqb w w && not v.begun) ≡ true = and_from (eqb w w) (not v.begun) (eq-eqb w w refl) (ap not b) in
    let here : view_after w v (StartView i w c l) ≡ u = ap (λ t. if t then u else v) test in
    let first : view_after w v p ≡ u = ap (view_after w v) is ∙ here in
    let old : TellsNothingNew u w (StartView i w c l) = λ _. refl in
    let rest : view_from w u qs ≡ u = from_same w u qs (λ q m. rw (h q m, is) old) in
    let quiet : view_after w v ok ≡ v = ap (view_after w v) is_ok in
    view_of-append ps (ok ∷ p ∷ qs) w
    ∙ (ap (λ t. view_from w (view_after w t p) qs) quiet ∙ (ap (λ t. view_from w t qs) first ∙ rest))
