-- The log of a view, place by place, is the log that grows by each Prepare of the next place.
use Rattle.std.proofs.Common.{◌≡◌, ℕ, zero, suc, ◌+◌, ◌-◌, ◌<◌, ◌≤◌, ◌⊎◌, Bool, true, false, not, ◌&&◌, if◌then◌else◌}
use Rattle.std.proofs.Common.{List, [], ◌∷◌, ◌++◌, length, drop, Option, Some, None, refl, sym, ap, ◌∙◌, arith, inl}
use Rattle.std.proofs.Common.{inr, ⊎_elim, eqb, subst}
use Rattle.std.specs.List.{Contains, slice_get}
use Rattle.std.proofs.lemmas.Bool.{cases_lt, cases_Bool, cond_both, and_parts, and_from, not-true, eqb-true, eq-eqb}
use Rattle.std.proofs.lemmas.Bool.{ne_eqb, false≢true}
use Rattle.std.proofs.lemmas.List.{length_push, take-append-drop}
use Rattle.desk_types.specs.declared.command.Entry.{Entry}
use Rattle.desk_types.specs.declared.limits.TheConstants.{LOG_ENTRIES}
use Rattle.desk_types.specs.declared.packet.Message.{Message}
use Rattle.desk_types.specs.declared.packet.Message.TheVariants.{Prepare, PrepareOk, Commit, StartViewChange}
use Rattle.desk_types.specs.declared.packet.Message.TheVariants.{DoViewChange, StartView, GetState, NewState}
use Rattle.desk_log.specs.Entries.{IsLogPrefix, entry_at}
use Rattle.desk_world.specs.Views as spec
use Rattle.desk_log.proofs.Places.{entry_at_within}
use Rattle.desk_log.proofs.Prefixes.{length-prefix, take-prefix}
use Rattle.desk_world.proofs.NodeInvariants.{Nodes, PrepareHolds}
use Rattle.desk_world.proofs.Invariant.{GroupInvariant}
use Rattle.desk_world.proofs.Packets.{Contains-here, Contains-there, Contains-none, Contains-cases}
use Rattle.desk_world.proofs.ViewLog.{ViewLog, view_start, view_from, has_begun, announced_start, announced_log}
use Rattle.desk_world.proofs.Views.{from_grows, view_starts}

-- the start log

first_is : (w : ℕ) (v : ViewLog) (ps : List Message) → v.begun ≡ false → v.start ≡ [] →
    spec.first_start ps w ≡ (view_from w v ps).start
first_is w v [] b s = sym s
first_is w v (StartView from x c l ∷ ps) b s = by_test (first_is w v ps b s) (eqb x w)
  where
    by_test : spec.first_start ps w ≡ (view_from w v ps).start → (t : Bool) → (if t then l else spec.first_start ps w)
        ≡ (view_from w (if t && not v.begun then record { begun = true; start = l; log = l } else v) ps).start
    by_test rest true = rw b (sym ((from_grows w (record { begun = true; start = l; log = l }) ps).start refl))
    by_test rest false = rest
first_is w v (Prepare from x m c e ∷ ps) b s =
    cond_both (eqb x w && v.begun && eqb m (length v.log + 1)) _ _
    (λ (u : ViewLog). spec.first_start ps w ≡ (view_from w u ps).start)
    (λ t. absurd
    (false≢true
    (sym b ∙ (and_parts (eqb x w) v.begun (and_parts (eqb x w && v.begun) (eqb m (length v.log + 1)) t).0).1)))
    (λ _. first_is w v ps b s)
first_is w v (PrepareOk from x m ∷ ps) b s = first_is w v ps b s
first_is w v (Commit from x c ∷ ps) b s = first_is w v ps b s
first_is w v (StartViewChange from x ∷ ps) b s = first_is w v ps b s
first_is w v (DoViewChange from x u c l ∷ ps) b s = first_is w v ps b s
first_is w v (GetState from x c ∷ ps) b s = first_is w v ps b s
first_is w v (NewState from x c d l ∷ ps) b s = first_is w v ps b s

pub start_is : (ps : List Message) (w : ℕ) → spec.start_log ps w ≡ announced_start ps w
start_is ps zero = sym ((from_grows 0 (view_start 0) ps).start refl)
start_is ps (suc w) = first_is (suc w) (view_start (suc w)) ps (ne_eqb (suc w) 0 (λ e. omega (arith, e))) refl

-- each later place of a view's log has a Prepare

abbrev SentPrepare : List Message → ℕ → ℕ → Type 0
SentPrepare ps w m = (j c : ℕ) × (e : Entry) × Contains ps (Prepare j w m c e)

sent_there : (p : Message) (ps : List Message) (w m : ℕ) → SentPrepare ps w m → SentPrepare (p ∷ ps) w m
sent_there p ps w m s = (s.0, s.1, s.2, Contains-there p ps _ s.3)

sent_from_place : (w : ℕ) (v : ViewLog) (ps : List Message) (m : ℕ) → length v.log < m →
    (v.begun ≡ false → length (view_from w v ps).start < m) → m ≤ length (view_from w v ps).log → SentPrepare ps w m
sent_from_place w v [] m far late within = absurd (omega (arith, far, within))
sent_from_place w v (StartView from x c l ∷ ps) m far late within =
    cond_both (eqb x w && not v.begun) _ _ (λ (u : ViewLog). (v.begun ≡ false → length (view_from w u ps).start < m) →
    m ≤ length (view_from w u ps).log → SentPrepare (StartView from x c l ∷ ps) w m)
    (λ t early inside.
    let u : ViewLog = record { begun = true; start = l; log = l } in
    let same : (view_from w u ps).start ≡ l = (from_grows w u ps).start refl in
    let off : v.begun ≡ false = not-true v.begun (and_parts (eqb x w) (not v.begun) t).1 in
    sent_there _ ps w m (sent_from_place w u ps m (omega (arith, early off, ap length same))
    (λ z. absurd (false≢true (sym z))) inside))
    (λ _ early inside. sent_there _ ps w m (sent_from_place w v ps m far early inside))
    late within
sent_from_place w v (Prepare from x k c e ∷ ps) m far late within =
    cond_both (eqb x w && v.begun && eqb k (length v.log + 1)) _ _
    (λ (u : ViewLog). (v.begun ≡ false → length (view_from w u ps).start < m) → m ≤ length (view_from w u ps).log →
    SentPrepare (Prepare from x k c e ∷ ps) w m)
    (λ t early inside.
    let a = and_parts (eqb x w && v.begun) (eqb k (length v.log + 1)) t in
    let b = and_parts (eqb x w) v.begun a.0 in
    let view : x ≡ w = eqb-true x w b.0 in
    let place : k ≡ length v.log + 1 = eqb-true k (length v.log + 1) a.1 in
    let u : ViewLog = record { begun = v.begun; start = v.start; log = v.log ++ e ∷ [] } in
    let pushed : length (v.log ++ e ∷ []) ≡ length v.log + 1 = length_push v.log e in
    ⊎_elim
    (λ (next : length v.log + 1 < m). sent_there _ ps w m
    (sent_from_place w u ps m (omega (arith, next, pushed)) (λ z. absurd (false≢true (sym z ∙ b.1))) inside))
    (λ (here : m ≤ length v.log + 1).
    let same : k ≡ m = omega (arith, place, here, far) in
    (from, c, e, rw (view, same) (Contains-here (Prepare from w m c e) ps)))
    (cases_lt (length v.log + 1) m))
    (λ _ early inside. sent_there _ ps w m (sent_from_place w v ps m far early inside))
    late within
sent_from_place w v (PrepareOk from x k ∷ ps) m far late within =
    sent_there _ ps w m (sent_from_place w v ps m far late within)
sent_from_place w v (Commit from x c ∷ ps) m far late within =
    sent_there _ ps w m (sent_from_place w v ps m far late within)
sent_from_place w v (StartViewChange from x ∷ ps) m far late within =
    sent_there _ ps w m (sent_from_place w v ps m far late within)
sent_from_place w v (DoViewChange from x u c l ∷ ps) m far late within =
    sent_there _ ps w m (sent_from_place w v ps m far late within)
sent_from_place w v (GetState from x c ∷ ps) m far late within =
    sent_there _ ps w m (sent_from_place w v ps m far late within)
sent_from_place w v (NewState from x c d l ∷ ps) m far late within =
    sent_there _ ps w m (sent_from_place w v ps m far late within)

-- the first Prepare of a place

record FirstPrepare (ps : List Message) (w m : ℕ) (es : List Entry) : Type 0 where
  entry : Entry
  is : es ≡ entry ∷ []
  from : ℕ
  commit : ℕ
  sent : Contains ps (Prepare from w m commit entry)

first_there : (p : Message) (ps : List Message) (w m : ℕ) (es : List Entry) → FirstPrepare ps w m es →
    FirstPrepare (p ∷ ps) w m es
first_there p ps w m es f = record {
  entry = f.entry;
  is = f.is;
  from = f.from;
  commit = f.commit;
  sent =
      Contains-there p ps _ f.sent;
}

-- a Prepare in front
with_prepare : (from x k c : ℕ) (e : Entry) (ps : List Message) (w m : ℕ) (es : List Entry) (P : List Entry → Type 0) →
    (FirstPrepare (Prepare from x k c e ∷ ps) w m (e ∷ []) → P (e ∷ [])) → P es →
    P (spec.prepare_or w m (Prepare from x k c e) es)
with_prepare from x k c e ps w m es P h g = cond_both (eqb x w && eqb k m) _ _ P
    (λ t.
    let a = and_parts (eqb x w) (eqb k m) t in
    let view : x ≡ w = eqb-true x w a.0 in
    let place : k ≡ m = eqb-true k m a.1 in
    h (record {
      entry = e;
      is = refl;
      from = from;
      commit = c;
      sent =
          rw (view, place) (Contains-here (Prepare from w m c e) ps);
    }))
    (λ _. g)

keep : (p : Message) (ps : List Message) (w m : ℕ) (es : List Entry) → FirstPrepare ps w m es →
    FirstPrepare (p ∷ ps) w m (spec.prepare_or w m p es)
keep (Prepare from x k c e) ps w m es f =
    with_prepare from x k c e ps w m es (FirstPrepare (Prepare from x k c e ∷ ps) w m) (λ g. g)
    (first_there _ ps w m es f)
keep (PrepareOk from x k) ps w m es f = first_there _ ps w m es f
keep (Commit from x c) ps w m es f = first_there _ ps w m es f
keep (StartViewChange from x) ps w m es f = first_there _ ps w m es f
keep (DoViewChange from x u c l) ps w m es f = first_there _ ps w m es f
keep (StartView from x c l) ps w m es f = first_there _ ps w m es f
keep (GetState from x c) ps w m es f = first_there _ ps w m es f
keep (NewState from x c d l) ps w m es f = first_there _ ps w m es f

prepare_found : (ps : List Message) (w m : ℕ) → SentPrepare ps w m → FirstPrepare ps w m (spec.first_prepared ps w m)
prepare_found [] w m s = absurd (Contains-none _ s.3)
prepare_found (p ∷ ps) w m s = ⊎_elim
    (λ e. subst (λ (q : Message). FirstPrepare (q ∷ ps) w m (spec.prepare_or w m q (spec.first_prepared ps w m)))
    (sym e)
    here)
    (λ r. keep p ps w m (spec.first_prepared ps w m) (prepare_found ps w m (s.0, s.1, s.2, r)))
    (Contains-cases p ps _ s.3)
  where
    here : FirstPrepare (Prepare s.0 w m s.1 s.2 ∷ ps) w m
        (spec.prepare_or w m (Prepare s.0 w m s.1 s.2) (spec.first_prepared ps w m))
    here =
        let test : (eqb w w && eqb m m) ≡ true = and_from (eqb w w) (eqb m m) (eq-eqb w w refl) (eq-eqb m m refl) in
        rw test (record {
          entry = s.2;
          is = refl;
          from = s.0;
          commit = s.1;
          sent =
              Contains-here (Prepare s.0 w m s.1 s.2) ps;
        })

prepare_cases : (ps : List Message) (w m : ℕ) →
    (spec.first_prepared ps w m ≡ []) ⊎ FirstPrepare ps w m (spec.first_prepared ps w m)
prepare_cases [] w m = inl refl
prepare_cases (Prepare from x k c e ∷ ps) w m =
    with_prepare from x k c e ps w m (spec.first_prepared ps w m)
    (λ es. (es ≡ []) ⊎ FirstPrepare (Prepare from x k c e ∷ ps) w m es) (λ g. inr g)
    (⊎_elim (λ z. inl z) (λ f. inr (first_there _ ps w m (spec.first_prepared ps w m) f)) (prepare_cases ps w m))
prepare_cases (PrepareOk from x k ∷ ps) w m =
    ⊎_elim (λ z. inl z) (λ f. inr (first_there _ ps w m _ f)) (prepare_cases ps w m)
prepare_cases (Commit from x c ∷ ps) w m =
    ⊎_elim (λ z. inl z) (λ f. inr (first_there _ ps w m _ f)) (prepare_cases ps w m)
prepare_cases (StartViewChange from x ∷ ps) w m =
    ⊎_elim (λ z. inl z) (λ f. inr (first_there _ ps w m _ f)) (prepare_cases ps w m)
prepare_cases (DoViewChange from x u c l ∷ ps) w m =
    ⊎_elim (λ z. inl z) (λ f. inr (first_there _ ps w m _ f)) (prepare_cases ps w m)
prepare_cases (StartView from x c l ∷ ps) w m =
    ⊎_elim (λ z. inl z) (λ f. inr (first_there _ ps w m _ f)) (prepare_cases ps w m)
prepare_cases (GetState from x c ∷ ps) w m =
    ⊎_elim (λ z. inl z) (λ f. inr (first_there _ ps w m _ f)) (prepare_cases ps w m)
prepare_cases (NewState from x c d l ∷ ps) w m =
    ⊎_elim (λ z. inl z) (λ f. inr (first_there _ ps w m _ f)) (prepare_cases ps w m)

-- the entries place by place

abbrev at_most_one : Option Entry → List Entry
at_most_one None = []
at_most_one (Some e) = e ∷ []

one_and_rest : (k : ℕ) (l : List Entry) → at_most_one (slice_get l k) ++ drop (suc k) l ≡ drop k l
one_and_rest zero [] = refl
one_and_rest zero (x ∷ xs) = refl
one_and_rest (suc k) [] = refl
one_and_rest (suc k) (x ∷ xs) = one_and_rest k xs

drop_all : (k : ℕ) (l : List Entry) → length l ≤ k → drop k l ≡ []
drop_all zero [] h = refl
drop_all zero (x ∷ xs) h = absurd (omega (arith, h))
drop_all (suc k) [] h = refl
drop_all (suc k) (x ∷ xs) h = drop_all k xs (omega (arith, h))

later_entries_are : (ps : List Message) (w : ℕ) (l : List Entry) (k count : ℕ) →
    ((m : ℕ) → k < m → spec.first_prepared ps w m ≡ at_most_one (entry_at l m)) → length l ≤ k + count →
    spec.later_entries ps w k count ≡ drop k l
later_entries_are ps w l k zero h b = sym (drop_all k l (omega (arith, b)))
later_entries_are ps w l k (suc count) h b =
    let rest : spec.later_entries ps w (suc k) count ≡ drop (suc k) l =
    later_entries_are ps w l (suc k) count (λ m lt. h m (omega (arith, lt))) (omega (arith, b)) in
    ap (λ es. es ++ spec.later_entries ps w (suc k) count) (h (suc k) (omega arith))
    ∙ (ap (λ es. at_most_one (slice_get l k) ++ es) rest ∙ one_and_rest k l)

-- A view that has not started has no entry.
not_begun : (w : ℕ) (v : ViewLog) (ps : List Message) → (view_from w v ps).begun ≡ false → view_from w v ps ≡ v
not_begun w v [] b = refl
not_begun w v (StartView from x c l ∷ ps) b =
    cond_both (eqb x w && not v.begun) _ _ (λ (u : ViewLog). (view_from w u ps).begun ≡ false → view_from w u ps ≡ v)
    (λ t q. absurd (false≢true (sym q ∙ (from_grows w (record { begun = true; start = l; log = l }) ps).begun refl)))
    (λ _ q. not_begun w v ps q) b
not_begun w v (Prepare from x m c e ∷ ps) b =
    cond_both (eqb x w && v.begun && eqb m (length v.log + 1)) _ _ (λ (u : ViewLog). (view_from w u ps).begun ≡ false →
    view_from w u ps ≡ v)
    (λ t q.
    let on : v.begun ≡ true =
    (and_parts (eqb x w) v.begun (and_parts (eqb x w && v.begun) (eqb m (length v.log + 1)) t).0).1 in
    absurd (false≢true
    (sym q ∙ (from_grows w (record { begun = v.begun; start = v.start; log = v.log ++ e ∷ [] }) ps).begun on)))
    (λ _ q. not_begun w v ps q) b
not_begun w v (PrepareOk from x m ∷ ps) b = not_begun w v ps b
not_begun w v (Commit from x c ∷ ps) b = not_begun w v ps b
not_begun w v (StartViewChange from x ∷ ps) b = not_begun w v ps b
not_begun w v (DoViewChange from x u c l ∷ ps) b = not_begun w v ps b
not_begun w v (GetState from x c ∷ ps) b = not_begun w v ps b
not_begun w v (NewState from x c d l ∷ ps) b = not_begun w v ps b

log_within : (n : ℕ) (ps : List Message) (at : Nodes) → GroupInvariant n ps at → (w : ℕ) →
    length (announced_log ps w) ≤ LOG_ENTRIES
log_within n ps at k w = ⊎_elim
    (λ b. (k.views w b).within)
    (λ b.
    let empty : length (announced_log ps w) ≡ 0 =
    ap (λ (v : ViewLog). length v.log) (not_begun w (view_start w) ps b) in
    omega (arith, empty))
    (cases_Bool (has_begun ps w))

place_is : (n : ℕ) (ps : List Message) (at : Nodes) → GroupInvariant n ps at → (w m : ℕ) →
    length (announced_start ps w) < m → spec.first_prepared ps w m ≡ at_most_one (entry_at (announced_log ps w) m)
place_is n ps at k w m far = by_place (cases_lt (length (announced_log ps w)) m)
  where
    stands : (es : List Entry) → (f : FirstPrepare ps w m es) → entry_at (announced_log ps w) m ≡ Some f.entry
    stands es f = let r : PrepareHolds n ps f.from w m f.commit f.entry =
        k.packets (Prepare f.from w m f.commit f.entry) f.sent in r.stands

    here : (f : FirstPrepare ps w m (spec.first_prepared ps w m)) →
        spec.first_prepared ps w m ≡ at_most_one (entry_at (announced_log ps w) m)
    here f = f.is ∙ ap at_most_one (sym (stands (spec.first_prepared ps w m) f))

    nothing_there : (o : Option Entry) → entry_at (announced_log ps w) m ≡ o → length (announced_log ps w) < m →
        [] ≡ at_most_one o
    nothing_there None e l = refl
    nothing_there (Some x) e l = absurd (omega (arith, l, (entry_at_within (announced_log ps w) m x e).1))

    by_place : (length (announced_log ps w) < m) ⊎ (m ≤ length (announced_log ps w)) →
        spec.first_prepared ps w m ≡ at_most_one (entry_at (announced_log ps w) m)
    by_place (inl l) = ⊎_elim (λ z. z ∙ nothing_there (entry_at (announced_log ps w) m) refl l) (λ f. here f)
        (prepare_cases ps w m)
    by_place (inr l) =
        here (prepare_found ps w m (sent_from_place w (view_start w) ps m (omega (arith, far)) (λ _. far) l))

-- a prefix and the entries after it are the log
prefix_and_rest : (xs ys : List Entry) → IsLogPrefix xs ys → xs ++ drop (length xs) ys ≡ ys
prefix_and_rest xs ys h = ap (λ es. es ++ drop (length xs) ys) (sym (take-prefix xs ys h))
    ∙ take-append-drop (length xs) ys

-- Both give one log in every world.
pub log_is : (n : ℕ) (ps : List Message) (at : Nodes) → GroupInvariant n ps at → (w : ℕ) →
    spec.log_of_view ps w ≡ announced_log ps w
log_is n ps at k w =
    let s : List Entry = announced_start ps w in
    let l : List Entry = announced_log ps w in
    let starts : IsLogPrefix s l = view_starts ps w in
    let bound : length l ≤ length s + (LOG_ENTRIES - length s) =
    omega (arith, log_within n ps at k w, length-prefix s l starts) in
    let rest : spec.later_entries ps w (length s) (LOG_ENTRIES - length s) ≡ drop (length s) l =
    later_entries_are ps w l (length s) (LOG_ENTRIES - length s) (λ m far. place_is n ps at k w m far) bound in
    ap (λ x. x ++ spec.later_entries ps w (length x) (LOG_ENTRIES - length x)) (start_is ps w)
    ∙ (ap (λ x. s ++ x) rest ∙ prefix_and_rest s l starts)
