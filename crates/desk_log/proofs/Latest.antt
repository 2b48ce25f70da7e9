-- A client's latest place.
use Rattle.std.proofs.Common.{◌≡◌, ◌≢◌, ◌≤◌, ◌+◌, ℕ, zero, suc, refl, sym, ap, subst, ◌∙◌, List, [], ◌∷◌, ◌++◌}
use Rattle.std.proofs.Common.{length, arith, Bool, true, false, cond, eqb}
use Rattle.std.proofs.Common.{Option, Some, None}
use Rattle.std.specs.List.{slice_get}
use Rattle.std.specs.Option.{option_or}
use Rattle.std.proofs.lemmas.Bool.{eq-eqb, eqb-true, cond-true}
use Rattle.std.proofs.lemmas.Option.{none-some, same_Some, cond_some}
use Rattle.desk_types.specs.declared.command.Entry.{Entry}
use Rattle.desk_log.specs.Entries.{entry_at, latest_from, latest}
use Rattle.desk_log.specs.Laws.{IsLatest, LatestIsLast, LatestIsNone, LatestOfOneMore}
use Rattle.desk_log.proofs.Places.{entry_at_within}

-- the entry is another client's
abbrev pub IsOfAnotherClient : ℕ → Entry → Type 0
IsOfAnotherClient client e = e.client ≢ client

-- the place of one entry, where it is the client's
abbrev pub entry_place : ℕ → ℕ → Entry → Option ℕ
entry_place place client e = cond (eqb e.client client) (Some place) None

option_or-none : (o : Option ℕ) → option_or o None ≡ o
option_or-none None = refl
option_or-none (Some p) = refl

option_or-assoc : (o p q : Option ℕ) → option_or (option_or o p) q ≡ option_or o (option_or p q)
option_or-assoc None p q = refl
option_or-assoc (Some x) p q = refl

option_or-place : (t : Bool) (place : ℕ) (o : Option ℕ) → option_or (cond t (Some place) None) o ≡ cond t (Some place) o
option_or-place true place o = refl
option_or-place false place o = refl

pub latest_append : (place client n : ℕ) (xs ys : List Entry) → n ≡ length xs →
    latest_from place client (xs ++ ys) ≡ option_or (latest_from (place + n) client ys) (latest_from place client xs)
latest_append place client n [] ys e =
    let here : place + n ≡ place = omega (arith, e) in
    rw here (sym (option_or-none (latest_from place client ys)))
latest_append place client n (x ∷ xs) ys e =
    let there : place + 1 + length xs ≡ place + n = omega (arith, e) in
    rw (latest_append (place + 1) client (length xs) xs ys refl, there)
    (option_or-assoc (latest_from (place + n) client ys) (latest_from (place + 1) client xs)
    (entry_place place client x))

-- one more entry at the end
pub latest_push : LatestOfOneMore
latest_push client xs e =
    let last : 1 + length xs ≡ length xs + 1 = omega arith in
    latest_append 1 client (length xs) xs (e ∷ []) refl
    ∙ (ap (λ p. option_or (entry_place p client e) (latest client xs)) last
    ∙ option_or-place (eqb e.client client) (length xs + 1) (latest client xs))

-- what the recursion finds, by indices

option_or-is_none : (o p : Option ℕ) → option_or o p ≡ None → (o ≡ None) × (p ≡ None)
option_or-is_none None p h = (refl, h)
option_or-is_none (Some x) p h = absurd (none-some x (sym h))

none_here : (place client : ℕ) (e : Entry) → entry_place place client e ≡ None → e.client ≢ client
none_here place client e h same = none-some place (sym h ∙ cond-true _ _ _ (eq-eqb e.client client same))

none_from : (place client : ℕ) (xs : List Entry) → latest_from place client xs ≡ None → (k : ℕ) (e : Entry) →
    slice_get xs k ≡ Some e → e.client ≢ client
none_from place client [] h k e there = absurd (none-some e there)
none_from place client (x ∷ xs) h zero e there =
    let parts = option_or-is_none (latest_from (place + 1) client xs) (entry_place place client x) h in
    subst (IsOfAnotherClient client) (same_Some x e there) (none_here place client x parts.1)
none_from place client (x ∷ xs) h (suc k) e there =
    let parts = option_or-is_none (latest_from (place + 1) client xs) (entry_place place client x) h in
    none_from (place + 1) client xs parts.0 k e there

-- The client's entry stands at the index, and none at a later one.
record IsFound (place client : ℕ) (xs : List Entry) (found : ℕ) : Type 0 where
  index : ℕ
  entry : Entry
  found_is : found ≡ place + index
  there : slice_get xs index ≡ Some entry
  client_is : entry.client ≡ client
  last : (k : ℕ) (e : Entry) → slice_get xs k ≡ Some e → e.client ≡ client → k ≤ index

found_here : (place client found : ℕ) (x : Entry) (xs : List Entry) → latest_from (place + 1) client xs ≡ None →
    entry_place place client x ≡ Some found → IsFound place client (x ∷ xs) found
found_here place client found x xs none here =
    let parts = cond_some (eqb x.client client) place found here in
    record {
      index = 0;
      entry = x;
      found_is = omega (arith, parts.1);
      there = refl;
      client_is = eqb-true _ _ parts.0;
      last = last_is_first;
    }
  where
    last_is_first : (k : ℕ) (e : Entry) → slice_get (x ∷ xs) k ≡ Some e → e.client ≡ client → k ≤ 0
    last_is_first zero e there same = omega arith
    last_is_first (suc k) e there same = absurd (none_from (place + 1) client xs none k e there same)

found_later : (place client found : ℕ) (x : Entry) (xs : List Entry) → IsFound (place + 1) client xs found →
    IsFound place client (x ∷ xs) found
found_later place client found x xs f = record {
  index = suc f.index;
  entry = f.entry;
  found_is = omega (arith, f.found_is);
  there = f.there;
  client_is = f.client_is;
  last = last_is_later;
}
  where
    last_is_later : (k : ℕ) (e : Entry) → slice_get (x ∷ xs) k ≡ Some e → e.client ≡ client → k ≤ suc f.index
    last_is_later zero e there same = omega arith
    last_is_later (suc k) e there same = omega (arith, f.last k e there same)

found_step : (place client found : ℕ) (x : Entry) (xs : List Entry) (o : Option ℕ) →
    latest_from (place + 1) client xs ≡ o → (o ≡ Some found → IsFound (place + 1) client xs found) →
    option_or o (entry_place place client x) ≡ Some found → IsFound place client (x ∷ xs) found
found_step place client found x xs None e later h = found_here place client found x xs e h
found_step place client found x xs (Some p) e later h = found_later place client found x xs (later h)

found_from : (place client found : ℕ) (xs : List Entry) → latest_from place client xs ≡ Some found →
    IsFound place client xs found
found_from place client found [] h = absurd (none-some found h)
found_from place client found (x ∷ xs) h =
    found_step place client found x xs (latest_from (place + 1) client xs) refl
    (λ e. found_from (place + 1) client found xs e) h

-- the same, by places

pub latest_is_last : LatestIsLast
latest_is_last client log place h =
    let f : IsFound 1 client log place = found_from 1 client place log h in
    let at_index : place ≡ suc f.index = omega (arith, f.found_is) in
    record {
      entry = f.entry;
      there = subst (λ p. entry_at log p ≡ Some f.entry) (sym at_index) f.there;
      client_is = f.client_is;
      last = last_place f;
    }
  where
    last_place : IsFound 1 client log place → (later : ℕ) (e : Entry) → entry_at log later ≡ Some e →
        e.client ≡ client → later ≤ place
    last_place f zero e there same = omega arith
    last_place f (suc k) e there same = omega (arith, f.found_is, f.last k e there same)

pub latest_is_none : LatestIsNone
latest_is_none client log h zero e there = absurd (none-some e there)
latest_is_none client log h (suc k) e there = none_from 1 client log h k e there

pub latest_within : (client : ℕ) (log : List Entry) (place : ℕ) → latest client log ≡ Some place →
    (1 ≤ place) × (place ≤ length log)
latest_within client log place h =
    let l : IsLatest client log place = latest_is_last client log place h in
    entry_at_within log place l.entry l.there
