-- Rising logs.
use Rattle.std.proofs.Common.{◌≡◌, ℕ, zero, suc, ◌<◌, ◌⊎◌, inl, inr, List, [], ◌∷◌, ◌++◌, Option, Some, None, refl}
use Rattle.std.proofs.Common.{sym, ap, subst, ◌∙◌, arith}
use Rattle.std.specs.List.{slice_get}
use Rattle.std.proofs.lemmas.Bool.{cases_order}
use Rattle.std.proofs.lemmas.Option.{none-some, same_Some}
use Rattle.desk_types.specs.declared.command.Entry.{Entry}
use Rattle.desk_log.specs.Entries.{entry_at, latest, IsRising, IsLogPrefix}
use Rattle.desk_log.specs.Laws.{IsLatest, IsNewNumber, RisingWithOneMore, PrefixOfRising, LaterIsGreater}
use Rattle.desk_log.specs.Laws.{NumbersStandOnce}
use Rattle.desk_log.proofs.Latest.{latest_is_last, latest_is_none}
use Rattle.desk_log.proofs.Lists.{Each, Pairs, pairs_from_all_pairs, all_pairs_from_pairs}

-- the order of two entries of a rising log, of which the first stands before the second
abbrev pub InOrder : Entry → Entry → Type 0
InOrder e f = e.client ≡ f.client → e.number < f.number

each_parts : (P : Entry → Type 0) (xs : List Entry) (y : Entry) → Each P (xs ++ y ∷ []) → Each P xs × P y
each_parts P [] y h = (tt, h.0)
each_parts P (x ∷ xs) y h = let rest = each_parts P xs y h.1 in ((h.0, rest.0), rest.1)

each_push : (P : Entry → Type 0) (xs : List Entry) (y : Entry) → Each P xs → P y → Each P (xs ++ y ∷ [])
each_push P [] y h k = (k, tt)
each_push P (x ∷ xs) y h k = (h.0, each_push P xs y h.1 k)

each_get : (P : Entry → Type 0) (xs : List Entry) (k : ℕ) (e : Entry) → Each P xs → slice_get xs k ≡ Some e → P e
each_get P [] k e h there = absurd (none-some e there)
each_get P (x ∷ xs) zero e h there = rw (← same_Some x e there) h.0
each_get P (x ∷ xs) (suc k) e h there = each_get P xs k e h.1 there

each_from_get : (P : Entry → Type 0) (xs : List Entry) → ((k : ℕ) (e : Entry) → slice_get xs k ≡ Some e → P e) →
    Each P xs
each_from_get P [] h = tt
each_from_get P (x ∷ xs) h = (h zero x refl, each_from_get P xs (λ k. h (suc k)))

each_prefix : (P : Entry → Type 0) (xs ys : List Entry) → IsLogPrefix xs ys → Each P ys → Each P xs
each_prefix P [] ys f h = tt
each_prefix P (x ∷ xs) [] f h = absurd f
each_prefix P (x ∷ xs) (y ∷ ys) f h = (rw f.0 h.0, each_prefix P xs ys f.1 h.1)

-- one more entry, which each earlier one is in order with
in_order_push : (log : List Entry) (e : Entry) → Pairs InOrder log → Each (λ x. InOrder x e) log →
    Pairs InOrder (log ++ e ∷ [])
in_order_push [] e h k = (tt, tt)
in_order_push (x ∷ xs) e h k = (each_push (InOrder x) xs e h.0 k.0, in_order_push xs e h.1 k.1)

in_order_pop : (log : List Entry) (e : Entry) → Pairs InOrder (log ++ e ∷ []) →
    Pairs InOrder log × Each (λ x. InOrder x e) log
in_order_pop [] e h = (tt, tt)
in_order_pop (x ∷ xs) e h =
    let first = each_parts (InOrder x) xs e h.0 in
    let rest = in_order_pop xs e h.1 in
    ((first.0, rest.0), (first.1, rest.1))

in_order_prefix : (xs ys : List Entry) → IsLogPrefix xs ys → Pairs InOrder ys → Pairs InOrder xs
in_order_prefix [] ys f h = tt
in_order_prefix (x ∷ xs) [] f h = absurd f
in_order_prefix (x ∷ xs) (y ∷ ys) f h = (rw f.0 (each_prefix (InOrder y) xs ys f.1 h.0), in_order_prefix xs ys f.1 h.1)

pub rising_prefix : PrefixOfRising
rising_prefix xs ys f h =
    all_pairs_from_pairs InOrder xs (in_order_prefix xs ys f (pairs_from_all_pairs InOrder ys h))

in_order_get : (xs : List Entry) (j k : ℕ) (e f : Entry) → Pairs InOrder xs → j < k → slice_get xs j ≡ Some e →
    slice_get xs k ≡ Some f → InOrder e f
in_order_get [] j k e f h l a b = absurd (none-some e a)
in_order_get (x ∷ xs) zero zero e f h l a b = absurd (omega (arith, l))
in_order_get (x ∷ xs) zero (suc k) e f h l a b = rw (← same_Some x e a) (each_get (InOrder x) xs k f h.0 b)
in_order_get (x ∷ xs) (suc j) zero e f h l a b = absurd (omega (arith, l))
in_order_get (x ∷ xs) (suc j) (suc k) e f h l a b = in_order_get xs j k e f h.1 (omega (arith, l)) a b

pub later_is_greater : LaterIsGreater
later_is_greater log zero later e f h l a b = absurd (none-some e a)
later_is_greater log (suc j) zero e f h l a b = absurd (omega (arith, l))
later_is_greater log (suc j) (suc k) e f h l a b =
    in_order_get log j k e f (pairs_from_all_pairs InOrder log h) (omega (arith, l)) a b

pub numbers_stand_once : NumbersStandOnce
numbers_stand_once log j k e f h a b c n = by_place (cases_order j k)
  where
    by_place : (j ≡ k) ⊎ ((j < k) ⊎ (k < j)) → j ≡ k
    by_place (inl same) = same
    by_place (inr (inl before)) = absurd (omega (arith, n, later_is_greater log j k e f h before a b c))
    by_place (inr (inr after)) = absurd (omega (arith, n, later_is_greater log k j f e h after b a (sym c)))

each_at : (P : Entry → Type 0) (log : List Entry) (place : ℕ) (e : Entry) → Each P log → entry_at log place ≡ Some e →
    P e
each_at P log zero e h there = absurd (none-some e there)
each_at P log (suc k) e h there = each_get P log k e h there

-- in a rising log each earlier number of the client is less than a new one
earlier_is_less : (log : List Entry) (e : Entry) (found : Option ℕ) → latest e.client log ≡ found → IsRising log →
    IsNewNumber log e → (k : ℕ) (x : Entry) → slice_get log k ≡ Some x → InOrder x e
earlier_is_less log e None none h new k x there same = absurd (latest_is_none e.client log none (suc k) x there same)
earlier_is_less log e (Some place) is h new k x there same =
    let l : IsLatest e.client log place = latest_is_last e.client log place is in
    let less : l.entry.number < e.number = new place l.entry is l.there in
    by_place l less (cases_order (suc k) place)
  where
    by_place : (l : IsLatest e.client log place) → l.entry.number < e.number →
        (suc k ≡ place) ⊎ ((suc k < place) ⊎ (place < suc k)) → x.number < e.number
    by_place l less (inl here) =
        let there_too : entry_at log (suc k) ≡ Some l.entry =
        subst (λ p. entry_at log p ≡ Some l.entry) (sym here) l.there in
        let one : x ≡ l.entry = same_Some x l.entry (sym there ∙ there_too) in
        rw one less
    by_place l less (inr (inl before)) =
        omega (
          arith,
          less,
          later_is_greater log (suc k) place x l.entry h before there l.there
              (same ∙ sym l.client_is),
        )
    by_place l less (inr (inr after)) = absurd (omega (arith, after, l.last (suc k) x there same))

pub rising_with_one_more : RisingWithOneMore
rising_with_one_more log e = (
  split,
  λ h. all_pairs_from_pairs InOrder (log ++ e ∷ [])
      (in_order_push log e (pairs_from_all_pairs InOrder log h.0)
      (each_from_get (λ x. InOrder x e) log (earlier_is_less log e (latest e.client log) refl h.0 h.1))),
)
  where
    split : IsRising (log ++ e ∷ []) → IsRising log × IsNewNumber log e
    split h =
        let parts = in_order_pop log e (pairs_from_all_pairs InOrder (log ++ e ∷ []) h) in (
          all_pairs_from_pairs InOrder log parts.0,
          λ place f is there.
              let l : IsLatest e.client log place = latest_is_last e.client log place is in
              let one : l.entry ≡ f = same_Some l.entry f (sym l.there ∙ there) in
              each_at (λ x. InOrder x e) log place f parts.1 there
              (ap (λ (x : Entry). x.client) (sym one) ∙ l.client_is),
        )
