-- Prefixes of logs.
use Rattle.std.proofs.Common.{◌≡◌, ℕ, zero, suc, ◌≤◌, List, [], ◌∷◌, ◌++◌, length, take, Some, refl, sym, ap}
use Rattle.std.proofs.Common.{◌∙◌, subst, arith}
use Rattle.std.proofs.lemmas.Option.{none-some, same_Some}
use Rattle.desk_types.specs.declared.command.Entry.{Entry}
use Rattle.desk_log.specs.Entries.{entry_at, IsLogPrefix}
use Rattle.desk_log.specs.Laws.{PrefixOfItself, PrefixOfPrefix, PrefixOfLonger, FirstEntriesArePrefix}
use Rattle.desk_log.specs.Laws.{PrefixIsFirstEntries, PrefixesAreOrdered}

pub prefix_refl : PrefixOfItself
prefix_refl [] = tt
prefix_refl (x ∷ xs) = (refl, prefix_refl xs)

pub prefix_trans : PrefixOfPrefix
prefix_trans [] ys zs h k = tt
prefix_trans (x ∷ xs) [] zs h k = absurd h
prefix_trans (x ∷ xs) (y ∷ ys) [] h k = absurd k
prefix_trans (x ∷ xs) (y ∷ ys) (z ∷ zs) h k = (h.0 ∙ k.0, prefix_trans xs ys zs h.1 k.1)

pub prefix_append : PrefixOfLonger
prefix_append [] ys = tt
prefix_append (x ∷ xs) ys = (refl, prefix_append xs ys)

pub prefix_take : FirstEntriesArePrefix
prefix_take zero xs = tt
prefix_take (suc k) [] = tt
prefix_take (suc k) (x ∷ xs) = (refl, prefix_take k xs)

pub length-prefix : (xs ys : List Entry) → IsLogPrefix xs ys → length xs ≤ length ys
length-prefix [] ys h = omega arith
length-prefix (x ∷ xs) [] h = absurd h
length-prefix (x ∷ xs) (y ∷ ys) h = omega (arith, length-prefix xs ys h.1)

pub take-prefix : (xs ys : List Entry) → IsLogPrefix xs ys → take (length xs) ys ≡ xs
take-prefix [] ys h = refl
take-prefix (x ∷ xs) [] h = absurd h
take-prefix (x ∷ xs) (y ∷ ys) h =
    ap (λ e. e ∷ take (length xs) ys) (sym h.0) ∙ ap (λ es. x ∷ es) (take-prefix xs ys h.1)

pub prefix_is_first : PrefixIsFirstEntries
prefix_is_first xs ys = (
  (λ h. (length-prefix xs ys h, take-prefix xs ys h)),
  λ h. subst (λ es. IsLogPrefix es ys) h.1
      (prefix_take (length xs) ys),
)

pub prefixes_in_order : PrefixesAreOrdered
prefixes_in_order [] ys zs h k l = tt
prefixes_in_order (x ∷ xs) [] zs h k l = absurd (omega (arith, l))
prefixes_in_order (x ∷ xs) (y ∷ ys) [] h k l = absurd h
prefixes_in_order (x ∷ xs) (y ∷ ys) (z ∷ zs) h k l =
    (h.0 ∙ sym k.0, prefixes_in_order xs ys zs h.1 k.1 (omega (arith, l)))

-- one entry more, which stands next in the log
pub prefix_push : (xs ys : List Entry) (e : Entry) → IsLogPrefix xs ys → entry_at ys (suc (length xs)) ≡ Some e →
    IsLogPrefix (xs ++ e ∷ []) ys
prefix_push [] [] e h there = absurd (none-some e there)
prefix_push [] (y ∷ ys) e h there = (sym (same_Some y e there), tt)
prefix_push (x ∷ xs) [] e h there = absurd h
prefix_push (x ∷ xs) (y ∷ ys) e h there = (h.0, prefix_push xs ys e h.1 there)

-- fewer first entries of a prefix are fewer first entries of the log
pub take_take-prefix : (k n : ℕ) (xs ys : List Entry) → k ≤ n → IsLogPrefix xs ys → IsLogPrefix (take k xs) (take n ys)
take_take-prefix zero n xs ys h f = tt
take_take-prefix (suc k) zero xs ys h f = absurd (omega (arith, h))
take_take-prefix (suc k) (suc n) [] ys h f = tt
take_take-prefix (suc k) (suc n) (x ∷ xs) [] h f = absurd f
take_take-prefix (suc k) (suc n) (x ∷ xs) (y ∷ ys) h f = (f.0, take_take-prefix k n xs ys (omega (arith, h)) f.1)
