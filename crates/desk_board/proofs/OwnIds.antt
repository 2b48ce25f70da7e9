-- The desk's own identifiers of two places differ.
use Rattle.std.proofs.Common.{◌≡◌, ◌<◌, ◌+◌, ◌*◌, ◌/◌, ◌%◌, ◌^◌, ℕ, zero, suc, List, [], ◌∷◌, ◌++◌, length, codes}
use Rattle.std.proofs.Common.{arith, refl, sym, ◌∙◌}
use Rattle.std.proofs.Math.Nat.{pow-suc}
use Rattle.std.proofs.lemmas.List.{append_cancel_left, append_cancel_right}
use Rattle.desk_types.proofs.Own.{length-last_digits}
use Rattle.desk_types.specs.Identifier.{last_digits, own_id}

-- the last elements of two lists of one length
last_same : (xs ys : List ℕ) (a b : ℕ) → length xs ≡ length ys → xs ++ a ∷ [] ≡ ys ++ b ∷ [] → (xs ≡ ys) × (a ≡ b)
last_same [] [] a b l h = (refl, cc)
last_same [] (y ∷ ys) a b l h = absurd (omega (arith, l))
last_same (x ∷ xs) [] a b l h = absurd (omega (arith, l))
last_same (x ∷ xs) (y ∷ ys) a b l h =
    let same : (x ≡ y) × (xs ++ a ∷ [] ≡ ys ++ b ∷ []) = (cc, cc) in
    let rest : (xs ≡ ys) × (a ≡ b) = last_same xs ys a b (omega (arith, l)) same.1 in
    (rw (same.0, rest.0) refl, rest.1)

digits_more : (k n : ℕ) → last_digits (suc k) n ≡ last_digits k (n / 10) ++ (48 + n % 10) ∷ []
unfolding last_digits
digits_more k n = refl

digits_differ : (k m n : ℕ) → m < 10 ^ k → n < 10 ^ k → last_digits k m ≡ last_digits k n → m ≡ n
digits_differ zero m n a b h = omega (arith, a, b)
digits_differ (suc k) m n a b h =
    let e : 10 ^ (suc k) ≡ 10 ^ k * 10 = pow-suc 10 k in
    let both : (last_digits k (m / 10) ≡ last_digits k (n / 10)) × (48 + m % 10 ≡ 48 + n % 10) =
    last_same (last_digits k (m / 10)) (last_digits k (n / 10)) _ _ (length-last_digits k (m / 10) ∙
    sym (length-last_digits k (n / 10))) (sym (digits_more k m) ∙ (h ∙ digits_more k n)) in
    let prefix : m / 10 ≡ n / 10 =
    digits_differ k (m / 10) (n / 10) (omega (arith, a, e)) (omega (arith, b, e)) both.0 in
    omega (arith, prefix, both.1)

pub own_id-differ : (m n : ℕ) (domain : List ℕ) → m < 10 ^ 12 → n < 10 ^ 12 → own_id m domain ≡ own_id n domain →
    m ≡ n
unfolding own_id
own_id-differ m n domain a b h =
    let tails : last_digits 12 m ++ 58 ∷ domain ≡ last_digits 12 n ++ 58 ∷ domain =
    append_cancel_left (codes "urn:emergency:uid:incidentid:") _ _ h in
    digits_differ 12 m n a b (append_cancel_right (last_digits 12 m) (last_digits 12 n) (58 ∷ domain) tails)
