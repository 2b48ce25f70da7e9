-- Loops over sessions, and over what a session hears.
use Rattle.std.proofs.Common.{◌≡◌, ◌<◌, ◌+◌, ℕ, List, [], ◌∷◌, ◌++◌, length, take, drop, set, get_or, refl, sym, ap}
use Rattle.std.proofs.Common.{◌∙◌, subst, append_assoc, append-nil, arith}
use Rattle.std.specs.List.{AllZip, FoldsTo}
use Rattle.std.proofs.lemmas.List.{drop_more, take_more, get_or_at, get_or_default, set_at, length-take, take_all}
use Rattle.std.proofs.lemmas.List.{drop_all}
use Rattle.std.proofs.lemmas.List.Elements.{all_zip_more, length_all_zip}

-- The first so many of the list have become what R says, and the rest are as they were.
abbrev pub ZippedTo : {X : Type 0} → (X → X → Type 0) → List X → ℕ → List X → Type 0
ZippedTo {X} R xs i now = (front : List X) × (now ≡ front ++ drop i xs) × AllZip R (take i xs) front

pub zipped_none : {X : Type 0} (R : X → X → Type 0) (xs : List X) → ZippedTo R xs 0 xs
zipped_none R xs = ([], refl, tt)

pub zipped_more : {X : Type 0} (R : X → X → Type 0) (xs now : List X) (i : ℕ) (d y : X) → i < length xs →
    ZippedTo R xs i now → R (get_or now i d) y → ZippedTo R xs (i + 1) (set now i y)
zipped_more R xs now i d y lt h r =
    let front = h.0 in
    let x = get_or xs i d in
    let long : length front ≡ i = omega (arith, length_all_zip R (take i xs) front h.2, length-take i xs) in
    let parts : now ≡ front ++ x ∷ drop (i + 1) xs = h.1 ∙ ap (λ l. front ++ l) (drop_more xs i d lt) in
    let read : get_or now i d ≡ x = ap (λ l. get_or l i d) parts ∙ get_or_at front _ _ d i long in (
      front ++ y ∷ [],
      ap (λ l. set l i y) parts ∙ set_at front _ _ y i long ∙ sym (append_assoc front (y ∷ []) _),
      all_zip_more R xs front i x y lt (get_or_default xs i d x lt) h.2 (subst (λ w. R w y) read r),
    )

pub zipped_all : {X : Type 0} (R : X → X → Type 0) (xs now : List X) (i : ℕ) → i ≡ length xs → ZippedTo R xs i now →
    AllZip R xs now
zipped_all R xs now i end h =
    let here : now ≡ h.0 = h.1 ∙ ap (λ l. h.0 ++ l) (drop_all i xs (omega arith)) ∙ append-nil h.0 in
    subst (λ l. AllZip R l now) (take_all i xs (omega arith))
    (subst (λ l. AllZip R (take i xs) l) (sym here) h.2)

folds_last : {P A : Type 0} (R : P → A → P → Type 0) (p : P) (xs : List A) (q : P) (x : A) (r : P) →
    FoldsTo R p xs q → R q x r → FoldsTo R p (xs ++ x ∷ []) r
folds_last R p [] q x r h s = (r, subst (λ w. R w x r) (sym h) s, refl)
folds_last R p (y ∷ ys) q x r h s = (h.0, h.1, folds_last R h.0 ys q x r h.2 s)

pub folds_more : {P A : Type 0} (R : P → A → P → Type 0) (p : P) (xs : List A) (i : ℕ) (q : P) (x : A) (r : P) →
    i < length xs → FoldsTo R p (take i xs) q → x ≡ get_or xs i x → R q x r → FoldsTo R p (take (i + 1) xs) r
folds_more R p xs i q x r lt h is s =
    subst (λ l. FoldsTo R p l r) (ap (λ z. take i xs ++ z ∷ []) is ∙ sym (take_more xs i x lt))
    (folds_last R p (take i xs) q x r h s)

pub folds_all : {P A : Type 0} (R : P → A → P → Type 0) (p : P) (xs : List A) (i : ℕ) (q : P) → i ≡ length xs →
    FoldsTo R p (take i xs) q → FoldsTo R p xs q
folds_all R p xs i q end h = subst (λ l. FoldsTo R p l q) (take_all i xs (omega arith)) h
