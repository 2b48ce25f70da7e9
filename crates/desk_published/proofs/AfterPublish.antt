-- What a publish leaves.
use Rattle.std.proofs.Common.{◌≡◌, List, [], ◌∷◌, ◌++◌, fold, sym, ◌∙◌, append_assoc, append-nil, Result, Ok, Err}
use Rattle.std.proofs.Common.{◌<◌, true, false, MatchResult, length, refl, ap, arith}
use Rattle.desk_types.specs.declared.command.Entry.{Entry}
use Rattle.desk_published.specs.PrefixRule.{has_seen, Sees}
use Rattle.desk_published.specs.declared.rule.SeatView.{SeatView}

pub fold_is-append : (xs ys : List Entry) → fold (λ (l : List Entry) (x : Entry). l ++ x ∷ []) xs ys ≡ xs ++ ys
fold_is-append xs [] = sym (append-nil xs)
fold_is-append xs (y ∷ ys) = fold_is-append (xs ++ y ∷ []) ys ∙ append_assoc xs (y ∷ []) ys

-- where no operation is told to be pending, none is
pub none_pending : {A : Type 0} (pending : List A) → (0 < length pending → false ≡ true) → pending ≡ []
none_pending [] h = refl
none_pending (x ∷ pending) h = let e : false ≡ true = h (omega arith) in absurd (cc)

pub published_is : {A E : Type 0} (r : Result A E) (old new pending left : List Entry) →
    MatchResult r
    (λ _. (new ≡ fold (λ (l : List Entry) (x : Entry). l ++ x ∷ []) old pending) × (left ≡ []))
    (λ _. (new ≡ old) × (left ≡ pending)) →
    MatchResult r (λ _. (new ≡ old ++ pending) × (left ≡ [])) (λ _. (new ≡ old) × (left ≡ pending))
published_is (Ok x) old new pending left h = (h.0 ∙ fold_is-append old pending, h.1)
published_is (Err e) old new pending left h = h

-- the writer's seat has seen what is published, where it had seen what was published before
pub seen_is : {A E : Type 0} (r : Result A E) (now after : SeatView) (old new pending left : List Entry) →
    now ≡ has_seen old → MatchResult r (λ _. Sees now new after) (λ _. after ≡ now) →
    MatchResult r
    (λ _. (new ≡ fold (λ (l : List Entry) (x : Entry). l ++ x ∷ []) old pending) × (left ≡ []))
    (λ _. (new ≡ old) × (left ≡ pending)) →
    after ≡ has_seen new
seen_is (Ok x) now after old new pending left is rule values = rule.0
seen_is (Err e) now after old new pending left is rule values =
    rule ∙ (is ∙ ap (λ (l : List Entry). has_seen l) (sym values.0))
