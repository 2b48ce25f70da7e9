-- The greatest place, one node after the other.
use Rattle.std.proofs.Common.{◌≡◌, ℕ, ◌+◌, ◌<◌, List, [], ◌∷◌, ◌++◌, length, get_or, take, max, refl, sym, ap}
use Rattle.std.proofs.Common.{◌∙◌, arith}
use Rattle.std.proofs.lemmas.List.{take_more}
use Rattle.desk_status.specs.declared.answers.NodeAnswer.{NodeAnswer}
use Rattle.desk_status.specs.Levels.{place_or_zero, greatest_place}

greatest_after : (nodes : List NodeAnswer) (a : NodeAnswer) →
    greatest_place (nodes ++ a ∷ []) ≡ max (place_or_zero a) (greatest_place nodes)
greatest_after [] a = refl
greatest_after (b ∷ nodes) a = ap (max (place_or_zero b)) (greatest_after nodes a) ∙ omega arith

-- the greatest place with that of one node more
pub greatest_more : (nodes : List NodeAnswer) (i : ℕ) (d : NodeAnswer) (place before greatest : ℕ) → i < length nodes →
    place ≡ place_or_zero (get_or nodes i d) → greatest ≡ max place before → before ≡ greatest_place (take i nodes) →
    greatest ≡ greatest_place (take (i + 1) nodes)
greatest_more nodes i d place before greatest within announced_is is before_is =
    is ∙ (λ k. max (announced_is k) (before_is k)) ∙ sym (greatest_after (take i nodes) (get_or nodes i d))
    ∙ sym (ap greatest_place (take_more nodes i d within))
