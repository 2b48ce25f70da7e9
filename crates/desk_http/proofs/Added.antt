-- Lists that are put at an end, one after the other.
use Rattle.std.proofs.Common.{◌≡◌, ◌∙◌, List, [], ◌∷◌, ◌++◌, ap, append_assoc}

module _ {A : Type 0} where
  pub two : (old mid new xs ys : List A) → mid ≡ old ++ xs → new ≡ mid ++ ys → new ≡ old ++ (xs ++ ys)
  two old mid new xs ys first second = second ∙ ap (λ l. l ++ ys) first ∙ append_assoc old xs ys

  pub four : (old a b c new : List A) (w x y z : A) → a ≡ old ++ w ∷ [] → b ≡ a ++ x ∷ [] → c ≡ b ++ y ∷ [] →
      new ≡ c ++ z ∷ [] → new ≡ old ++ (w ∷ x ∷ y ∷ z ∷ [])
  four old a b c new w x y z first second third last =
      two old b new (w ∷ x ∷ []) (y ∷ z ∷ []) (two old a b (w ∷ []) (x ∷ []) first second)
      (two b c new (y ∷ []) (z ∷ []) third last)
