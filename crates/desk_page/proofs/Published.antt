-- A board that was listed and told.
use Rattle.std.proofs.Common.{◌≡◌, ◌≤◌, ℕ, List, Option, None, Some, option_map, ap, subst}
use Rattle.std.specs.Prelude.{Result, Ok, IfOk, IfSome, IsSomeAnd}
use Rattle.std.proofs.lemmas.Option.{same_Some}
use Rattle.desk_page.specs.Reported.{place_listed}
use Rattle.desk_page.specs.Boards.{IsBoardOf}

-- the place that a reply tells is that of its board
reported_place : (reply : List ℕ) (board : ℕ × List ℕ) (seen reported : Option ℕ) →
    Some board ≡ option_map (λ p. (p, reply)) seen → IsSomeAnd reported (λ last. board.0 ≤ last) →
    IfSome seen (λ p. IsSomeAnd reported (λ last. p ≤ last))
reported_place reply board None reported is above = tt
reported_place reply board (Some p) reported is above =
    subst (λ (n : ℕ). IsSomeAnd reported (λ last. n ≤ last))
    (ap (λ (b : ℕ × List ℕ). b.0) (same_Some board (p, reply) is)) above

-- what was told last is not below the place of a reply, where it is not below that of its board
pub published : {X E : Type 0} (f : X → ℕ) (g : X → List ℕ) (Wrote : List ℕ → Type 0) (r : Result (Option X) E)
    (found : Option X) (line : X) (reported : Option ℕ) → r ≡ Ok found → found ≡ Some line →
    IfOk r (λ found. (reply : List ℕ) × Wrote reply × IsBoardOf reply (option_map (λ x. (f x, g x)) found)) →
    IsSomeAnd reported (λ last. f line ≤ last) →
    (reply : List ℕ) × Wrote reply × IfSome (place_listed reply) (λ place. IsSomeAnd reported (λ last. place ≤ last))
published {X} f g Wrote r found line reported is some listed above =
    let Listed : Option X → Type 0 =
    λ found. (reply : List ℕ) × Wrote reply × IsBoardOf reply (option_map (λ x. (f x, g x)) found) in
    let it : Listed (Some line) = subst Listed some (subst (λ r. IfOk r Listed) is listed) in
    (it.0, it.1, reported_place it.0 (f line, g line) (place_listed it.0) reported it.2 above)
