-- A list that is made from another, element by element.
use Rattle.std.proofs.Common.{◌≡◌, ◌<◌, ◌+◌, ◌++◌, ◌∷◌, [], ℕ, suc, List, length, take, map, slice_index_or, slice_set}
use Rattle.std.proofs.Common.{arith, ap, sym, ◌∙◌}
use Rattle.std.proofs.Math.Seq.{take-suc, take-suc-set}
use Rattle.std.proofs.lemmas.List.{map-append}

-- one more element is made
pub map_step : (f : ℕ → ℕ) (block source : List ℕ) (i : ℕ) → i < length block → i < length source →
    take i block ≡ map f (take i source) →
    take (i + 1) (slice_set block i (f (slice_index_or source i 0))) ≡ map f (take (i + 1) source)
map_step f block source i in_block in_source e =
    let one : i + 1 ≡ suc i = omega arith in
    ap (λ n. take n (slice_set block i (f (slice_index_or source i 0)))) one
    ∙ take-suc-set block i (f (slice_index_or source i 0)) in_block
    ∙ ap (λ l. l ++ f (slice_index_or source i 0) ∷ []) e
    ∙ sym (map-append f (take i source) (slice_index_or source i 0 ∷ []))
    ∙ ap (map f) (sym (take-suc source i 0 in_source))
    ∙ ap (λ n. map f (take n source)) (sym one)
