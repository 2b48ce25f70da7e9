-- A room that is filled read by read.
use Rattle.std.proofs.Common.{◌≡◌, ◌≤◌, ℕ, ◌+◌, List, ◌++◌, length, take, drop, ap, ◌∙◌, append-nil}
use Rattle.std.proofs.lemmas.List.{length-take-le, take_at, drop_at, drop_all, take-append-le}
use Rattle.std.proofs.Math.Seq.{take-add}
use borrow.Rule.Slice.PartMut.{put_mid, post_of}

-- n bytes more stand after those that are held
pub filled_more : (room ys : List ℕ) (held k n : ℕ) → held ≤ length room → n ≤ length ys →
    take (held + n) (put_mid held k room ys) ≡ take held room ++ take n ys
filled_more room ys held k n within fits =
    let front = take held room in
    let back = ys ++ post_of held k room in
    let long = length-take-le held room within in
    take-add held n (put_mid held k room ys)
    ∙ ap (λ l. l ++ take n (drop held (put_mid held k room ys))) (take_at front back held long)
    ∙ ap (λ l. front ++ take n l) (drop_at front back held long)
    ∙ ap (λ l. front ++ l) (take-append-le n ys (post_of held k room) fits)

-- the first part was put, and then the second one to the end
pub two_parts : (a b rest : List ℕ) (n k : ℕ) → length a ≡ n → length rest ≤ k → put_mid n k (a ++ rest) b ≡ a ++ b
two_parts a b rest n k e short =
    ap (λ l. l ++ (b ++ post_of n k (a ++ rest))) (take_at a rest n e)
    ∙ ap (λ l. a ++ (b ++ drop k l)) (drop_at a rest n e)
    ∙ ap (λ l. a ++ (b ++ l)) (drop_all k rest short)
    ∙ ap (λ l. a ++ l) (append-nil b)
