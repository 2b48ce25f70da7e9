-- Senders that are numbered in order.
use Rattle.std.proofs.Common.{◌≡◌, ℕ, suc, ◌+◌, List, [], ◌∷◌, ◌++◌, refl, ap, sym, ◌∙◌, arith}
use Rattle.desk_mailbox.specs.Ends.{first_numbers, numbers_of}
use Rattle.desk_mailbox.specs.declared.sender.Sender.{Sender}

-- the numbers of senders with one more
numbers_push : {T : Type 0} (xs : List (Sender T)) (x : Sender T) →
    numbers_of (xs ++ x ∷ []) ≡ numbers_of xs ++ x.number ∷ []
numbers_push [] x = refl
numbers_push (y ∷ ys) x = ap (λ w. y.number ∷ w) (numbers_push ys x)

-- One sender more, which has the next number.
pub one_number_more : {T : Type 0} (xs ys : List (Sender T)) (x : Sender T) (k : ℕ) → ys ≡ xs ++ x ∷ [] →
    numbers_of xs ≡ first_numbers k → x.number ≡ k → numbers_of ys ≡ first_numbers (k + 1)
one_number_more xs ys x k more same next =
    let e : k + 1 ≡ suc k = omega arith in
    ap numbers_of more
    ∙ numbers_push xs x
    ∙ ap (λ w. w ++ x.number ∷ []) same
    ∙ ap (λ n. first_numbers k ++ n ∷ []) next
    ∙ sym (ap first_numbers e)
