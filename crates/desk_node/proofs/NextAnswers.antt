-- The answers to the entries after a place, one after the other.
use Rattle.std.proofs.Common.{◌≡◌, ◌+◌, ℕ, suc, List, [], ◌∷◌, ◌++◌, arith, add-one, ap, sym, subst, ◌∙◌}
use Rattle.desk_types.specs.declared.command.Entry.{Entry}
use Rattle.desk_types.specs.declared.outcome.Outcome.{Outcome}
use Rattle.desk_node.specs.Answers.{answer_at, answers_after}

-- The answers so far with the next one are the answers to one entry more.
pub answers_one_more : (domain same : List ℕ) (log : List Entry) (first done count : ℕ) (reported more : List Outcome)
    (answer : Outcome) → same ≡ domain → count ≡ first + done → reported ≡ answers_after domain log first done →
    answer_at same log (count + 1) ≡ answer ∷ [] → more ≡ reported ++ answer ∷ [] →
    more ≡ answers_after domain log first (done + 1)
answers_one_more domain same log first done count reported more answer domain_is count_is so_far next pushed =
    let place : count + 1 ≡ first + suc done = omega (arith, count_is) in
    let here : answer_at domain log (first + suc done) ≡ answer ∷ [] =
    subst (λ (d : List ℕ). answer_at d log (first + suc done) ≡ answer ∷ []) domain_is
    (subst (λ (k : ℕ). answer_at same log k ≡ answer ∷ []) place next) in
    rw add-one (pushed ∙ ap (λ os. os ++ answer ∷ []) so_far
    ∙ ap (λ os. answers_after domain log first done ++ os) (sym here))
