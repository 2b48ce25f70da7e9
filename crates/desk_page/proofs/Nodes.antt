-- Nodes that are written with their places, one after the other.
use Rattle.std.proofs.Common.{◌≡◌, ◌∙◌, ℕ, suc, ◌+◌, ◌<◌, ◌≤◌, List, [], ◌∷◌, ◌++◌, length, get_or, take, Option}
use Rattle.std.proofs.Common.{refl, sym, ap, append_assoc, append-nil, arith}
use Rattle.std.proofs.lemmas.List.{take_all, take_more, length-take-le}
use Rattle.desk_page.specs.Groups.{next_node_text, texts_from}

-- nodes, and those that stand after them
texts_after : (node : ℕ) (xs ys : List (Option ℕ)) →
    texts_from node (xs ++ ys) ≡ texts_from node xs ++ texts_from (node + length xs) ys
texts_after node [] ys =
    let here : node + 0 ≡ node = omega arith in
    rw here refl
texts_after node (x ∷ xs) ys =
    let later : node + 1 + length xs ≡ node + suc (length xs) = omega arith in
    ap (λ l. next_node_text node x ++ l) (texts_after (node + 1) xs ys
    ∙ ap (λ n. texts_from (node + 1) xs ++ texts_from n ys) later)
    ∙ sym (append_assoc (next_node_text node x) (texts_from (node + 1) xs) (texts_from (node + suc (length xs)) ys))

one_more : (places : List (Option ℕ)) (i : ℕ) (d : Option ℕ) → i < length places →
    texts_from 1 (take (i + 1) places) ≡ texts_from 1 (take i places) ++ next_node_text (i + 1) (get_or places i d)
one_more places i d within =
    let many : 1 + length (take i places) ≡ i + 1 =
    omega (arith, length-take-le i places (omega (arith, within))) in
    ap (texts_from 1) (take_more places i d within) ∙ texts_after 1 (take i places) (get_or places i d ∷ [])
    ∙ ap (λ n. texts_from 1 (take i places) ++ texts_from n (get_or places i d ∷ [])) many
    ∙ ap (λ l. texts_from 1 (take i places) ++ l) (append-nil (next_node_text (i + 1) (get_or places i d)))

-- one node more is written
pub wrote_more : (old text new : List ℕ) (places : List (Option ℕ)) (i : ℕ) (d : Option ℕ) → i < length places →
    text ≡ old ++ texts_from 1 (take i places) → new ≡ text ++ next_node_text (i + 1) (get_or places i d) →
    new ≡ old ++ texts_from 1 (take (i + 1) places)
wrote_more old text new places i d within h k =
    k ∙ ap (λ l. l ++ next_node_text (i + 1) (get_or places i d)) h
    ∙ append_assoc old (texts_from 1 (take i places)) (next_node_text (i + 1) (get_or places i d))
    ∙ ap (λ l. old ++ l) (sym (one_more places i d within))

-- all are written
pub wrote_all : (old text : List ℕ) (places : List (Option ℕ)) (i : ℕ) → length places ≤ i →
    text ≡ old ++ texts_from 1 (take i places) → text ≡ old ++ texts_from 1 places
wrote_all old text places i end h = h ∙ ap (λ l. old ++ texts_from 1 l) (take_all i places end)
