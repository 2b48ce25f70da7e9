-- Texts that are written one after the other.
use Rattle.std.proofs.Common.{◌≡◌, ℕ, suc, ◌+◌, ◌<◌, ◌≤◌, List, [], ◌∷◌, ◌++◌, length, get_or, take, Option, Some}
use Rattle.std.proofs.Common.{refl, sym, ap, subst, ◌∙◌, append_assoc, append-nil, arith, OnOk, codes}
use Rattle.std.specs.List.{flat_map}
use Rattle.std.specs.Prelude.{Result}
use Rattle.std.proofs.KnownBytes.{Appends-trans}
use Rattle.std.proofs.lemmas.List.{take_all, take_more, flat_map_more, length-take-le}
use Rattle.std.proofs.lemmas.Result.{on_ok_weaker}
use Rattle.std.specs.Io.KnownBytes.{Appends}
use Rattle.desk_metrics.specs.Metrics.{node_sample, place_line, samples_from}

-- a text is written after another
pub followed : {T E : Type 0} (a b c : Option (List ℕ)) (xs ys : List ℕ) (r : Result T E) → Appends a b xs →
    OnOk r (Appends b c ys) → OnOk r (Appends a c (xs ++ ys))
followed a b c xs ys r h k = on_ok_weaker r (Appends-trans a b c xs ys h) k

-- a node's place is one sample
pub place_is : (node place : ℕ) (p : Option ℕ) → p ≡ Some place →
    node_sample (codes "desk_page_node_place") node place ≡ place_line node p
place_is node place p is = rw is refl

-- one item more of a list is written
pub wrote_item : {A : Type 0} (f : A → List ℕ) (a b c : Option (List ℕ)) (xs : List A) (i : ℕ) (d : A) →
    i < length xs → Appends a b (flat_map f (take i xs)) → Appends b c (f (get_or xs i d)) →
    Appends a c (flat_map f (take (i + 1) xs))
wrote_item f a b c xs i d within h k =
    let one_item : flat_map f (take (i + 1) xs) ≡ flat_map f (take i xs) ++ f (get_or xs i d) =
    ap (flat_map f) (take_more xs i d within) ∙ sym (flat_map_more f [] (take i xs) (get_or xs i d)) in
    subst (Appends a c) (sym one_item) (Appends-trans a b c _ _ h k)

-- the lines of nodes, and of those that stand after them
lines_after : (line : ℕ → Option ℕ → List ℕ) (node : ℕ) (xs ys : List (Option ℕ)) →
    samples_from line node (xs ++ ys) ≡ samples_from line node xs ++ samples_from line (node + length xs) ys
lines_after line node [] ys =
    let here : node + 0 ≡ node = omega arith in
    rw here refl
lines_after line node (x ∷ xs) ys =
    let later : node + 1 + length xs ≡ node + suc (length xs) = omega arith in
    ap (λ l. line node x ++ l) (lines_after line (node + 1) xs ys
    ∙ ap (λ n. samples_from line (node + 1) xs ++ samples_from line n ys) later)
    ∙ sym (append_assoc (line node x) (samples_from line (node + 1) xs)
    (samples_from line (node + suc (length xs)) ys))

-- the lines up to a node, and its own
one_node_more : (line : ℕ → Option ℕ → List ℕ) (places : List (Option ℕ)) (i : ℕ) (d : Option ℕ) →
    i < length places →
    samples_from line 0 (take (i + 1) places) ≡ samples_from line 0 (take i places) ++ line i (get_or places i d)
one_node_more line places i d within =
    let many : 0 + length (take i places) ≡ i = omega (arith, length-take-le i places (omega (arith, within))) in
    ap (samples_from line 0) (take_more places i d within)
    ∙ lines_after line 0 (take i places) (get_or places i d ∷ [])
    ∙ ap (λ n. samples_from line 0 (take i places) ++ samples_from line n (get_or places i d ∷ [])) many
    ∙ ap (λ l. samples_from line 0 (take i places) ++ l) (append-nil (line i (get_or places i d)))

-- one line more is written
pub wrote_more : (line : ℕ → Option ℕ → List ℕ) (a b c : Option (List ℕ)) (places : List (Option ℕ)) (i : ℕ)
    (d : Option ℕ) → i < length places → Appends a b (samples_from line 0 (take i places)) →
    Appends b c (line i (get_or places i d)) → Appends a c (samples_from line 0 (take (i + 1) places))
wrote_more line a b c places i d within h k =
    subst (Appends a c) (sym (one_node_more line places i d within)) (Appends-trans a b c _ _ h k)

-- all lines are written
pub wrote_nodes : (line : ℕ → Option ℕ → List ℕ) (a b : Option (List ℕ)) (places : List (Option ℕ)) (i : ℕ) →
    length places ≤ i → Appends a b (samples_from line 0 (take i places)) → Appends a b (samples_from line 0 places)
wrote_nodes line a b places i end h = subst (λ l. Appends a b (samples_from line 0 l)) (take_all i places end) h
