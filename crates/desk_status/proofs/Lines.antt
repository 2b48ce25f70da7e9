-- The lines of nodes, one after the other, as far as they are written.
use Rattle.std.proofs.Common.{◌≡◌, ℕ, suc, ◌+◌, ◌-◌, ◌<◌, ◌≤◌, List, [], ◌∷◌, ◌++◌, length, get_or, take, drop}
use Rattle.std.proofs.Common.{Option, refl, sym, ap, subst, ◌∙◌, append_assoc, append-nil, take-append-drop, codes}
use Rattle.std.proofs.Common.{decimal, arith}
use Rattle.std.proofs.KnownBytes.{Appends-trans}
use Rattle.std.proofs.lemmas.List.{take_all, take_more, length-take-le}
use Rattle.std.specs.Io.KnownBytes.{Appends}
use Rattle.desk_output.proofs.Prefixes.{whole_prefix}
use Rattle.desk_output.specs.Prefixes.{AppendsPrefix}
use Rattle.desk_output.proofs.Texts.{prefix_after, prefix_longer}
use Rattle.desk_status.specs.declared.answers.NodeAnswer.{NodeAnswer}
use Rattle.desk_status.specs.declared.answers.NodeAnswer.TheVariants as answers
use Rattle.desk_status.specs.Lines.{status_line, lines_from}

-- the lines of nodes, and of those that stand after them
lines_after : (greatest node : ℕ) (xs ys : List NodeAnswer) →
    lines_from greatest node (xs ++ ys) ≡ lines_from greatest node xs ++ lines_from greatest (node + length xs) ys
lines_after greatest node [] ys =
    let here : node + 0 ≡ node = omega arith in
    rw here refl
lines_after greatest node (x ∷ xs) ys =
    let later : node + 1 + length xs ≡ node + suc (length xs) = omega arith in
    ap (λ l. status_line greatest node x ++ l) (lines_after greatest (node + 1) xs ys
    ∙ ap (λ n. lines_from greatest (node + 1) xs ++ lines_from greatest n ys) later)
    ∙ sym (append_assoc (status_line greatest node x) (lines_from greatest (node + 1) xs)
    (lines_from greatest (node + suc (length xs)) ys))

-- the lines up to a node, and its own
one_more : (greatest : ℕ) (nodes : List NodeAnswer) (i : ℕ) (d : NodeAnswer) → i < length nodes →
    lines_from greatest 0 (take (i + 1) nodes)
    ≡ lines_from greatest 0 (take i nodes) ++ status_line greatest i (get_or nodes i d)
one_more greatest nodes i d within =
    let many : 0 + length (take i nodes) ≡ i = omega (arith, length-take-le i nodes (omega (arith, within))) in
    ap (lines_from greatest 0) (take_more nodes i d within)
    ∙ lines_after greatest 0 (take i nodes) (get_or nodes i d ∷ [])
    ∙ ap (λ n. lines_from greatest 0 (take i nodes) ++ lines_from greatest n (get_or nodes i d ∷ [])) many
    ∙ ap (λ l. lines_from greatest 0 (take i nodes) ++ l) (append-nil (status_line greatest i (get_or nodes i d)))

-- the lines of those after a node
abbrev rest_after : ℕ → List NodeAnswer → ℕ → List ℕ
rest_after greatest nodes i = lines_from greatest (0 + length (take (i + 1) nodes)) (drop (i + 1) nodes)

-- the lines of all nodes are those before one, its own, and those after it
cut_at : (greatest : ℕ) (nodes : List NodeAnswer) (i : ℕ) (d : NodeAnswer) → i < length nodes →
    lines_from greatest 0 nodes
    ≡ lines_from greatest 0 (take i nodes)
    ++ (status_line greatest i (get_or nodes i d) ++ rest_after greatest nodes i)
cut_at greatest nodes i d within =
    ap (lines_from greatest 0) (sym (take-append-drop (i + 1) nodes))
    ∙ lines_after greatest 0 (take (i + 1) nodes) (drop (i + 1) nodes)
    ∙ ap (λ l. l ++ rest_after greatest nodes i) (one_more greatest nodes i d within)
    ∙ append_assoc (lines_from greatest 0 (take i nodes)) (status_line greatest i (get_or nodes i d))
    (rest_after greatest nodes i)

-- one line more was written
pub wrote_more : (greatest : ℕ) (a b c : Option (List ℕ)) (nodes : List NodeAnswer) (i : ℕ) (d : NodeAnswer) →
    i < length nodes → Appends a b (lines_from greatest 0 (take i nodes)) →
    Appends b c (status_line greatest i (get_or nodes i d)) → Appends a c (lines_from greatest 0 (take (i + 1) nodes))
wrote_more greatest a b c nodes i d within h k =
    subst (Appends a c) (sym (one_more greatest nodes i d within)) (Appends-trans a b c _ _ h k)

-- of a line after those before it a prefix was written
pub wrote_part : (greatest : ℕ) (a b c : Option (List ℕ)) (nodes : List NodeAnswer) (i : ℕ) (d : NodeAnswer) →
    i < length nodes → Appends a b (lines_from greatest 0 (take i nodes)) →
    AppendsPrefix b c (status_line greatest i (get_or nodes i d)) → AppendsPrefix a c (lines_from greatest 0 nodes)
wrote_part greatest a b c nodes i d within h k =
    subst (AppendsPrefix a c) (sym (cut_at greatest nodes i d within))
    (prefix_after a b c _ _ h (prefix_longer b c _ _ k))

-- all lines were written
pub wrote_whole : (greatest : ℕ) (a b : Option (List ℕ)) (nodes : List NodeAnswer) (i : ℕ) → length nodes ≤ i →
    Appends a b (lines_from greatest 0 (take i nodes)) → Appends a b (lines_from greatest 0 nodes)
wrote_whole greatest a b nodes i end h = subst (λ l. Appends a b (lines_from greatest 0 l)) (take_all i nodes end) h

pub wrote_all : (greatest : ℕ) (a b : Option (List ℕ)) (nodes : List NodeAnswer) (i : ℕ) → length nodes ≤ i →
    Appends a b (lines_from greatest 0 (take i nodes)) → AppendsPrefix a b (lines_from greatest 0 nodes)
wrote_all greatest a b nodes i end h = whole_prefix a b _ (wrote_whole greatest a b nodes i end h)

-- the parts of a node's line

pub down_is : (greatest node : ℕ) (a : NodeAnswer) → a ≡ answers.Down →
    codes "node " ++ (decimal node ++ codes ": down\n") ≡ status_line greatest node a
unfolding status_line
down_is greatest node a is = rw is refl

pub up_is : (greatest node place milliseconds after : ℕ) (a : NodeAnswer) → a ≡ answers.Up place milliseconds →
    after ≡ greatest - place →
    codes "node " ++ (decimal node ++ (codes ": up, place " ++ (decimal place ++ (codes ", "
    ++ (decimal after ++ (codes " behind, " ++ (decimal milliseconds ++ codes " ms\n")))))))
    ≡ status_line greatest node a
unfolding status_line
up_is greatest node place milliseconds after a is after_is = rw (is, after_is) refl
