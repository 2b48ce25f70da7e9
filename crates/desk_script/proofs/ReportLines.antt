-- The lines of a report, one after the other.
use Rattle.std.proofs.Common.{◌≡◌, ℕ, ◌+◌, ◌<◌, ◌≤◌, List, [], ◌∷◌, ◌++◌, length, take, drop, get_or, sym, ap, ◌∙◌}
use Rattle.std.proofs.Common.{append_assoc, arith, length-append}
use Rattle.std.proofs.lemmas.List.{drop_more, take_more, flat_map_more, length-take-le}
use Rattle.std.specs.List.{flat_map, enumerate_from}
use Rattle.desk_types.specs.declared.packet.Message.{Message}
use Rattle.desk_world.specs.Report.{OutputValue}
use Rattle.desk_script.specs.ReportText.{packet_line, output_lines, outputs_lines}

numbered_from : {A : Type 0} (k m : ℕ) (xs : List A) (x : A) → m ≡ k + length xs →
    enumerate_from k (xs ++ x ∷ []) ≡ enumerate_from k xs ++ (m, x) ∷ []
numbered_from k m [] x e = ap (λ t. (t, x) ∷ []) (omega (arith, e))
numbered_from k m (y ∷ ys) x e = ap (λ t. (k, y) ∷ t) (numbered_from (k + 1) m ys x (omega (arith, e)))

-- the line of one more of a list
pub lines_more : {A : Type 0} (f : A → List ℕ) (xs : List A) (i : ℕ) (d : A) (bs text : List ℕ) → i < length xs →
    text ≡ bs ++ flat_map f (take i xs) → text ++ f (get_or xs i d) ≡ bs ++ flat_map f (take (i + 1) xs)
lines_more f xs i d bs text within is =
    rw (is, take_more xs i d within) (flat_map_more f bs (take i xs) (get_or xs i d))

pub numbered_more : {A : Type 0} (f : ℕ × A → List ℕ) (k m : ℕ) (xs : List A) (i : ℕ) (d : A) (bs text : List ℕ) →
    i < length xs → m ≡ k + i → text ≡ bs ++ flat_map f (enumerate_from k (take i xs)) →
    text ++ f (m, get_or xs i d) ≡ bs ++ flat_map f (enumerate_from k (take (i + 1) xs))
numbered_more f k m xs i d bs text within number is =
    let count : m ≡ k + length (take i xs) = omega (arith, number, length-take-le i xs (omega (arith, within))) in
    rw (is, take_more xs i d within, numbered_from k m (take i xs) (get_or xs i d) count)
    (flat_map_more f bs (enumerate_from k (take i xs)) (m, get_or xs i d))

packet_line_length : (p : ℕ × (ℕ × Message)) → 7 ≤ length (packet_line p)
unfolding packet_line
packet_line_length p = omega arith

-- a text with a packet's line is longer
pub longer : (text : List ℕ) (p : ℕ × (ℕ × Message)) → length text + 7 ≤ length (text ++ packet_line p)
longer text p = omega (arith, length-append text (packet_line p), packet_line_length p)

pub outputs_more : (outputs : List OutputValue) (i k next : ℕ) (output : OutputValue) (old new : List ℕ) →
    i < length outputs → output ≡ get_or outputs i output → next ≡ k + length output.packets →
    new ≡ old ++ output_lines k output →
    new ++ outputs_lines next (drop (i + 1) outputs) ≡ old ++ outputs_lines k (drop i outputs)
outputs_more outputs i k next output old new within item number is =
    let cut : drop i outputs ≡ output ∷ drop (i + 1) outputs =
    drop_more outputs i output within ∙ ap (λ t. t ∷ drop (i + 1) outputs) (sym item) in
    rw (is, number, cut)
    (append_assoc old (output_lines k output) (outputs_lines (k + length output.packets) (drop (i + 1) outputs)))
