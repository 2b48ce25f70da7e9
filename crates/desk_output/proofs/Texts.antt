-- Texts that are written one after the other, as far as they can be written.
use Rattle.std.proofs.Common.{◌≡◌, ℕ, ◌+◌, ◌<◌, ◌≤◌, List, [], ◌++◌, length, take, drop, get_or, Option, refl, sym, ap}
use Rattle.std.proofs.Common.{subst, ◌∙◌, append_assoc, take-append-drop, codes, decimal}
use Rattle.std.proofs.KnownBytes.{Appends-trans}
use Rattle.std.proofs.lemmas.List.{take_all, take_more, flat_map_more}
use Rattle.std.proofs.lemmas.List.Concat.{flat_map-append}
use Rattle.std.specs.Io.KnownBytes.{Appends}
use Rattle.std.specs.List.{flat_map}
use Rattle.desk_types.specs.Refusal.{refusal_number, name_of}
use Rattle.desk_types.specs.declared.refusal.Refusal.{Refusal}
use Rattle.desk_output.proofs.Prefixes.{whole_prefix}
use Rattle.desk_output.specs.Prefixes.{AppendsPrefix}
use Rattle.desk_output.specs.Printing.{printed_line, PrintsFirst, PrintsLine}

-- a prefix of the last of two texts is written, and others were to follow
prefix_after_line : (a b c : Option (List ℕ)) (xs ys zs : List ℕ) → Appends a b xs → AppendsPrefix b c ys →
    AppendsPrefix a c ((xs ++ ys) ++ zs)
prefix_after_line a b c xs ys zs p q = (
  xs ++ q.0,
  q.1 ++ zs,
  append_assoc xs ys zs ∙ ap (λ t. xs ++ (t ++ zs)) q.2 ∙ ap (λ t. xs ++ t) (append_assoc q.0 q.1 zs)
      ∙ sym (append_assoc xs q.0 (q.1 ++ zs)),
  Appends-trans a b c xs q.0 p q.3,
)

-- of a text of a list, after those before it, a prefix is written
pub wrote_part : {A : Type 0} (f : A → List ℕ) (a b c : Option (List ℕ)) (xs : List A) (i : ℕ) (d : A)
    (text : List ℕ) → i < length xs → text ≡ f (get_or xs i d) → Appends a b (flat_map f (take i xs)) →
    AppendsPrefix b c text → AppendsPrefix a c (flat_map f xs)
wrote_part f a b c xs i d text within is h k =
    let one_more : flat_map f (take (i + 1) xs) ≡ flat_map f (take i xs) ++ text =
    ap (flat_map f) (take_more xs i d within) ∙ sym (flat_map_more f [] (take i xs) (get_or xs i d))
    ∙ ap (λ t. flat_map f (take i xs) ++ t) (sym is) in
    let whole : flat_map f xs ≡ (flat_map f (take i xs) ++ text) ++ flat_map f (drop (i + 1) xs) =
    ap (flat_map f) (sym (take-append-drop (i + 1) xs))
    ∙ flat_map-append f (take (i + 1) xs) (drop (i + 1) xs)
    ∙ ap (λ t. t ++ flat_map f (drop (i + 1) xs)) one_more in
    subst (AppendsPrefix a c) (sym whole) (prefix_after_line a b c _ text _ h k)

-- all texts of a list are written
pub wrote_all : {A : Type 0} (f : A → List ℕ) (a b : Option (List ℕ)) (xs : List A) (i : ℕ) → length xs ≤ i →
    Appends a b (flat_map f (take i xs)) → AppendsPrefix a b (flat_map f xs)
wrote_all f a b xs i end h = whole_prefix a b _ (subst (λ ys. Appends a b (flat_map f ys)) (take_all i xs end) h)

-- all texts of a list are written, whole
pub wrote_whole : {A : Type 0} (f : A → List ℕ) (a b : Option (List ℕ)) (xs : List A) (i : ℕ) → length xs ≤ i →
    Appends a b (flat_map f (take i xs)) → Appends a b (flat_map f xs)
wrote_whole f a b xs i end h = subst (λ ys. Appends a b (flat_map f ys)) (take_all i xs end) h

-- after a whole text, a prefix of the next is written
pub prefix_after : (a b c : Option (List ℕ)) (xs ys : List ℕ) → Appends a b xs → AppendsPrefix b c ys →
    AppendsPrefix a c (xs ++ ys)
prefix_after a b c xs ys p q = (
  xs ++ q.0,
  q.1,
  ap (λ t. xs ++ t) q.2 ∙ sym (append_assoc xs q.0 q.1),
  Appends-trans a b c xs q.0 p q.3,
)

-- a prefix of a text is one of a longer text
pub prefix_longer : (a b : Option (List ℕ)) (xs ys : List ℕ) → AppendsPrefix a b xs → AppendsPrefix a b (xs ++ ys)
prefix_longer a b xs ys q = (q.0, q.1 ++ ys, ap (λ t. t ++ ys) q.2 ∙ append_assoc q.0 q.1 ys, q.3)

pub announced_is : (refusal : Refusal) (n : ℕ) (name : List ℕ) → n ≡ refusal_number refusal → name ≡ name_of refusal →
    codes "desk: " ++ (decimal n ++ (codes " " ++ (name ++ codes "\n"))) ≡ printed_line refusal
unfolding printed_line
announced_is refusal n name n_is name_is = rw (n_is, name_is) refl

-- a line that is told alone is told first
pub reported_alone : (a b : Option (List ℕ)) (refusal : Refusal) → PrintsLine a b refusal → PrintsFirst a b refusal
reported_alone a b refusal printed = ([], prefix_longer a b _ [] printed)
