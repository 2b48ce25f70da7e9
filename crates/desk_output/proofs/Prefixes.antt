-- A text that is written piece by piece, and prefixes of it that were written.
use Rattle.std.proofs.Common.{◌≡◌, ℕ, ◌+◌, ◌-◌, ◌≤◌, length, arith, length-drop, List, [], take, drop, Option}
use Rattle.std.proofs.Common.{refl, sym, append-nil, take-append-drop}
use Rattle.std.proofs.Math.Seq.{take-add}
use Rattle.std.proofs.lemmas.List.{take_all}
use Rattle.std.proofs.KnownBytes.{Appends-trans, Appends-nil, Appends-kept}
use Rattle.std.specs.Io.KnownBytes.{Appends, Keeps}
use Rattle.desk_output.specs.Prefixes.{AppendsPrefix}

-- `&text[i..]`
abbrev pub rest_from : List ℕ → ℕ → List ℕ
rest_from text i = take (length text - i) (drop i text)

pub rest_from-drop : (text : List ℕ) (i : ℕ) → rest_from text i ≡ drop i text
rest_from-drop text i = take_all (length text - i) (drop i text) (omega (arith, length-drop i text))

pub rest_from_length : (text : List ℕ) (i n : ℕ) → i ≤ length text → n ≤ length (rest_from text i) → i + n ≤ length text
rest_from_length text i n h p =
    let q = rw (rest_from-drop text i) at p in
    omega (arith, length-drop i text, q)

-- n more bytes of the text are written
pub sent_more : (a b c : Option (List ℕ)) (text : List ℕ) (i n : ℕ) → Appends a b (take i text) →
    Appends b c (take n (rest_from text i)) → Appends a c (take (i + n) text)
sent_more a b c text i n p q = rw take-add (Appends-trans a b c _ _ p (rw rest_from-drop at q))

-- the first bytes of a text are a prefix of it
pub prefix_sent : (a b : Option (List ℕ)) (text : List ℕ) (i : ℕ) → Appends a b (take i text) → AppendsPrefix a b text
prefix_sent a b text i p = (take i text, drop i text, sym (take-append-drop i text), p)

-- a whole text is a prefix of it
pub whole_prefix : (old new : Option (List ℕ)) (text : List ℕ) → Appends old new text → AppendsPrefix old new text
whole_prefix old new text a = (text, [], sym (append-nil text), a)

-- nothing is a prefix of every text
pub no_prefix : (old new : Option (List ℕ)) (text : List ℕ) → Keeps old new → AppendsPrefix old new text
no_prefix old new text k = ([], text, refl, Appends-kept old old new [] (Appends-nil old) k)
