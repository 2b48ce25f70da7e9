-- What lies in an arena stays as values are copied after it.
use Rattle.std.proofs.Common.{◌≡◌, ℕ, ◌+◌, ◌-◌, List, [], ◌∷◌, ◌++◌, length, take, drop, refl, sym, ap, ◌∙◌}
use Rattle.std.proofs.Common.{append_assoc, append-nil, arith, length-append}
use Rattle.std.proofs.Math.Seq.{drop-append-add, take-append_seam}
use Rattle.serde_json.specs.Data.{Data, null, boolean, number, string, array, object, Items, no_items, item, Members}
use Rattle.serde_json.specs.Data.{no_members, member}
use Rattle.desk_arena.specs.Contents.{Contents, HoldsText, text_at, with_node, with_text}
use Rattle.desk_arena.specs.declared.node.Node.{Node}
use Rattle.desk_arena.specs.declared.text.Text.{Text}
use Rattle.desk_eido.specs.Copied.{IsPartOf, no_name, next_text, with_copy, with_items, with_members}

pub IsPartOf-refl : (a : Contents) → IsPartOf a a
IsPartOf-refl a = (refl, ([], sym (append-nil a.nodes)), ([], refl))

pub IsPartOf-trans : (a b c : Contents) → IsPartOf a b → IsPartOf b c → IsPartOf a c
IsPartOf-trans a b c p q = (
  q.0 ∙ p.0,
  (p.1.0 ++ q.1.0, q.1.1 ∙ ap (λ ns. ns ++ q.1.0) p.1.1 ∙ append_assoc a.nodes p.1.0 q.1.0),
  (q.2.0 ++ p.2.0, q.2.1 ∙ ap (λ ts. q.2.0 ++ ts) p.2.1 ∙ sym (append_assoc q.2.0 p.2.0 a.texts)),
)

pub IsPartOf-with_node : (a : Contents) (node : Node) → IsPartOf a (with_node a node)
IsPartOf-with_node a node = (refl, (node ∷ [], refl), ([], refl))

pub IsPartOf-with_text : (a : Contents) (bytes : List ℕ) → IsPartOf a (with_text a bytes)
IsPartOf-with_text a bytes = (refl, ([], sym (append-nil a.nodes)), (bytes, refl))

-- what an arena holds with what is inside a value, but not yet the value's own node
abbrev pub inside : Data → Contents → Contents
inside null a = a
inside (boolean b) a = a
inside (number n) a = a
inside (string s) a = with_text a s
inside (array ds) a = with_items ds a
inside (object ms) a = with_members ms a

mutual
  pub IsPartOf-with_copy : (d : Data) (name : Text) (a : Contents) → IsPartOf a (with_copy d name a)
  IsPartOf-with_copy null name a = IsPartOf-with_node a _
  IsPartOf-with_copy (boolean b) name a = IsPartOf-with_node a _
  IsPartOf-with_copy (number n) name a = IsPartOf-with_node a _
  IsPartOf-with_copy (string s) name a = IsPartOf-trans a (with_text a s) _ (IsPartOf-with_text a s)
      (IsPartOf-with_node (with_text a s) _)
  IsPartOf-with_copy (array ds) name a = IsPartOf-trans a (with_items ds a) _ (IsPartOf-with_items ds a)
      (IsPartOf-with_node (with_items ds a) _)
  IsPartOf-with_copy (object ms) name a = IsPartOf-trans a (with_members ms a) _ (IsPartOf-with_members ms a)
      (IsPartOf-with_node (with_members ms a) _)

  pub IsPartOf-with_items : (ds : Items) (a : Contents) → IsPartOf a (with_items ds a)
  IsPartOf-with_items no_items a = IsPartOf-refl a
  IsPartOf-with_items (item d ds) a =
      let b = with_copy d no_name a in
      IsPartOf-trans a b _ (IsPartOf-with_copy d no_name a) (IsPartOf-with_items ds b)

  pub IsPartOf-with_members : (ms : Members) (a : Contents) → IsPartOf a (with_members ms a)
  IsPartOf-with_members no_members a = IsPartOf-refl a
  IsPartOf-with_members (member k d ms) a =
      let named = with_text a k in
      let b = with_copy d (next_text a k) named in
      IsPartOf-trans a named _ (IsPartOf-with_text a k)
      (IsPartOf-trans named b _ (IsPartOf-with_copy d (next_text a k) named) (IsPartOf-with_members ms b))

pub IsPartOf-inside : (d : Data) (a : Contents) → IsPartOf a (inside d a)
IsPartOf-inside null a = IsPartOf-refl a
IsPartOf-inside (boolean b) a = IsPartOf-refl a
IsPartOf-inside (number n) a = IsPartOf-refl a
IsPartOf-inside (string s) a = IsPartOf-with_text a s
IsPartOf-inside (array ds) a = IsPartOf-with_items ds a
IsPartOf-inside (object ms) a = IsPartOf-with_members ms a

-- a text that is there stays there
pub HoldsText-IsPartOf : (a b : Contents) (t : Text) → IsPartOf a b → HoldsText a t → HoldsText b t
HoldsText-IsPartOf a b t g h = (h.0, omega (arith, ap length g.2.1, length-append g.2.0 a.texts, h.1))

-- and is the same text
pub text_at-IsPartOf : (a b : Contents) (t : Text) → IsPartOf a b → HoldsText a t → text_at b t ≡ text_at a t
text_at-IsPartOf a b t g h =
    let ts = g.2.0 in
    let n = length a.texts - t.from_end in
    let at : length b.texts - t.from_end ≡ length ts + n =
    omega (arith, ap length g.2.1, length-append ts a.texts, h.1) in
    ap (λ xs. take t.len (drop (length b.texts - t.from_end) xs)) g.2.1
    ∙ ap (λ i. take t.len (drop i (ts ++ a.texts))) at ∙ ap (take t.len) (drop-append-add ts a.texts n)

-- a text that was just pushed is there
pub HoldsText-next_text : (a : Contents) (bytes : List ℕ) → HoldsText (with_text a bytes) (next_text a bytes)
HoldsText-next_text a bytes = (omega arith, omega (arith, length-append bytes a.texts))

-- with its bytes
pub text_at-next_text : (a : Contents) (bytes : List ℕ) → text_at (with_text a bytes) (next_text a bytes) ≡ bytes
text_at-next_text a bytes =
    let none : length (bytes ++ a.texts) - (length bytes + length a.texts) ≡ 0 =
    omega (arith, length-append bytes a.texts) in
    ap (λ i. take (length bytes) (drop i (bytes ++ a.texts))) none ∙ take-append_seam bytes a.texts
