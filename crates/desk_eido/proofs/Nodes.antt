-- The node that a copied value ends in.
use Rattle.std.proofs.Common.{◌≡◌, ◌≤◌, ℕ, suc, ◌+◌, ◌-◌, ◌*◌, ◌/◌, ◌%◌, List, [], ◌∷◌, ◌++◌, length, get_or}
use Rattle.std.proofs.Common.{Some, refl, sym, ap, subst, ◌∙◌, append_assoc, arith, length-append}
use Rattle.std.specs.Prelude.{if◌then◌else◌, slice_index, is_some, IsTrue}
use Rattle.std.proofs.Math.Seq.{get_or-append_seam}
use Rattle.serde_json.specs.Data.{unsigned, negative, float, Data, null, boolean, number, string, array, object}
use Rattle.serde_json.specs.Data.{Members}
use Rattle.serde_json.specs.Find.{as_object}
use Rattle.desk_arena.specs.Contents.{Contents, HoldsText, text_at, with_node, with_text}
use Rattle.desk_arena.specs.declared.node.Node.{Node}
use Rattle.desk_arena.specs.declared.text.Text.{Text}
use Rattle.desk_eido.specs.Copied.{IsPartOf, copied_node, number_node, text_node, next_text, with_copy}
use Rattle.desk_eido.specs.Document.{HoldsItsText, node_at, node_name, content_start, seen_node, IsHeld}
use Rattle.desk_eido.specs.Seen.{seen}
use Rattle.desk_eido.specs.Seen as sight
use Rattle.desk_eido.specs.declared.copy.TheConstants.{WORD_VALUES}
use Rattle.desk_eido.specs.declared.kind.TheConstants.{NULL, TRUTH_VALUE, NATURAL, NEGATIVE, OTHER_NUMBER, TEXT}
use Rattle.desk_eido.specs.declared.kind.TheConstants.{LIST, OBJECT}
use Rattle.desk_eido.specs.Utf8.{HasUtf8Texts}
use Rattle.desk_eido.proofs.Growing.{IsPartOf-trans, IsPartOf-with_node, inside, IsPartOf-inside, HoldsText-IsPartOf}
use Rattle.desk_eido.proofs.Growing.{text_at-IsPartOf, HoldsText-next_text, text_at-next_text}

abbrev pub own_node : Data → Text → Contents → Node
own_node null name a = copied_node NULL 0 0 name (length a.nodes)
own_node (boolean b) name a = copied_node TRUTH_VALUE (if b then 1 else 0) 0 name (length a.nodes)
own_node (number n) name a = number_node n name (length a.nodes)
own_node (string s) name a = text_node (next_text a s) name (length a.nodes)
own_node (array ds) name a = copied_node LIST 0 0 name (length a.nodes)
own_node (object ms) name a = copied_node OBJECT 0 0 name (length a.nodes)

pub with_copy-inside : (d : Data) (name : Text) (a : Contents) →
    with_copy d name a ≡ with_node (inside d a) (own_node d name a)
with_copy-inside null name a = refl
with_copy-inside (boolean b) name a = refl
with_copy-inside (number n) name a = refl
with_copy-inside (string s) name a = refl
with_copy-inside (array ds) name a = refl
with_copy-inside (object ms) name a = refl

pub length-with_copy : (d : Data) (name : Text) (a : Contents) →
    length (with_copy d name a).nodes ≡ suc (length (inside d a).nodes)
length-with_copy d name a =
    let nodes = (inside d a).nodes in let own = own_node d name a in
    ap (λ (z : Contents). length z.nodes) (with_copy-inside d name a) ∙ omega (arith, length-append nodes (own ∷ []))

pub inside-longer : (d : Data) (a : Contents) → length a.nodes ≤ length (inside d a).nodes
inside-longer d a = let g = IsPartOf-inside d a in omega (arith, ap length g.1.1, length-append a.nodes g.1.0)

-- a value's own node is the last
pub node_at-with_copy : (d : Data) (name : Text) (a b : Contents) → IsPartOf (with_copy d name a) b →
    node_at b (length (with_copy d name a).nodes - 1) ≡ own_node d name a
node_at-with_copy d name a b g =
    let front = (inside d a).nodes in let own = own_node d name a in
    let nodes : (with_copy d name a).nodes ≡ front ++ own ∷ [] =
    ap (λ (z : Contents). z.nodes) (with_copy-inside d name a) in
    let at : length (with_copy d name a).nodes - 1 ≡ length front = omega (arith, length-with_copy d name a) in
    ap (λ ns. get_or ns (length (with_copy d name a).nodes - 1) (record { words = [] }))
    (g.1.1 ∙ ap (λ ns. ns ++ g.1.0) nodes ∙ append_assoc front (own ∷ []) g.1.0)
    ∙ ap (λ i. get_or (front ++ own ∷ g.1.0) i (record { words = [] })) at
    ∙ get_or-append_seam front own g.1.0 (record { words = [] })

pub content_start-own_node : (d : Data) (name : Text) (a : Contents) →
    content_start (own_node d name a) ≡ length a.nodes
unfolding copied_node
content_start-own_node null name a = refl
content_start-own_node (boolean b) name a = refl
content_start-own_node (number (unsigned n)) name a = refl
content_start-own_node (number (negative z)) name a = refl
content_start-own_node (number (float x)) name a = refl
content_start-own_node (string s) name a = refl
content_start-own_node (array ds) name a = refl
content_start-own_node (object ms) name a = refl

pub node_name-own_node : (d : Data) (name : Text) (a : Contents) → node_name (own_node d name a) ≡ name
unfolding copied_node
node_name-own_node null name a = refl
node_name-own_node (boolean b) name a = refl
node_name-own_node (number (unsigned n)) name a = refl
node_name-own_node (number (negative z)) name a = refl
node_name-own_node (number (float x)) name a = refl
node_name-own_node (string s) name a = refl
node_name-own_node (array ds) name a = refl
node_name-own_node (object ms) name a = refl

abbrev node_kind : Data → ℕ
node_kind null = NULL
node_kind (boolean b) = TRUTH_VALUE
node_kind (number (unsigned n)) = NATURAL
node_kind (number (negative z)) = NEGATIVE
node_kind (number (float x)) = OTHER_NUMBER
node_kind (string s) = TEXT
node_kind (array ds) = LIST
node_kind (object ms) = OBJECT

node_kind-own_node : (d : Data) (name : Text) (a : Contents) → slice_index (own_node d name a).words 0 ≡ node_kind d
unfolding copied_node
node_kind-own_node null name a = refl
node_kind-own_node (boolean b) name a = refl
node_kind-own_node (number (unsigned n)) name a = refl
node_kind-own_node (number (negative z)) name a = refl
node_kind-own_node (number (float x)) name a = refl
node_kind-own_node (string s) name a = refl
node_kind-own_node (array ds) name a = refl
node_kind-own_node (object ms) name a = refl

node_kind-object : (d : Data) → IsTrue (is_some (as_object d)) → node_kind d ≡ OBJECT
node_kind-object null t = cc
node_kind-object (boolean b) t = cc
node_kind-object (number n) t = cc
node_kind-object (string s) t = cc
node_kind-object (array ds) t = cc
node_kind-object (object ms) t = refl

object_of_kind : (d : Data) → node_kind d ≡ OBJECT → (ms : Members) × (d ≡ object ms)
object_of_kind null e = absurd (omega (arith, e))
object_of_kind (boolean b) e = absurd (omega (arith, e))
object_of_kind (number (unsigned n)) e = absurd (omega (arith, e))
object_of_kind (number (negative z)) e = absurd (omega (arith, e))
object_of_kind (number (float x)) e = absurd (omega (arith, e))
object_of_kind (string s) e = absurd (omega (arith, e))
object_of_kind (array ds) e = absurd (omega (arith, e))
object_of_kind (object ms) e = (ms, refl)

-- a value whose own node is an object's is an object
pub object_by_node : (d o : Data) (before begun : Contents) (name : Text) → IsTrue (is_some (as_object o)) →
    own_node d name before ≡ own_node o name begun → (ms : Members) × (d ≡ object ms)
object_by_node d o before begun name t e =
    object_of_kind d (sym (node_kind-own_node d name before) ∙ ap (λ (n : Node). slice_index n.words 0) e
    ∙ node_kind-own_node o name begun ∙ node_kind-object o t)

-- the text of a copied text
own_text : (s : List ℕ) (name : Text) (a b : Contents) → IsPartOf (with_copy (string s) name a) b →
    HoldsText b (next_text a s) × (text_at b (next_text a s) ≡ s)
own_text s name a b g =
    let up : IsPartOf (with_text a s) b =
    IsPartOf-trans (with_text a s) (with_copy (string s) name a) b (IsPartOf-with_node (with_text a s) _) g in (
      HoldsText-IsPartOf (with_text a s) b _ up (HoldsText-next_text a s),
      text_at-IsPartOf (with_text a s) b _ up
          (HoldsText-next_text a s) ∙ text_at-next_text a s,
    )

-- what is seen of a value's own node is what is seen of the value
pub seen_node-own_node : (d : Data) (name : Text) (a b : Contents) → IsPartOf (with_copy d name a) b →
    seen_node b (own_node d name a) ≡ seen d
unfolding copied_node seen_node
seen_node-own_node null name a b g = refl
seen_node-own_node (boolean t) name a b g = refl
seen_node-own_node (number (unsigned n)) name a b g =
    let e : n % WORD_VALUES + WORD_VALUES * (n / WORD_VALUES) ≡ n = omega arith in ap (λ k. Some (sight.natural k)) e
seen_node-own_node (number (negative z)) name a b g = refl
seen_node-own_node (number (float x)) name a b g = refl
seen_node-own_node (string s) name a b g = ap (λ t. Some (sight.text t)) (own_text s name a b g).1
seen_node-own_node (array ds) name a b g = refl
seen_node-own_node (object ms) name a b g = refl

text_held : (d : Data) (name : Text) (a b : Contents) → IsPartOf (with_copy d name a) b → HasUtf8Texts d
    → HoldsItsText b (own_node d name a)
unfolding copied_node
text_held null name a b g u e = absurd (omega (arith, e))
text_held (boolean t) name a b g u e = absurd (omega (arith, e))
text_held (number (unsigned n)) name a b g u e = absurd (omega (arith, e))
text_held (number (negative z)) name a b g u e = absurd (omega (arith, e))
text_held (number (float x)) name a b g u e = absurd (omega (arith, e))
text_held (string s) name a b g u e = let t = own_text s name a b g in (t.0, rw t.1 u)
text_held (array ds) name a b g u e = absurd (omega (arith, e))
text_held (object ms) name a b g u e = absurd (omega (arith, e))

-- a copied value under its name is held
pub IsHeld-with_copy : (d : Data) (key : List ℕ) (a b : Contents) →
    IsPartOf (with_copy d (next_text a key) (with_text a key)) b → HasUtf8Texts d
    → IsHeld b (length (with_copy d (next_text a key) (with_text a key)).nodes - 1)
IsHeld-with_copy d key a b g u =
    let named = with_text a key in let name = next_text a key in let there = with_copy d name named in
    let at : node_at b (length there.nodes - 1) ≡ own_node d name named = node_at-with_copy d name named b g in
    let up : IsPartOf named b =
    IsPartOf-trans named there b
    (IsPartOf-trans named (inside d named) there (IsPartOf-inside d named)
    (rw (with_copy-inside d name named) (IsPartOf-with_node (inside d named) _))) g in
    record {
      node = omega (arith, length-with_copy d name named, ap length g.1.1, length-append there.nodes g.1.0);
      start = rw (at, content_start-own_node d name named)
          (omega (arith, length-with_copy d name named, inside-longer d named));
      name = subst (HoldsText b) (sym (ap node_name at ∙ node_name-own_node d name named))
          (HoldsText-IsPartOf named b name up (HoldsText-next_text a key));
      text = rw at (text_held d name named b g u);
    }
