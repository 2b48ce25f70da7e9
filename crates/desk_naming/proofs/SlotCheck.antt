-- The terms of a table show that `slot = 1` is its only CHECK exactly where a node compares the slot with 1.
use Rattle.std.proofs.Common.{◌≡◌, ◌≢◌, ◌<◌, ◌≤◌, ◌↔◌, ℕ, zero, suc, pos, List, [], ◌∷◌, length, get_or, Bool, IsTrue}
use Rattle.std.proofs.Common.{Some, refl, arith}
use Rattle.std.specs.Prelude.{slice_get}
use Rattle.std.proofs.lemmas.Option.{get_or_from_slice_get}
use Rattle.sqlite_value.specs.declared.keys.Collation.TheVariants as collations
use Rattle.sqlite_value.specs.declared.value.Value.{Value}
use Rattle.sqlite_value.specs.declared.value.Value.TheVariants.{Null, Int}
use Rattle.sqlite_sql.specs.declared.ops.BinaryOp.{BinaryOp}
use Rattle.sqlite_sql.specs.declared.ops.BinaryOp.TheVariants.{Compare}
use Rattle.sqlite_sql.specs.declared.ops.CompareOp.TheVariants.{Eq}
use Rattle.sqlite_sql.specs.Term.{Term, op2, col, lit}
use Rattle.sqlite_schema.specs.declared.code.Op.{Op}
use Rattle.sqlite_schema.specs.declared.code.Op.TheVariants.{Literal, Column, Unary, Binary, Case}
use Rattle.sqlite_schema.specs.Code.{op_term, term_to, term_in, terms_in}
use Rattle.desk_naming.specs.Tables.{slot_is_one}
use Rattle.desk_naming.specs.Rules.{ComparesSlot}

-- a node that is none of those past the end is in range
found : (ops : List Op) (at : ℕ) (op : Op) → get_or ops at (Literal Null) ≡ op → op ≢ Literal Null
    → slice_get ops at ≡ Some op
found [] at op is other = absurd (other cc)
found (x ∷ ops) zero op is other = cc
found (x ∷ ops) (suc at) op is other = found ops at op is other

-- what a node stands for: the operands of a binary one, a column, or a literal
binary_of : (below : ℕ → Term) (op : Op) (o : BinaryOp) (s t : Term) → op_term below op ≡ op2 o s t
    → (a : ℕ) × (b : ℕ) × (op ≡ Binary o a b) × (below a ≡ s) × (below b ≡ t)
binary_of below (Literal v) o s t is = absurd cc
binary_of below (Column slot at) o s t is = absurd cc
binary_of below (Unary u a) o s t is = absurd cc
binary_of below (Binary p a b) o s t is = (a, b, cc, cc, cc)
binary_of below (Case test a b) o s t is = absurd cc

column_of : (below : ℕ → Term) (op : Op) (slot at : ℕ) → op_term below op ≡ col slot at → op ≡ Column slot at
column_of below (Literal v) slot at is = absurd cc
column_of below (Column s a) slot at is = cc
column_of below (Unary u a) slot at is = absurd cc
column_of below (Binary p a b) slot at is = absurd cc
column_of below (Case test a b) slot at is = absurd cc

literal_of : (below : ℕ → Term) (op : Op) (v : Value) → op_term below op ≡ lit v → op ≡ Literal v
literal_of below (Literal w) v is = cc
literal_of below (Column s a) v is = absurd cc
literal_of below (Unary u a) v is = absurd cc
literal_of below (Binary p a b) v is = absurd cc
literal_of below (Case test a b) v is = absurd cc

column_at : (ops : List Op) (depth at slot place : ℕ) → term_to ops depth at ≡ col slot place
    → slice_get ops at ≡ Some (Column slot place)
column_at ops zero at slot place is = absurd cc
column_at ops (suc depth) at slot place is =
    found ops at (Column slot place) (column_of (term_to ops depth) (get_or ops at (Literal Null)) slot place is)
    (λ e. cc)

number_at : (ops : List Op) (depth at n : ℕ) → term_to ops depth at ≡ lit (Int (pos n))
    → slice_get ops at ≡ Some (Literal (Int (pos n)))
number_at ops zero at n is = absurd cc
number_at ops (suc depth) at n is =
    found ops at (Literal (Int (pos n)))
    (literal_of (term_to ops depth) (get_or ops at (Literal Null)) (Int (pos n)) is) (λ e. cc)

compares_at : (ops : List Op) (depth at : ℕ) → term_to ops depth at ≡ slot_is_one → ComparesSlot ops at
compares_at ops zero at is = absurd cc
compares_at ops (suc depth) at is =
    let it = binary_of (term_to ops depth) (get_or ops at (Literal Null)) (Compare Eq collations.Binary) (col 1 0)
    (lit (Int (pos 1))) is in
    record {
      slot = it.0;
      one = it.1;
      equals = found ops at (Binary (Compare Eq collations.Binary) it.0 it.1) it.2 (λ e. cc);
      slot_is = column_at ops depth it.0 1 0 it.3;
      one_is = number_at ops depth it.1 1 it.4;
    }

-- three nodes that differ are more than one
at_two : (ops : List Op) (at : ℕ) → ComparesSlot ops at → (n : ℕ) × (length ops ≡ suc (suc n))
at_two [] at it = absurd (let e = it.equals in cc)
at_two (x ∷ []) zero it = absurd (alone it.slot it.equals it.slot_is)
  where
    alone : (slot : ℕ) {a b : ℕ} {o : BinaryOp} → slice_get (x ∷ []) 0 ≡ Some (Binary o a b)
        → slice_get (x ∷ []) slot ≡ Some (Column 1 0) → ⊥
    alone zero equals column = cc
    alone (suc slot) equals column = cc
at_two (x ∷ []) (suc at) it = absurd (let e = it.equals in cc)
at_two (x ∷ y ∷ ops) at it = (length ops, refl)

term_at : (ops : List Op) (at n : ℕ) → ComparesSlot ops at → term_to ops (suc (suc n)) at ≡ slot_is_one
term_at ops at n it =
    let here = get_or_from_slice_get ops at _ (Literal Null) it.equals in
    let slot = get_or_from_slice_get ops it.slot _ (Literal Null) it.slot_is in
    let one = get_or_from_slice_get ops it.one _ (Literal Null) it.one_is in
    rw here (rw slot (rw one refl))

-- the term at one root
pub checks : (ops : List Op) (root : ℕ) → ComparesSlot ops root → terms_in ops (root ∷ []) ≡ slot_is_one ∷ []
checks ops root it =
    let two = at_two ops root it in
    rw two.1 (rw (term_at ops root two.0 it) refl)

pub compares : (ops : List Op) (root : ℕ) → terms_in ops (root ∷ []) ≡ slot_is_one ∷ [] → ComparesSlot ops root
compares ops root is = compares_at ops (length ops) root (let e : term_in ops root ≡ slot_is_one = cc in e)

-- where there is one root
pub at_root : (ops : List Op) (roots : List ℕ) (d : ℕ) (said : Bool) → 1 ≤ length roots → length roots < 2
    → IsTrue said ↔ ComparesSlot ops (get_or roots 0 d) → IsTrue said ↔ (terms_in ops roots ≡ slot_is_one ∷ [])
at_root ops [] d said low high it = absurd (omega (arith, low))
at_root ops (root ∷ []) d said low high it =
    (λ h. checks ops root (it.0 h), λ is. it.1 (compares ops root is))
at_root ops (root ∷ other ∷ roots) d said low high it = absurd (omega (arith, high))
