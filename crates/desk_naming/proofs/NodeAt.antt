-- What a list of nodes holds at a place, by what a read of that place told.
use Rattle.std.proofs.Common.{◌≡◌, ◌<◌, ◌≤◌, ◌↔◌, ℕ, List, length, get_or, Bool, IsTrue, true, false, Some, refl, pos}
use Rattle.std.specs.Prelude.{slice_get}
use Rattle.std.proofs.Math.Dec.{eqb}
use Rattle.std.proofs.lemmas.Bool.{eq-eqb, eqb-true}
use Rattle.std.proofs.lemmas.Option.{slice_get_past, slice_get_read}
use Rattle.sqlite_value.specs.declared.keys.Collation.TheVariants as collations
use Rattle.sqlite_value.specs.declared.value.Value.TheVariants.{Int}
use Rattle.sqlite_sql.specs.declared.ops.BinaryOp.TheVariants.{Compare}
use Rattle.sqlite_sql.specs.declared.ops.CompareOp.TheVariants.{Eq}
use Rattle.sqlite_schema.specs.declared.code.Op.{Op}
use Rattle.sqlite_schema.specs.declared.code.Op.TheVariants.{Literal, Column, Binary}
use Rattle.desk_naming.specs.Rules.{ComparesSlot}

-- a read of the place told that node
abbrev pub Reads : List Op → ℕ → Op → Type 0
Reads nodes at node = (at < length nodes) × ((d : Op) → node ≡ get_or nodes at d)

-- a node that was read is there
is_at : (nodes : List Op) (at : ℕ) (node : Op) → Reads nodes at node → slice_get nodes at ≡ Some node
is_at nodes at node reads = slice_get_read nodes (length nodes) at node refl reads.0 (reads.1 node)

-- past the end there is no node
pub none_at : (nodes : List Op) (at : ℕ) (node : Op) → length nodes ≤ at
    → IsTrue false ↔ (slice_get nodes at ≡ Some node)
none_at nodes at node past = (λ h. absurd cc, λ is. let none = slice_get_past nodes at past in absurd cc)

-- where the node there differs, it is not that one
pub differs_at : (nodes : List Op) (at : ℕ) (found node : Op) → Reads nodes at found → (found ≡ node → ⊥)
    → IsTrue false ↔ (slice_get nodes at ≡ Some node)
differs_at nodes at found node reads differs =
    let there = is_at nodes at found reads in
    (λ h. absurd cc, λ is. absurd (differs (let e = there in cc)))

-- a column there is the one looked for where its place in the row is that one's
pub column_there : (nodes : List Op) (at slot place : ℕ) → Reads nodes at (Column slot place) → slot ≡ 1
    → IsTrue (eqb place 0) ↔ (slice_get nodes at ≡ Some (Column 1 0))
column_there nodes at slot place reads same =
    let there = is_at nodes at (Column slot place) reads in (
      λ h. let zero_is = eqb-true place 0 h in cc,
      λ is. eq-eqb place 0 cc,
    )

-- a column of another row is not the one looked for
pub column_elsewhere : (nodes : List Op) (at slot place : ℕ) → Reads nodes at (Column slot place)
    → (slot ≡ 1 → ⊥) → IsTrue (eqb slot 1) ↔ (slice_get nodes at ≡ Some (Column 1 0))
column_elsewhere nodes at slot place reads other =
    let there = is_at nodes at (Column slot place) reads in (
      λ h. absurd (other (eqb-true slot 1 h)),
      λ is. absurd (other cc),
    )

-- past the end no node compares the slot with 1
pub none_compares : (nodes : List Op) (at : ℕ) → length nodes ≤ at → IsTrue false ↔ ComparesSlot nodes at
none_compares nodes at past = (
  λ h. absurd cc,
  λ it. let none = slice_get_past nodes at past in let is = it.equals in absurd cc,
)

-- nor does a node that is another one
pub differs_compares : (nodes : List Op) (at : ℕ) (found : Op) → Reads nodes at found
    → ((slot one : ℕ) → found ≡ Binary (Compare Eq collations.Binary) slot one → ⊥)
    → IsTrue false ↔ ComparesSlot nodes at
differs_compares nodes at found reads differs =
    let there = is_at nodes at found reads in
    (λ h. absurd cc, λ it. absurd (differs it.slot it.one (let is = it.equals in cc)))

-- a comparison compares the slot with 1 where its first operand is the slot and its second is 1
pub compares_both : (nodes : List Op) (at a b : ℕ) (first second : Bool)
    → Reads nodes at (Binary (Compare Eq collations.Binary) a b)
    → IsTrue first ↔ (slice_get nodes a ≡ Some (Column 1 0)) → first ≡ true
    → IsTrue second ↔ (slice_get nodes b ≡ Some (Literal (Int (pos 1))))
    → IsTrue second ↔ ComparesSlot nodes at
compares_both nodes at a b first second reads is_slot holds is_one =
    let there = is_at nodes at (Binary (Compare Eq collations.Binary) a b) reads in (
      λ h. record { slot = a; one = b; equals = there; slot_is = is_slot.0 holds; one_is = is_one.0 h },
      λ it. is_one.1 (let is = it.equals in let one_is = it.one_is in cc),
    )

pub compares_neither : (nodes : List Op) (at a b : ℕ) (first : Bool)
    → Reads nodes at (Binary (Compare Eq collations.Binary) a b)
    → IsTrue first ↔ (slice_get nodes a ≡ Some (Column 1 0)) → first ≡ false → IsTrue first ↔ ComparesSlot nodes at
compares_neither nodes at a b first reads is_slot fails =
    let there = is_at nodes at (Binary (Compare Eq collations.Binary) a b) reads in (
      λ h. absurd cc,
      λ it. is_slot.1 (let is = it.equals in let slot_is = it.slot_is in cc),
    )
