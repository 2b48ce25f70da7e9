-- The members of a copied document are its value's.
use mathlib.Core.Path.{fun_ext}
use Rattle.std.proofs.Common.{◌≡◌, ◌-◌, ℕ, List, length, sym, ap, subst, ◌∙◌, arith}
use Rattle.std.specs.Prelude.{option_and_then}
use Rattle.serde_json.specs.Data.{Data, object, Members}
use Rattle.serde_json.specs.Find.{get}
use Rattle.desk_arena.specs.Contents.{Contents}
use Rattle.desk_arena.specs.declared.node.NodeId.{NodeId}
use Rattle.desk_types.specs.Refusal.{member_name}
use Rattle.desk_eido.specs.Copied.{IsPartOf, no_name, with_copy, IsCopy, IsCopied}
use Rattle.desk_eido.specs.Document.{node_at, seen_under, placed_members, IsHeldDocument}
use Rattle.desk_eido.specs.Document.{HasDistinctMembers}
use Rattle.desk_eido.specs.Names.{HasDistinctNames}
use Rattle.desk_eido.specs.Seen.{seen, seen_members}
use Rattle.desk_eido.specs.Utf8.{HasUtf8Texts}
use Rattle.desk_eido.proofs.Growing.{IsPartOf-refl, inside}
use Rattle.desk_eido.proofs.Nodes.{own_node, length-with_copy, node_at-with_copy, object_by_node}
use Rattle.desk_eido.proofs.Scanning.{held-object, distinct-object, seen_under-object}

-- a copy is in the arena, and its node is where it ends
located : (d : Data) (id : NodeId) (a : Contents) (h : IsCopy d id a) → IsPartOf (with_copy d no_name h.0) a
    × (id.index ≡ length (inside d h.0).nodes)
located d id a h =
    let whole = with_copy d no_name h.0 in (
      subst (IsPartOf whole) (sym h.1) (IsPartOf-refl whole),
      omega
          (arith, h.2, ap (λ (z : Contents). length z.nodes) h.1, length-with_copy d no_name h.0),
    )

-- and is its value's own
node_at-copy : (d : Data) (id : NodeId) (a : Contents) (h : IsCopy d id a) →
    node_at a id.index ≡ own_node d no_name h.0
node_at-copy d id a h =
    let l = located d id a h in
    let e : id.index ≡ length (with_copy d no_name h.0).nodes - 1 =
    omega (arith, l.1, length-with_copy d no_name h.0) in
    ap (node_at a) e ∙ node_at-with_copy d no_name h.0 a l.0

-- what lies where an object was copied is an object
is_object : (d : Data) (id : NodeId) (a : Contents) → IsCopied id a → IsCopy d id a → (ms : Members) × (d ≡ object ms)
is_object d id a c h =
    object_by_node d c.0 h.0 c.4.0 no_name c.1 (sym (node_at-copy d id a h) ∙ node_at-copy c.0 id a c.4)

held_at : (d : Data) (id : NodeId) (a : Contents) (ms : Members) → d ≡ object ms → HasUtf8Texts d → IsCopy d id a →
    IsHeldDocument a id.index
held_at d id a ms e u h =
    let c = subst (λ v. IsCopy v id a) e h in let l = located (object ms) id a c in
    subst (IsHeldDocument a) (sym l.1) (held-object ms c.0 a l.0 (subst HasUtf8Texts e u))

-- a copied document's node and its members are held
pub held-with_copy : (id : NodeId) (a : Contents) → IsCopied id a → IsHeldDocument a id.index
held-with_copy id a c = let o = is_object c.0 id a c c.4 in held_at c.0 id a o.0 o.1 c.2 c.4

distinct_at : (d : Data) (id : NodeId) (a : Contents) (ms : Members) → d ≡ object ms → HasDistinctNames d →
    IsCopy d id a → HasDistinctMembers (record { contents = a; index = id.index })
distinct_at d id a ms e u h =
    let c = subst (λ v. IsCopy v id a) e h in let l = located (object ms) id a c in
    subst (λ i. HasDistinctMembers (record { contents = a; index = i })) (sym l.1)
    (distinct-object ms c.0 a l.0 (subst HasDistinctNames e u))

-- and no two of its members have one name
pub distinct-with_copy : (id : NodeId) (a : Contents) → IsCopied id a →
    HasDistinctMembers (record { contents = a; index = id.index })
distinct-with_copy id a c = let o = is_object c.0 id a c c.4 in distinct_at c.0 id a o.0 o.1 c.3 c.4

seen_at : (d : Data) (id : NodeId) (a : Contents) (ms : Members) (name : List ℕ) → d ≡ object ms → IsCopy d id a
    → seen_under (record { contents = a; index = id.index }) name ≡ option_and_then seen (get name d)
seen_at d id a ms name e h =
    let c = subst (λ v. IsCopy v id a) e h in let l = located (object ms) id a c in
    ap (λ i. seen_under (record { contents = a; index = i }) name) l.1
    ∙ seen_under-object ms c.0 a l.0 name ∙ ap (λ v. option_and_then seen (get name v)) (sym e)

-- what is seen of its members in the arena is what is seen of the members of any value that it is a copy of
pub placed_members-with_copy : (d : Data) (id : NodeId) (a : Contents) → IsCopied id a → IsCopy d id a →
    placed_members (record { contents = a; index = id.index }) ≡ seen_members d
placed_members-with_copy d id a c h =
    let o = is_object d id a c h in fun_ext (λ m. seen_at d id a o.0 (member_name m) o.1 h)
