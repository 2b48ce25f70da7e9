use Rattle.std.proofs.Common.{◌≡◌, ℕ, List, sym, ap, ◌∙◌, arith, subst}
use Rattle.desk_arena.specs.Contents.{HoldsText}
use Rattle.desk_eido.specs.Document.{HoldsItsText, node_at, content_start, node_name, seen_under, last_under}
use Rattle.desk_eido.specs.Document.{Placed, HasDistinctMembers}
use Rattle.desk_eido.proofs.Looking.{ComesTo, node_is, ComesTo-begin, ComesTo-held, ComesTo-next, ComesTo-end}
use Rattle.desk_eido.proofs.Looking.{ComesTo-here, name_test}
use Rattle.desk_eido.proofs.copied.Document.under.Goals as goal

pub loop-end-init : goal.loop-end-init
loop-end-init c =
    let a = c.self.inside.arena.now in let i = c.self.inside.object.index in let name = c.args.name.now in
    let start_is = ap content_start (node_is a i c.node.result c.node.ensures) ∙ sym c.content_start-start.ensures in
    subst (λ s. ComesTo a s name i (last_under c.args.self.now name)) start_is
    (subst (λ p. ComesTo a (content_start (node_at a i)) name i (last_under p name)) c.self.view_is
    (ComesTo-begin a i name c.self.invariant.0))

pub node-node-requires : goal.node-node-requires
node-node-requires c = let held = ComesTo-held _ _ _ _ _ c.loop-end.invariant c.loop-end-test.true in held.node

pub text-requires : goal.text-requires
text-requires c =
    let held = ComesTo-held _ _ _ _ _ c.loop-end.invariant c.loop-end-test.true in
    let a = c.self.inside.arena.now in
    subst (HoldsText a) (ap node_name (node_is a _ c.node-node.result c.node-node.ensures) ∙ sym c.node_name.ensures)
    held.name

pub seen_of-requires : goal.seen_of-requires
seen_of-requires c =
    let held = ComesTo-held _ _ _ _ _ c.loop-end.invariant c.loop-end-test.true in
    let a = c.self.inside.arena.now in
    subst (HoldsItsText a) (node_is a _ c.node-node.result c.node-node.ensures) held.text

pub loop-end-smaller : goal.loop-end-smaller
loop-end-smaller c =
    let held = ComesTo-held _ _ _ _ _ c.loop-end.invariant c.loop-end-test.true in
    let a = c.self.inside.arena.now in
    omega (
      arith,
      c.content_start-end.ensures,
      ap content_start
          (node_is a _ c.node-node.result c.node-node.ensures),
      held.start,
      c.loop-end-test.true,
    )

pub loop-end-preserved : goal.loop-end-preserved
loop-end-preserved c =
    let a = c.self.inside.arena.now in let node = c.node-node.result in
    let test = name_test a c.args.name.now c.text.result.now c.node_name.result node c.eq.result c.eq.ensures
    c.text.ensures c.node_name.ensures ∙ c.if-eq.false in
    ComesTo-next _ _ _ _ _ c.loop-end.invariant c.loop-end-test.true node (node_is a _ node c.node-node.ensures) test _
    (sym c.content_start-end.ensures)

-- two members have not one name, so what the look finds is what is seen under it
found : (p placed : Placed) (name : List ℕ) → placed ≡ p → HasDistinctMembers placed →
    last_under p name ≡ seen_under p name
found p placed name is distinct = subst (λ q. last_under q name ≡ seen_under q name) is (distinct name)

pub returns-then-eq : goal.returns-then-eq
returns-then-eq c =
    let a = c.self.inside.arena.now in let node = c.node-node.result in
    let test = name_test a c.args.name.now c.text.result.now c.node_name.result node c.eq.result c.eq.ensures
    c.text.ensures c.node_name.ensures ∙ c.if-eq.true in
    c.seen_of.ensures
    ∙ ComesTo-here _ _ _ _ _ c.loop-end.invariant c.loop-end-test.true node (node_is a _ node c.node-node.ensures) test
    ∙ found _ _ c.args.name.now c.self.view_is c.self.invariant.1

pub returns : goal.returns
returns c =
    ComesTo-end _ _ _ _ _ c.loop-end.invariant c.loop-end-test.false
    ∙ found _ _ c.args.name.now c.self.view_is c.self.invariant.1
