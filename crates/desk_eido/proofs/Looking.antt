-- A look under a name, from the last member of an object to the first.
use Rattle.std.proofs.Common.{◌≡◌, ◌<◌, ◌≤◌, ℕ, zero, suc, ◌-◌, Bool, true, false, cond, List, Option, Some, None}
use Rattle.std.proofs.Common.{slice_get}
use Rattle.std.proofs.Common.{refl, sym, ap, subst, ◌∙◌, arith, le-ltb, lt-ltb}
use Rattle.std.proofs.lemmas.Option.{get_or_from_slice_get}
use Rattle.std.specs.Str.{bytes_eq}
use Rattle.desk_arena.specs.Contents.{Contents, text_at}
use Rattle.desk_arena.specs.declared.node.Node.{Node}
use Rattle.desk_arena.specs.declared.text.Text.{Text}
use Rattle.desk_eido.specs.Document.{node_at, node_name, content_start, seen_node, seen_if, last_before, last_under}
use Rattle.desk_eido.specs.Document.{IsHeld, AreHeld, IsHeldDocument}
use Rattle.desk_eido.specs.Seen.{Seen}

-- of the members before `end` each is held, and the look through them comes to `goal`
pub record ComesTo (a : Contents) (start : ℕ) (name : List ℕ) (end : ℕ) (goal : Option Seen) : Type 0 where
  pub steps : ℕ
  pub held : AreHeld steps a start end
  pub comes : last_before steps a start name end ≡ goal

-- the node of an index is the one that was got
pub node_is : (a : Contents) (i : ℕ) (node : Node) → slice_get a.nodes i ≡ Some node → node_at a i ≡ node
node_is a i node h = get_or_from_slice_get a.nodes i node _ h

pub ComesTo-begin : (a : Contents) (i : ℕ) (name : List ℕ) → IsHeldDocument a i →
    ComesTo a (content_start (node_at a i)) name i (last_under (record { contents = a; index = i }) name)
unfolding last_under
ComesTo-begin a i name h = record { steps = i; held = h.1; comes = refl }

module _ (a : Contents) (start : ℕ) (name : List ℕ) (end : ℕ) (goal : Option Seen) where
  held_by : (n : ℕ) → AreHeld n a start end → start < end → IsHeld a (end - 1)
  held_by zero h lt = absurd (omega (arith, h, lt))
  held_by (suc n) h lt = (h lt).0

  -- the last of them is held
  pub ComesTo-held : ComesTo a start name end goal → start < end → IsHeld a (end - 1)
  ComesTo-held w lt = held_by w.steps w.held lt

  looked : (n : ℕ) → AreHeld n a start end → last_before n a start name end ≡ goal → start < end → (rest : ℕ)
      × AreHeld rest a start (content_start (node_at a (end - 1)))
      × (seen_if a name (node_at a (end - 1)) (last_before rest a start name (content_start (node_at a (end - 1))))
      ≡ goal)
  looked zero h e lt = absurd (omega (arith, h, lt))
  looked (suc n) h e lt = (n, (h lt).1, rw (lt-ltb start end lt) at e)

  -- where it has the name, what is seen of it is looked for
  pub ComesTo-here : ComesTo a start name end goal → start < end → (node : Node) → node_at a (end - 1) ≡ node →
      bytes_eq name (text_at a (node_name node)) ≡ true → seen_node a node ≡ goal
  ComesTo-here w lt node is t =
      let l = looked w.steps w.held w.comes lt in
      let rest = last_before l.0 a start name (content_start (node_at a (end - 1))) in
      sym (ap (λ b. cond b (seen_node a node) rest) t) ∙ (ap (λ x. seen_if a name x rest) (sym is) ∙ l.2)

  -- else the look goes on with those before it
  pub ComesTo-next : ComesTo a start name end goal → start < end → (node : Node) → node_at a (end - 1) ≡ node →
      bytes_eq name (text_at a (node_name node)) ≡ false → (e : ℕ) → content_start node ≡ e →
      ComesTo a start name e goal
  ComesTo-next w lt node is t e end_is =
      let l = looked w.steps w.held w.comes lt in
      let rest = last_before l.0 a start name (content_start (node_at a (end - 1))) in
      let comes : rest ≡ goal =
      sym (ap (λ b. cond b (seen_node a node) rest) t) ∙ (ap (λ x. seen_if a name x rest) (sym is) ∙ l.2) in
      subst (λ n. ComesTo a start name n goal) (ap content_start is ∙ end_is)
      (record { steps = l.0; held = l.1; comes = comes })

  stops : (n : ℕ) → last_before n a start name end ≡ goal → end ≤ start → None ≡ goal
  stops zero e le = e
  stops (suc n) e le = rw (le-ltb start end le) at e

  pub ComesTo-end : ComesTo a start name end goal → end ≤ start → None ≡ goal
  ComesTo-end w le = stops w.steps w.comes le

-- the test of a node's name, as it was made
pub name_test : (a : Contents) (name text : List ℕ) (t : Text) (node : Node) (test : Bool) →
    test ≡ bytes_eq name text → text ≡ text_at a t → t ≡ node_name node →
    bytes_eq name (text_at a (node_name node)) ≡ test
name_test a name text t node test e text_is t_is = sym (e ∙ ap (bytes_eq name) (text_is ∙ ap (text_at a) t_is))
