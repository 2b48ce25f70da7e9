use Rattle.std.proofs.Common.{◌≡◌, ◌<◌, ℕ, List}
use Rattle.desk_lines.specs.Holding.{HoldsLine}
use Rattle.desk_follow.specs.Tries.{Tried}
use Rattle.desk_follow.proofs.follow.FollowerHandler.answer.Given as goal

-- nodes were asked this line alone so far, by the key if they have one, and the next is of the group
abbrev pub invariant-loop-tried : goal.invariant-loop-tried
invariant-loop-tried g l = record {
  within : l.node < l.count;
  key : g.N.Nodes.has_key l.nodes ≡ g.N.Nodes.has_key l.fn.self.nodes;
  tried :
      (text : List ℕ) → HoldsLine l.fn.line text →
      Tried l.count (g.N.Nodes.has_key l.fn.self.nodes) (g.N.Nodes.tries l.fn.self.nodes) l.fn.self.node text
      (g.N.Nodes.tries l.nodes) l.node;
}
