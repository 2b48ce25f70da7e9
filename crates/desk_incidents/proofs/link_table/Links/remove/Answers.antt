use Rattle.std.proofs.Common.{◌≡◌, ◌∙◌, List, ap, sym, true}
use Rattle.desk_incidents.specs.declared.incident.Linked.{Linked}
use Rattle.desk_incidents.specs.Links.{has_link, without_link}
use Rattle.desk_index.specs.Slots.{live}
use Rattle.desk_incidents.proofs.LinkTables.{not-there}
use Rattle.desk_incidents.proofs.NotedLinks.{has-ordered}
use Rattle.desk_incidents.proofs.NotedMerges.{both-same, noted-removed}
use Rattle.desk_incidents.proofs.link_table.Links.remove.Goals as goal

pub invariant_of-self : goal.invariant_of-self
invariant_of-self c =
    let there : has_link c.args.link (live c.self.inside.slots.items) ≡ true =
    ap (λ (ls : List Linked). has_link c.args.link ls) (ap (λ v. v.pairs) c.self.view_is)
    ∙ sym c.has.ensures ∙ c.if-has.true in (
      c.remove_link.ensures.table,
      noted-removed c.self.inside.slots.items c.remove_link.new.slots.items c.self.inside.ends.sets.entries
          c.forget_link.new.sets.sets.entries c.args.link c.self.invariant.0.ordered
          (has-ordered c.args.link (live c.self.inside.slots.items) c.self.invariant.0.ordered there)
          c.remove_link.ensures.links c.forget_link.ensures.ends c.self.invariant.1,
    )

pub returns-then-has-clause-pairs : goal.returns-then-has-clause-pairs
returns-then-has-clause-pairs c =
    c.remove_link.ensures.links ∙ ap (λ (ls : List Linked). without_link c.args.link ls)
    (ap (λ v. v.pairs) c.self.view_is)

pub returns-then-has-clause-preserved : goal.returns-then-has-clause-preserved
returns-then-has-clause-preserved c =
    both-same c.self.inside.index.lists.entries c.remove_link.new.index.lists.entries
    c.self.inside.ends.sets.entries c.forget_link.new.sets.sets.entries c.remove_link.ensures.preserved
    c.forget_link.ensures.preserved c.args.self.now.listed (ap (λ v. v.listed) c.self.view_is)

pub returns-else-has-clause-pairs : goal.returns-else-has-clause-pairs
returns-else-has-clause-pairs c = not-there c.args.link c.args.self.now.pairs (sym c.has.ensures ∙ c.if-has.false)
