use Rattle.std.proofs.Common.{◌∙◌, List, ap, sym, arith}
use Rattle.desk_incidents.specs.declared.incident.Linked.{Linked}
use Rattle.desk_incidents.specs.Links.{has_link}
use Rattle.desk_index.specs.Slots.{live}
use Rattle.desk_incidents.proofs.NotedLinks.{joins-has, has-unordered}
use Rattle.desk_incidents.proofs.link_table.Links.has.Goals as goal

pub returns-then-link : goal.returns-then-link
returns-then-link c =
    c.has_either.ensures
    ∙ c.self.invariant.1 c.args.link.incident c.args.link.other (λ s. omega (arith, s, c.if-link.true))
    ∙ joins-has c.args.link (live c.self.inside.slots.items) c.self.invariant.0.ordered (omega (arith, c.if-link.true))
    ∙ ap (λ (ls : List Linked). has_link c.args.link ls) (ap (λ v. v.pairs) c.self.view_is)

pub returns-else-link : goal.returns-else-link
returns-else-link c =
    sym (has-unordered c.args.link (live c.self.inside.slots.items) c.self.invariant.0.ordered
    (omega (arith, c.if-link.false)))
    ∙ ap (λ (ls : List Linked). has_link c.args.link ls) (ap (λ v. v.pairs) c.self.view_is)
