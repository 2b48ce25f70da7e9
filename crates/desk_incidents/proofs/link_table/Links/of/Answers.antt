use Rattle.std.proofs.Common.{◌≡◌, ◌∙◌, ℕ, List, Option, IfOk, ap, subst}
use Rattle.desk_incidents.specs.declared.incident.Linked.{Linked}
use Rattle.desk_incidents.specs.Links.{links_of}
use Rattle.desk_incidents.specs.LinkTable.{ids_at, live_places}
use Rattle.desk_incidents.proofs.LinkEntries.{ids-at}
use Rattle.desk_incidents.proofs.link_table.Links.of.Goals as goal

pub returns : goal.returns
returns c =
    subst (λ (ids : List (List ℕ)). IfOk c.ids_beside.result (λ found. found ≡ ids))
    (ap (λ (ys : List (Option Linked)). ids_at c.args.number c.args.incidents.now ys c.at.result.now)
    c.deref.ensures.value
    ∙ ids-at c.args.number c.args.incidents.now c.self.inside.slots.items c.at.result.now
    (ap (live_places c.self.inside.slots.items) c.at.ensures ∙ c.self.invariant.0.indexed c.args.number)
    ∙ ap (λ (ls : List Linked). links_of c.args.number c.args.incidents.now ls) (ap (λ v. v.pairs) c.self.view_is))
    c.ids_beside.ensures
