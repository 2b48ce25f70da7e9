use Rattle.std.proofs.Common.{◌∙◌, ap}
use Rattle.std.proofs.lemmas.Result.{on_ok_weaker}
use Rattle.desk_incidents.proofs.LinkEntries.{IsLinkTable-reserved}
use Rattle.desk_incidents.proofs.NotedMerges.{both-preserved, both-listed, both_true, noted-same}
use Rattle.desk_incidents.proofs.link_table.Links.reserve.Goals as goal

pub returns-in_err-open-clause-preserved : goal.returns-in_err-open-clause-preserved
returns-in_err-open-clause-preserved c =
    both-preserved c.self.inside.index.lists.entries c.self.inside.index.lists.entries c.self.inside.ends.sets.entries
    c.open.new.self.sets.entries (λ n h. h) c.open.ensures.preserved
    c.args.self.now.listed (ap (λ v. v.listed) c.self.view_is)

pub invariant_of-self-2 : goal.invariant_of-self-2
invariant_of-self-2 c = (
  IsLinkTable-reserved c.self.inside.slots.items c.self.inside.index.lists.entries c.reserve.new.self.lists.entries
      c.self.invariant.0 c.reserve.ensures.lists,
  noted-same c.self.inside.slots.items c.self.inside.ends.sets.entries c.open.new.self.sets.entries
      c.open.ensures.ends c.self.invariant.1,
)

pub returns-clause-listed : goal.returns-clause-listed
returns-clause-listed c =
    on_ok_weaker c.reserve.result
    (λ h. both-listed c.args.number c.reserve.new.self.lists.entries c.open.new.self.sets.entries
    ∙ both_true _ _ h c.in_ok-open.ensures.there)
    c.reserve.ensures.there

pub returns-clause-preserved : goal.returns-clause-preserved
returns-clause-preserved c =
    both-preserved c.self.inside.index.lists.entries c.reserve.new.self.lists.entries c.self.inside.ends.sets.entries
    c.open.new.self.sets.entries c.reserve.ensures.preserved c.open.ensures.preserved
    c.args.self.now.listed (ap (λ v. v.listed) c.self.view_is)
