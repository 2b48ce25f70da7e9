use Rattle.std.proofs.Common.{◌≡◌, ◌∙◌, ℕ, Option, Some, IfSome, is_some, subst, ap, sym}
use Rattle.desk_incidents.specs.Links.{same_link}
use Rattle.desk_incidents.specs.LinkTable.{live_places}
use Rattle.desk_index.specs.Slots.{passes, standing}
use Rattle.desk_incidents.proofs.LinkTables.{found-passes, passes-link, link-among, touches-first, touches-second}
use Rattle.desk_incidents.proofs.link_table.slot_of.Goals as goal

pub returns-then-one-other-clause-found : goal.returns-then-one-other-clause-found
returns-then-one-other-clause-found c =
    subst (λ o. IfSome o (λ k. standing c.args.slots.now k ≡ Some c.args.link)) (sym c.slot_among.ensures)
    (found-passes (λ k. passes (λ m. same_link m c.args.link) (standing c.args.slots.now k))
    (λ k. standing c.args.slots.now k ≡ Some c.args.link)
    (λ k h. passes-link c.args.link (standing c.args.slots.now k) h) c.at-one.result.now)

pub returns-then-one-other-clause-there : goal.returns-then-one-other-clause-there
returns-then-one-other-clause-there c =
    ap (λ (o : Option ℕ). is_some o) c.slot_among.ensures
    ∙ link-among c.args.slots.now c.args.link c.args.link.incident (touches-first c.args.link) c.at-one.result.now
    (ap (live_places c.args.slots.now) c.at-one.ensures ∙ c.requires.indexed c.args.link.incident)

pub returns-else-one-other-clause-found : goal.returns-else-one-other-clause-found
returns-else-one-other-clause-found c =
    subst (λ o. IfSome o (λ k. standing c.args.slots.now k ≡ Some c.args.link))
    (sym c.slot_among-else-one-other.ensures)
    (found-passes (λ k. passes (λ m. same_link m c.args.link) (standing c.args.slots.now k))
    (λ k. standing c.args.slots.now k ≡ Some c.args.link)
    (λ k h. passes-link c.args.link (standing c.args.slots.now k) h) c.at-other.result.now)

pub returns-else-one-other-clause-there : goal.returns-else-one-other-clause-there
returns-else-one-other-clause-there c =
    ap (λ (o : Option ℕ). is_some o) c.slot_among-else-one-other.ensures
    ∙ link-among c.args.slots.now c.args.link c.args.link.other (touches-second c.args.link) c.at-other.result.now
    (ap (live_places c.args.slots.now) c.at-other.ensures ∙ c.requires.indexed c.args.link.other)
