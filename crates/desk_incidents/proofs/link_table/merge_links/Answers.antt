use Rattle.std.proofs.Common.{◌≡◌, ◌∙◌, List, not, ap, arith}
use Rattle.std.specs.List.{count_by}
use Rattle.desk_incidents.specs.declared.incident.Linked.{Linked}
use Rattle.desk_incidents.specs.Links.{same_link, has_link, new_link, without_link, links_after_merge}
use Rattle.desk_incidents.specs.LinkTable.{touches}
use Rattle.desk_index.specs.Slots.{live}
use Rattle.desk_incidents.proofs.FirstLinks.{count_preserved, links-closed, without-gone}
use Rattle.desk_incidents.proofs.link_table.merge_links.Goals as goal

pub merge_lists-requires-clause-unlinked : goal.merge_lists-requires-clause-unlinked
merge_lists-requires-clause-unlinked c =
    ap (λ (ls : List Linked). has_link (new_link c.args.from c.args.to) ls) c.remove_link.ensures.links
    ∙ ap (λ (m : Linked). has_link (new_link c.args.from c.args.to) (without_link m (live c.args.slots.now.items)))
    c.new_link.ensures
    ∙ without-gone (new_link c.args.from c.args.to) (live c.args.slots.now.items)

pub merge_lists-requires-clause-there : goal.merge_lists-requires-clause-there
merge_lists-requires-clause-there c = c.remove_link.ensures.preserved c.args.to ∙ c.requires.there

pub merge_lists-requires-clause-room : goal.merge_lists-requires-clause-room
merge_lists-requires-clause-room c =
    let one : count_by (touches c.args.to) (live c.remove_link.new.slots.items) ≡ count_by (touches c.args.to)
    (without_link c.new_link.result (live c.args.slots.now.items)) =
    ap (λ (ls : List Linked). count_by (touches c.args.to) ls) c.remove_link.ensures.links in
    let other : count_by (touches c.args.from) (live c.remove_link.new.slots.items) ≡ count_by (touches c.args.from)
    (without_link c.new_link.result (live c.args.slots.now.items)) =
    ap (λ (ls : List Linked). count_by (touches c.args.from) ls) c.remove_link.ensures.links in
    omega (
      arith,
      one,
      other,
      count_preserved (touches c.args.to) (λ m. not (same_link m c.new_link.result)) (live c.args.slots.now.items),
      count_preserved (touches c.args.from) (λ m. not (same_link m c.new_link.result)) (live c.args.slots.now.items),
      c.requires.room,
    )

pub returns-clause-links : goal.returns-clause-links
returns-clause-links c =
    c.merge_lists.ensures.links
    ∙ ap (λ (ls : List Linked). links_after_merge c.args.from c.args.to ls) c.remove_link.ensures.links
    ∙ ap (λ (m : Linked). links_after_merge c.args.from c.args.to (without_link m (live c.args.slots.now.items)))
    c.new_link.ensures
    ∙ links-closed c.args.from c.args.to (live c.args.slots.now.items)

pub returns-clause-preserved : goal.returns-clause-preserved
returns-clause-preserved c n = c.merge_lists.ensures.preserved n ∙ c.remove_link.ensures.preserved n
