use Rattle.std.proofs.Common.{◌≡◌, ◌∙◌, ◌++◌, ◌∷◌, ◌==◌, [], ℕ, List, Option, Some, false, length, cond}
use Rattle.std.proofs.Common.{ap, sym, subst}
use Rattle.desk_incidents.specs.declared.incident.Linked.{Linked}
use Rattle.desk_incidents.specs.Links.{has_link}
use Rattle.desk_incidents.specs.LinkTable.{IsLinkTable}
use Rattle.desk_index.specs.Places.{at_in}
use Rattle.desk_index.specs.Slots.{live}
use Rattle.desk_index.proofs.Slots.{live-push}
use Rattle.desk_incidents.specs.EndSets.{AreNoted}
use Rattle.desk_incidents.proofs.NotedMerges.{both-preserved, noted-same, noted-pushed}
use Rattle.desk_incidents.proofs.LinkEntries.{IsLinkTable-reserved}
use Rattle.desk_incidents.proofs.LinkTables.{IsLinkTable-pushed}
use Rattle.desk_incidents.proofs.link_table.Links.push.Goals as goal

pub returns-in_err-open-clause-preserved : goal.returns-in_err-open-clause-preserved
returns-in_err-open-clause-preserved c =
    both-preserved c.self.inside.index.lists.entries c.self.inside.index.lists.entries c.self.inside.ends.sets.entries
    c.open.new.self.sets.entries (λ n h. h) c.open.ensures.preserved
    c.args.self.now.listed (ap (λ v. v.listed) c.self.view_is)

pub returns-in_err-grow-clause-preserved : goal.returns-in_err-grow-clause-preserved
returns-in_err-grow-clause-preserved c =
    both-preserved c.self.inside.index.lists.entries c.self.inside.index.lists.entries c.self.inside.ends.sets.entries
    c.grow.new.self.sets.entries (λ n h. h) (λ n h. c.grow.ensures.preserved n ∙ c.open.ensures.preserved n h)
    c.args.self.now.listed (ap (λ v. v.listed) c.self.view_is)

pub returns-in_err-reserve-clause-preserved : goal.returns-in_err-reserve-clause-preserved
returns-in_err-reserve-clause-preserved c =
    both-preserved c.self.inside.index.lists.entries c.self.inside.index.lists.entries c.self.inside.ends.sets.entries
    c.grow.new.self.sets.entries (λ n h. h) (λ n h. c.grow.ensures.preserved n ∙ c.open.ensures.preserved n h)
    c.args.self.now.listed (ap (λ v. v.listed) c.self.view_is)

pub invariant_of-self-in_err-reserve-2 : goal.invariant_of-self-in_err-reserve-2
invariant_of-self-in_err-reserve-2 c =
    subst (λ (ys : List (Option Linked)). IsLinkTable ys c.reserve-2.new.self.lists.entries
    × AreNoted ys c.grow.new.self.sets.entries)
    (sym c.in_ok-reserve.ensures.items) (
      IsLinkTable-reserved c.self.inside.slots.items c.self.inside.index.lists.entries
          c.reserve-2.new.self.lists.entries c.self.invariant.0 c.reserve-2.ensures.lists,
      noted-same c.self.inside.slots.items c.self.inside.ends.sets.entries c.grow.new.self.sets.entries
          (λ n m. c.grow.ensures.ends n m ∙ c.open.ensures.ends n m) c.self.invariant.1,
    )

pub returns-in_err-reserve-2-clause-preserved : goal.returns-in_err-reserve-2-clause-preserved
returns-in_err-reserve-2-clause-preserved c =
    both-preserved c.self.inside.index.lists.entries c.reserve-2.new.self.lists.entries c.self.inside.ends.sets.entries
    c.grow.new.self.sets.entries c.reserve-2.ensures.preserved
    (λ n h. c.grow.ensures.preserved n ∙ c.open.ensures.preserved n h)
    c.args.self.now.listed (ap (λ v. v.listed) c.self.view_is)

pub invariant_of-self-in_err-reserve-3 : goal.invariant_of-self-in_err-reserve-3
invariant_of-self-in_err-reserve-3 c =
    subst (λ (ys : List (Option Linked)). IsLinkTable ys c.reserve-3.new.self.lists.entries
    × AreNoted ys c.grow.new.self.sets.entries)
    (sym c.in_ok-reserve.ensures.items) (
      IsLinkTable-reserved c.self.inside.slots.items c.self.inside.index.lists.entries
          c.reserve-3.new.self.lists.entries c.self.invariant.0
          (λ n. c.reserve-3.ensures.lists n ∙ c.reserve-2.ensures.lists n),
      noted-same c.self.inside.slots.items c.self.inside.ends.sets.entries c.grow.new.self.sets.entries
          (λ n m. c.grow.ensures.ends n m ∙ c.open.ensures.ends n m) c.self.invariant.1,
    )

pub returns-in_err-reserve-3-clause-preserved : goal.returns-in_err-reserve-3-clause-preserved
returns-in_err-reserve-3-clause-preserved c =
    both-preserved c.self.inside.index.lists.entries c.reserve-3.new.self.lists.entries c.self.inside.ends.sets.entries
    c.grow.new.self.sets.entries (λ n h. c.reserve-3.ensures.preserved n (c.reserve-2.ensures.preserved n h))
    (λ n h. c.grow.ensures.preserved n ∙ c.open.ensures.preserved n h)
    c.args.self.now.listed (ap (λ v. v.listed) c.self.view_is)

pub invariant_of-self-2 : goal.invariant_of-self-2
invariant_of-self-2 c =
    let grown : c.push_within.new.items.items ≡ c.self.inside.slots.items ++ Some c.args.link ∷ [] =
    c.push_within.ensures
    ∙ ap (λ (ys : List (Option Linked)). ys ++ Some c.args.link ∷ []) c.in_ok-reserve.ensures.items in
    let slot : c.slot_count-slot.result ≡ length c.self.inside.slots.items =
    c.slot_count-slot.ensures
    ∙ ap (λ (ys : List (Option Linked)). length ys) (c.deref.ensures.value ∙ c.in_ok-reserve.ensures.items) in
    let absent : has_link c.args.link (live c.self.inside.slots.items) ≡ false =
    ap (λ (ls : List Linked). has_link c.args.link ls) (ap (λ v. v.pairs) c.self.view_is) ∙ c.requires.new in
    subst (λ (ys : List (Option Linked)). IsLinkTable ys c.push-2.new.self.lists.entries
    × AreNoted ys c.note.new.self.sets.entries) (sym grown) (
      IsLinkTable-pushed c.self.inside.slots.items c.reserve-3.new.self.lists.entries c.push.new.self.lists.entries
          c.push-2.new.self.lists.entries c.args.link
          (IsLinkTable-reserved c.self.inside.slots.items c.self.inside.index.lists.entries
          c.reserve-3.new.self.lists.entries c.self.invariant.0
          (λ n. c.reserve-3.ensures.lists n ∙ c.reserve-2.ensures.lists n))
          absent c.requires.ordered
          (λ n. c.push.ensures.lists n
          ∙ ap (λ (k : ℕ). cond (c.args.link.incident == n) (at_in n c.reserve-3.new.self.lists.entries ++ k ∷ [])
          (at_in n c.reserve-3.new.self.lists.entries)) slot)
          (λ n. c.push-2.ensures.lists n
          ∙ ap (λ (k : ℕ). cond (c.args.link.other == n) (at_in n c.push.new.self.lists.entries ++ k ∷ [])
          (at_in n c.push.new.self.lists.entries)) slot),
      noted-pushed c.self.inside.slots.items c.grow.new.self.sets.entries c.note.new.self.sets.entries c.args.link
          c.note.ensures.ends
          (noted-same c.self.inside.slots.items c.self.inside.ends.sets.entries c.grow.new.self.sets.entries
          (λ n m. c.grow.ensures.ends n m ∙ c.open.ensures.ends n m) c.self.invariant.1),
    )

pub returns-clause-ok : goal.returns-clause-ok
returns-clause-ok c =
    let grown : c.push_within.new.items.items ≡ c.self.inside.slots.items ++ Some c.args.link ∷ [] =
    c.push_within.ensures
    ∙ ap (λ (ys : List (Option Linked)). ys ++ Some c.args.link ∷ []) c.in_ok-reserve.ensures.items in
    ap (λ (ys : List (Option Linked)). live ys) grown ∙ live-push c.self.inside.slots.items c.args.link
    ∙ ap (λ (ls : List Linked). ls ++ c.args.link ∷ []) (ap (λ v. v.pairs) c.self.view_is)

pub returns-clause-preserved : goal.returns-clause-preserved
returns-clause-preserved c =
    both-preserved c.self.inside.index.lists.entries c.push-2.new.self.lists.entries c.self.inside.ends.sets.entries
    c.note.new.self.sets.entries
    (λ n h. c.push-2.ensures.there n ∙ c.push.ensures.there n
    ∙ c.reserve-3.ensures.preserved n (c.reserve-2.ensures.preserved n h))
    (λ n h. c.note.ensures.preserved n ∙ c.grow.ensures.preserved n ∙ c.open.ensures.preserved n h)
    c.args.self.now.listed (ap (λ v. v.listed) c.self.view_is)
