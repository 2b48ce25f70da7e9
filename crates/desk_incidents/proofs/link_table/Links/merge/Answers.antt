use Rattle.std.proofs.Common.{◌≡◌, ◌∙◌, ◌≤◌, ◌+◌, ◌&&◌, ◌==◌, ℕ, List, Bool, Option, true, false, cond, length}
use Rattle.std.proofs.Common.{nat_eq, ap, sym, arith}
use Rattle.std.specs.List.{count_by, list_any}
use Rattle.std.proofs.Math.Nat.{min-le_right}
use Rattle.std.proofs.lemmas.Bool.{and_parts}
use Rattle.indexmap.specs.IndexSet.{spare}
use Rattle.desk_incidents.specs.declared.incident.Linked.{Linked}
use Rattle.desk_index.specs.Places.{is_listed}
use Rattle.desk_index.specs.Slots.{live, passes, standing}
use Rattle.desk_incidents.specs.EndSets.{has_end, joins}
use Rattle.desk_incidents.specs.LinkTable.{touches}
use Rattle.desk_incidents.specs.Links.{links_after_merge}
use Rattle.desk_incidents.proofs.EndChanges.{cond_test}
use Rattle.desk_index.proofs.Slots.{places-count}
use Rattle.desk_incidents.proofs.NotedLinks.{merged-fewer}
use Rattle.desk_incidents.proofs.NotedMerges.{both-listed, both-same, noted-merged}
use Rattle.desk_incidents.proofs.link_table.Links.merge.Goals as goal

pub merge_links-requires-clause-there : goal.merge_links-requires-clause-there
merge_links-requires-clause-there c =
    (and_parts _ _ (sym (both-listed c.args.to c.self.inside.index.lists.entries c.self.inside.ends.sets.entries)
    ∙ ap (is_listed c.args.to) (ap (λ v. v.listed) c.self.view_is) ∙ c.requires.listed)).0

pub note_all-requires : goal.note_all-requires
note_all-requires c =
    let links : List Linked = live c.self.inside.slots.items in
    let count : length c.at-2.result.now
    ≡ count_by (touches c.args.to) (links_after_merge c.args.from c.args.to links) =
    ap (λ (ks : List ℕ). length ks) (c.at-2.ensures ∙ c.merge_links.ensures.compact)
    ∙ places-count (touches c.args.to) 0 c.merge_links.new.slots.items
    ∙ ap (count_by (touches c.args.to)) c.merge_links.ensures.links in
    let fewer : count_by (touches c.args.to) (links_after_merge c.args.from c.args.to links)
    ≤ count_by (touches c.args.to) links + count_by (touches c.args.from) links =
    merged-fewer c.args.from c.args.to links in
    let one : count_by (touches c.args.to) links ≡ count_by (touches c.args.to) c.args.self.now.pairs =
    ap (count_by (touches c.args.to)) (ap (λ v. v.pairs) c.self.view_is) in
    let other : count_by (touches c.args.from) links ≡ count_by (touches c.args.from) c.args.self.now.pairs =
    ap (count_by (touches c.args.from)) (ap (λ v. v.pairs) c.self.view_is) in
    omega (
      arith,
      count,
      fewer,
      one,
      other,
      c.requires.room,
      c.room.view_is,
      min-le_right c.room.inside.list (spare c.room.inside.ends),
      c.clear.ensures.capacity,
    )

pub put-requires : goal.put-requires
put-requires c =
    c.forget_all.ensures.preserved c.args.to
    ∙ (and_parts _ _ (sym (both-listed c.args.to c.self.inside.index.lists.entries c.self.inside.ends.sets.entries)
    ∙ ap (is_listed c.args.to) (ap (λ v. v.listed) c.self.view_is) ∙ c.requires.listed)).1

pub invariant_of-self : goal.invariant_of-self
invariant_of-self c = (
  c.merge_links.ensures.table,
  noted-merged c.args.from c.args.to c.self.inside.slots.items c.merge_links.new.slots.items
      c.self.inside.index.lists.entries c.merge_links.new.index.lists.entries c.self.inside.ends.sets.entries
      c.forget_all.new.sets.sets.entries c.empty.new.self.sets.entries c.note_all.new.ends.keys c.requires.apart
      c.self.invariant.0 c.self.invariant.1 c.merge_links.ensures.table c.merge_links.ensures.links
      (λ n m. c.forget_all.ensures.ends n m
      ∙ ap (λ (xs : List (Option Linked)). cond ((c.args.from == m)
      && list_any (λ k. passes (touches n) (standing xs k)) c.at.result.now) false
      (has_end n m c.self.inside.ends.sets.entries)) c.deref.ensures.value
      ∙ ap (λ (ks : List ℕ). cond ((c.args.from == m)
      && list_any (λ k. passes (touches n) (standing c.self.inside.slots.items k)) ks) false
      (has_end n m c.self.inside.ends.sets.entries)) c.at.ensures)
      (λ m. c.note_all.ensures m
      ∙ ap (λ (ks : List ℕ). cond
      (list_any (λ k. passes (joins c.args.to m) (standing c.deref-2.result.now k)) c.at-2.result.now) true
      (list_any (nat_eq m) ks)) c.clear.ensures.empty
      ∙ cond_test (list_any (λ k. passes (joins c.args.to m) (standing c.deref-2.result.now k)) c.at-2.result.now)
      ∙ ap (λ (xs : List (Option Linked)). list_any (λ k. passes (joins c.args.to m) (standing xs k)) c.at-2.result.now)
      c.deref-2.ensures.value
      ∙ ap (λ (ks : List ℕ). list_any
      (λ k. passes (joins c.args.to m) (standing c.merge_links.new.slots.items k)) ks) c.at-2.ensures)
      (λ n m. c.empty.ensures.ends n m ∙ ap (λ (t : Bool). cond (c.args.from == n) false t) (c.put.ensures.ends n m)),
)

pub returns-clause-preserved : goal.returns-clause-preserved
returns-clause-preserved c =
    both-same c.self.inside.index.lists.entries c.merge_links.new.index.lists.entries
    c.self.inside.ends.sets.entries c.empty.new.self.sets.entries c.merge_links.ensures.preserved
    (λ n. c.empty.ensures.preserved n ∙ c.put.ensures.preserved n ∙ c.forget_all.ensures.preserved n)
    c.args.self.now.listed (ap (λ v. v.listed) c.self.view_is)
