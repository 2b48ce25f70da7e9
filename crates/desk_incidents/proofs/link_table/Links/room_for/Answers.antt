use Rattle.std.proofs.Common.{◌≡◌, ◌∙◌, ℕ, List, Option, length, ap, arith}
use Rattle.std.specs.List.{count_by}
use Rattle.std.proofs.Math.Nat.{le-min}
use Rattle.desk_incidents.specs.declared.incident.Linked.{Linked}
use Rattle.desk_incidents.specs.LinkTable.{touches, live_places}
use Rattle.desk_incidents.proofs.LinkTables.{length-at}
use Rattle.desk_incidents.proofs.link_table.Links.room_for.Goals as goal

pub overflow_add-count : goal.overflow_add-count
overflow_add-count c = omega (arith, c.live_count.ensures.most, c.live_count-2.ensures.most)

pub returns : goal.returns
returns c =
    let one : c.live_count.result ≡ count_by (touches c.args.one) c.args.self.now.pairs =
    c.live_count.ensures.count
    ∙ ap (λ (xs : List (Option Linked)). length (live_places xs c.at.result.now)) c.deref.ensures.value
    ∙ ap (λ (ks : List ℕ). length (live_places c.self.inside.slots.items ks)) c.at.ensures
    ∙ length-at c.self.inside.slots.items c.self.inside.index.lists.entries c.args.one c.self.invariant.0
    ∙ ap (count_by (touches c.args.one)) (ap (λ v. v.pairs) c.self.view_is) in
    let other : c.live_count-2.result ≡ count_by (touches c.args.other) c.args.self.now.pairs =
    c.live_count-2.ensures.count
    ∙ ap (λ (xs : List (Option Linked)). length (live_places xs c.at-2.result.now)) c.deref-2.ensures.value
    ∙ ap (λ (ks : List ℕ). length (live_places c.self.inside.slots.items ks)) c.at-2.ensures
    ∙ length-at c.self.inside.slots.items c.self.inside.index.lists.entries c.args.other c.self.invariant.0
    ∙ ap (count_by (touches c.args.other)) (ap (λ v. v.pairs) c.self.view_is) in
    le-min (le-min (omega (arith, one, other, c.in_ok-with_room.ensures.room))
    (omega (arith, one, other, c.in_ok-with_capacity.ensures.spare)))
    (omega (arith, one, other, c.in_ok-with_capacity-2.ensures.spare))
