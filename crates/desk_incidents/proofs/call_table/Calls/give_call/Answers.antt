use Rattle.std.proofs.Common.{◌≡◌, ◌∙◌, ◌+◌, ℕ, List, Some, map, length, sym, ap, arith}
use Rattle.desk_types.specs.Lists.{update_first}
use Rattle.desk_index.specs.Places.{at_in, is_listed}
use Rattle.desk_index.specs.Slots.{first}
use Rattle.desk_index.proofs.ChangedElements.{first-within}
use Rattle.desk_incidents.proofs.FirstUpdates.{changed-first, update-nowhere}
use Rattle.desk_incidents.specs.Calls.{is_call, call_count, call_of_incident}
use Rattle.desk_incidents.specs.CallTable.{pair_of}
use Rattle.desk_incidents.proofs.CallEntries.{listed-same, count-at}
use Rattle.desk_index.proofs.IndexChanges.{has_list-listed}
use Rattle.desk_incidents.proofs.MovedCalls.{no-number}
use Rattle.desk_incidents.proofs.call_table.Calls.give_call.Goals as goal

pub install-requires-clause-there : goal.install-requires-clause-there
install-requires-clause-there c =
    has_list-listed c.args.number c.self.inside.index.lists.entries
    ∙ ap (is_listed c.args.number) (ap (λ v. v.listed) c.self.view_is)
    ∙ c.requires.listed

pub install-requires-clause-room : goal.install-requires-clause-room
install-requires-clause-room c =
    let count : length (at_in c.args.number c.self.inside.index.lists.entries) ≡
    call_count c.args.number c.args.self.now.pairs =
    count-at c.args.number c.self.inside.table.entries c.self.inside.index.lists.entries c.args.self.now.pairs
    c.self.invariant
    (ap (λ v. v.pairs) c.self.view_is) in
    omega (arith, count, c.requires.room)

pub give_at-requires-clause-room : goal.give_at-requires-clause-room
give_at-requires-clause-room c =
    let count : length (at_in c.args.number c.self.inside.index.lists.entries) ≡
    call_count c.args.number c.args.self.now.pairs =
    count-at c.args.number c.self.inside.table.entries c.self.inside.index.lists.entries c.args.self.now.pairs
    c.self.invariant
    (ap (λ v. v.pairs) c.self.view_is) in
    let same : length (at_in c.args.number c.install.new.self.lists.entries)
    ≡ length (at_in c.args.number c.self.inside.index.lists.entries) =
    ap (λ (ks : List ℕ). length ks) (c.install.ensures.lists c.args.number) in
    omega (arith, count, same, c.requires.room, c.install.ensures.room)

pub returns-in-Some-number_at-clause-pairs : goal.returns-in-Some-number_at-clause-pairs
returns-in-Some-number_at-clause-pairs c =
    let plain : c.in-Some.place ≡ 0 + c.in-Some.place = omega arith in
    c.give_at.ensures.calls
    ∙ changed-first (is_call c.args.call.now) (call_of_incident c.args.number) 0 c.in-Some.place
    (map pair_of c.self.inside.table.entries) (sym c.place_of.ensures ∙ c.in-Some.is ∙ ap Some plain)
    ∙ ap (update_first (is_call c.args.call.now) (call_of_incident c.args.number)) (ap (λ v. v.pairs) c.self.view_is)

pub returns-in-Some-number_at-clause-preserved : goal.returns-in-Some-number_at-clause-preserved
returns-in-Some-number_at-clause-preserved c =
    listed-same c.self.inside.index.lists.entries c.give_at.new.index.lists.entries
    (λ n. c.give_at.ensures.listed n ∙ c.install.ensures.preserved n) c.args.self.now.listed
    (ap (λ v. v.listed) c.self.view_is)

pub returns-in_default-number_at-clause-pairs : goal.returns-in_default-number_at-clause-pairs
returns-in_default-number_at-clause-pairs c =
    let plain : c.in-Some.place ≡ 0 + c.in-Some.place = omega arith in
    let at : first (is_call c.args.call.now) 0 (map pair_of c.self.inside.table.entries) ≡ Some (0 + c.in-Some.place) =
    sym c.place_of.ensures ∙ c.in-Some.is ∙ ap Some plain in
    absurd (no-number (is_call c.args.call.now) 0 c.in-Some.place c.self.inside.table.entries at
    (first-within (is_call c.args.call.now) 0 c.in-Some.place (map pair_of c.self.inside.table.entries) at)
    (sym c.number_at.ensures ∙ c.in_default-number_at.is))

pub returns-in_default-number_at-clause-preserved : goal.returns-in_default-number_at-clause-preserved
returns-in_default-number_at-clause-preserved c =
    listed-same c.self.inside.index.lists.entries c.install.new.self.lists.entries c.install.ensures.preserved
    c.args.self.now.listed (ap (λ v. v.listed) c.self.view_is)

pub returns-in_default-clause-pairs : goal.returns-in_default-clause-pairs
returns-in_default-clause-pairs c =
    sym (update-nowhere (is_call c.args.call.now) (call_of_incident c.args.number) 0
    (map pair_of c.self.inside.table.entries) (sym c.place_of.ensures ∙ c.in_default.is))
    ∙ ap (update_first (is_call c.args.call.now) (call_of_incident c.args.number)) (ap (λ v. v.pairs) c.self.view_is)

pub returns-in_default-clause-preserved : goal.returns-in_default-clause-preserved
returns-in_default-clause-preserved c =
    listed-same c.self.inside.index.lists.entries c.install.new.self.lists.entries c.install.ensures.preserved
    c.args.self.now.listed (ap (λ v. v.listed) c.self.view_is)
