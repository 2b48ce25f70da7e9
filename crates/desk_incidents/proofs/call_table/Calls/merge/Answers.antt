use Rattle.std.proofs.Common.{◌≡◌, ◌∙◌, ℕ, List, length, ap, arith}
use Rattle.desk_index.specs.Places.{at_in, is_listed}
use Rattle.desk_incidents.specs.Calls.{call_count}
use Rattle.desk_incidents.proofs.CallEntries.{listed-same, count-at}
use Rattle.desk_index.proofs.IndexChanges.{has_list-listed}
use Rattle.desk_incidents.proofs.call_table.Calls.merge.Goals as goal

pub install-requires-clause-there : goal.install-requires-clause-there
install-requires-clause-there c =
    has_list-listed c.args.to c.self.inside.index.lists.entries
    ∙ ap (is_listed c.args.to) (ap (λ v. v.listed) c.self.view_is)
    ∙ c.requires.listed

pub install-requires-clause-room : goal.install-requires-clause-room
install-requires-clause-room c =
    let count : length (at_in c.args.to c.self.inside.index.lists.entries) ≡
    call_count c.args.to c.args.self.now.pairs =
    count-at c.args.to c.self.inside.table.entries c.self.inside.index.lists.entries c.args.self.now.pairs
    c.self.invariant
    (ap (λ v. v.pairs) c.self.view_is) in
    omega (arith, count, c.requires.room)

pub move_calls-requires-clause-room : goal.move_calls-requires-clause-room
move_calls-requires-clause-room c =
    let there : length (at_in c.args.to c.self.inside.index.lists.entries) ≡
    call_count c.args.to c.args.self.now.pairs =
    count-at c.args.to c.self.inside.table.entries c.self.inside.index.lists.entries c.args.self.now.pairs
    c.self.invariant
    (ap (λ v. v.pairs) c.self.view_is) in
    let here : length (at_in c.args.from c.self.inside.index.lists.entries) ≡
    call_count c.args.from c.args.self.now.pairs =
    count-at c.args.from c.self.inside.table.entries c.self.inside.index.lists.entries c.args.self.now.pairs
    c.self.invariant
    (ap (λ v. v.pairs) c.self.view_is) in
    let to_same : length (at_in c.args.to c.install.new.self.lists.entries) ≡ length
    (at_in c.args.to c.self.inside.index.lists.entries) =
    ap (λ (ks : List ℕ). length ks) (c.install.ensures.lists c.args.to) in
    let from_same : length (at_in c.args.from c.install.new.self.lists.entries) ≡ length
    (at_in c.args.from c.self.inside.index.lists.entries) =
    ap (λ (ks : List ℕ). length ks) (c.install.ensures.lists c.args.from) in
    omega (arith, there, here, to_same, from_same, c.requires.room, c.install.ensures.room)

pub returns-clause-preserved : goal.returns-clause-preserved
returns-clause-preserved c =
    listed-same c.self.inside.index.lists.entries c.move_calls.new.index.lists.entries
    (λ n. c.move_calls.ensures.preserved n ∙ c.install.ensures.preserved n) c.args.self.now.listed
    (ap (λ v. v.listed) c.self.view_is)
