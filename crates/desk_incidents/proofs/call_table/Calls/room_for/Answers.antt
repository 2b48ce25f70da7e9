use Rattle.std.proofs.Common.{◌≡◌, length, ap, arith}
use Rattle.std.proofs.lemmas.Result.{IfOk-weaker}
use Rattle.desk_index.specs.Places.{at_in}
use Rattle.desk_incidents.specs.Calls.{call_count}
use Rattle.desk_incidents.proofs.CallEntries.{count-at}
use Rattle.desk_incidents.proofs.call_table.Calls.room_for.Goals as goal

pub returns : goal.returns
returns c =
    let one : length (at_in c.args.one c.self.inside.index.lists.entries) ≡ call_count c.args.one
    c.args.self.now.pairs =
    count-at c.args.one c.self.inside.table.entries c.self.inside.index.lists.entries c.args.self.now.pairs
    c.self.invariant
    (ap (λ v. v.pairs) c.self.view_is) in
    let other : length (at_in c.args.other c.self.inside.index.lists.entries) ≡ call_count c.args.other
    c.args.self.now.pairs =
    count-at c.args.other c.self.inside.table.entries c.self.inside.index.lists.entries c.args.self.now.pairs
    c.self.invariant
    (ap (λ v. v.pairs) c.self.view_is) in
    IfOk-weaker c.room_for.result _ _ (λ room h. omega (arith, one, other, h)) c.room_for.ensures
