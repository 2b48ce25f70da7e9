use Rattle.std.proofs.Common.{◌≡◌, ◌∙◌, ℕ, List, length, sym, ap, arith}
use Rattle.std.proofs.lemmas.Result.{IfOk-weaker}
use Rattle.desk_incidents.specs.Calls.{call_count}
use Rattle.desk_incidents.proofs.CallEntries.{listed-preserved, count-at}
use Rattle.desk_index.proofs.IndexChanges.{has_list-listed}
use Rattle.desk_incidents.proofs.call_table.Calls.prepare.Goals as goal

pub returns-in_err-reserve-clause-preserved : goal.returns-in_err-reserve-clause-preserved
returns-in_err-reserve-clause-preserved c =
    listed-preserved c.self.inside.index.lists.entries c.reserve.new.self.lists.entries c.reserve.ensures.preserved
    c.args.self.now.listed (ap (λ v. v.listed) c.self.view_is)

pub returns-clause-listed : goal.returns-clause-listed
returns-clause-listed c =
    IfOk-weaker c.with_room.result _ _
    (λ _ _. sym (has_list-listed c.args.number c.reserve.new.self.lists.entries) ∙ c.in_ok-reserve.ensures.there)
    c.with_room.ensures.room

pub returns-clause-preserved : goal.returns-clause-preserved
returns-clause-preserved c =
    listed-preserved c.self.inside.index.lists.entries c.reserve.new.self.lists.entries c.reserve.ensures.preserved
    c.args.self.now.listed (ap (λ v. v.listed) c.self.view_is)

pub returns-clause-room : goal.returns-clause-room
returns-clause-room c =
    let count : length c.at.result.now ≡ call_count c.args.number c.args.self.now.pairs =
    ap (λ (ks : List ℕ). length ks) (c.at.ensures ∙ c.reserve.ensures.lists c.args.number)
    ∙ count-at c.args.number c.self.inside.table.entries c.self.inside.index.lists.entries c.args.self.now.pairs
    c.self.invariant
    (ap (λ v. v.pairs) c.self.view_is) in
    IfOk-weaker c.with_room.result _ _ (λ room h. omega (arith, count, h)) c.with_room.ensures.room
