use Rattle.std.proofs.Common.{◌≡◌, ◌∙◌, List, ℕ, IfOk, ap, subst}
use Rattle.desk_incidents.specs.declared.incident.HasCall.{HasCall}
use Rattle.desk_incidents.specs.Calls.{calls_of}
use Rattle.desk_incidents.proofs.CallEntries.{calls-at}
use Rattle.desk_incidents.proofs.call_table.Calls.of.Goals as goal

pub returns : goal.returns
returns c =
    subst (λ (ids : List (List ℕ)). IfOk c.calls_in.result (λ calls. calls ≡ ids))
    (calls-at c.args.number c.self.inside.table.entries c.at.result.now (c.at.ensures ∙ c.self.invariant c.args.number)
    ∙ ap (λ (ps : List HasCall). calls_of c.args.number ps) (ap (λ v. v.pairs) c.self.view_is))
    c.calls_in.ensures
