use Rattle.std.proofs.Common.{◌∙◌, ℕ, List, Option, is_some, ap}
use Rattle.std.specs.List.{list_any}
use Rattle.desk_incidents.specs.declared.incident.HasCall.{HasCall}
use Rattle.desk_incidents.specs.Calls.{is_call}
use Rattle.desk_incidents.proofs.CallEntries.{lookup-any}
use Rattle.desk_incidents.proofs.RowIndexes.{some_copied}
use Rattle.desk_incidents.proofs.call_table.Calls.is_taken.Goals as goal

pub returns : goal.returns
returns c =
    c.is_some.ensures ∙ some_copied c.get.result ∙ ap (λ (o : Option ℕ). is_some o) c.get.ensures.value
    ∙ lookup-any c.args.call.now c.self.inside.table.entries
    ∙ ap (λ (ps : List HasCall). list_any (is_call c.args.call.now) ps) (ap (λ v. v.pairs) c.self.view_is)
