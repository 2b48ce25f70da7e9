use Rattle.std.proofs.Common.{◌∙◌, ℕ, List, length, map, ap}
use Rattle.desk_incidents.specs.declared.incident.HasCall.{HasCall}
use Rattle.desk_incidents.specs.CallTable.{pair_of}
use Rattle.desk_incidents.specs.Calls.{is_of, call_count}
use Rattle.desk_incidents.proofs.CallEntries.{places-counted}
use Rattle.desk_incidents.proofs.call_table.Calls.count.Goals as goal

pub returns-clause-count : goal.returns-clause-count
returns-clause-count c =
    ap (λ (ks : List ℕ). length ks) (c.at.ensures ∙ c.self.invariant c.args.number)
    ∙ places-counted (is_of c.args.number) 0 (map pair_of c.self.inside.table.entries)
    ∙ ap (λ (ps : List HasCall). call_count c.args.number ps) (ap (λ v. v.pairs) c.self.view_is)
