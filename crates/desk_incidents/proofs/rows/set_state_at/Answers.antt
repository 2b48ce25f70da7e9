use Rattle.std.proofs.Common.{ap, ◌∙◌, set}
use Rattle.desk_incidents.specs.declared.incident.Incident.{Incident}
use Rattle.desk_incidents.specs.Checks.{in_state}
use Rattle.desk_index.proofs.ChangedElements.{set-changed}
use Rattle.desk_incidents.proofs.rows.set_state_at.Goals as goal

pub returns : goal.returns
returns c =
    ap (λ (i : Incident). set c.args.list.now.items c.args.place (in_state c.args.state i)) c.index_mut.ensures.value
    ∙ set-changed (in_state c.args.state) c.args.list.now.items c.args.place c.index_mut.result.now
