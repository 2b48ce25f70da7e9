use Rattle.std.proofs.Common.{ap, ◌∙◌, set}
use Rattle.desk_incidents.specs.declared.incident.Incident.{Incident}
use Rattle.desk_incidents.specs.Checks.{with_note}
use Rattle.desk_index.proofs.ChangedElements.{set-changed}
use Rattle.desk_incidents.proofs.rows.set_note_at.Goals as goal

pub returns : goal.returns
returns c =
    ap (λ (i : Incident). set c.args.list.now.items c.args.place (with_note c.args.text i)) c.index_mut.ensures.value
    ∙ set-changed (with_note c.args.text) c.args.list.now.items c.args.place c.index_mut.result.now
