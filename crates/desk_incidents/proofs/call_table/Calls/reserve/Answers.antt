use Rattle.std.proofs.Common.{◌∙◌, sym, ap}
use Rattle.std.proofs.lemmas.Result.{on_ok_weaker}
use Rattle.desk_incidents.proofs.CallEntries.{listed-preserved}
use Rattle.desk_index.proofs.IndexChanges.{has_list-listed}
use Rattle.desk_incidents.proofs.call_table.Calls.reserve.Goals as goal

pub returns-clause-listed : goal.returns-clause-listed
returns-clause-listed c =
    on_ok_weaker c.reserve.result (λ h. sym (has_list-listed c.args.number c.reserve.new.self.lists.entries) ∙ h)
    c.reserve.ensures.there

pub returns-clause-preserved : goal.returns-clause-preserved
returns-clause-preserved c =
    listed-preserved c.self.inside.index.lists.entries c.reserve.new.self.lists.entries c.reserve.ensures.preserved
    c.args.self.now.listed (ap (λ v. v.listed) c.self.view_is)
