use Rattle.std.proofs.Common.{◌∙◌}
use Rattle.std.proofs.lemmas.Result.{on_ok_weaker}
use Rattle.desk_page.specs.Groups.{seen_places}
use Rattle.desk_page.proofs.Answered.{group_added}
use Rattle.desk_page.proofs.fields.add_group.Goals as goal

pub returns-clause-fields : goal.returns-clause-fields
returns-clause-fields c =
    on_ok_weaker c.add_text-3.result
    (group_added c.args.run c.args.group.now.is_live (seen_places c.args.group.now) _ _ _ _ _ _ _
    (c.as_slice.ensures.value ∙ c.in_ok-run.ensures) (c.as_bytes.ensures.value ∙ c.live_text.ensures)
    (c.as_slice-2.ensures.value ∙ c.in_ok-nodes.ensures) c.in_ok-add_text.ensures.fields
    c.in_ok-add_text-2.ensures.fields) c.add_text-3.ensures.fields
