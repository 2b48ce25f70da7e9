use Rattle.std.proofs.Common.{◌∙◌, ◌++◌, ℕ, List, ap, sym, subst, arith, length-append}
use Rattle.desk_epoch_node.specs.declared.past_row.PastRow.{PastRow}
use Rattle.desk_epoch_node.specs.declared.replacement.Replacement.{Replacement}
use Rattle.desk_epoch_node.specs.PastRows.{PastValue, StandFor, latest_row}
use Rattle.desk_epoch_node.specs.Replacements.{replacements}
use Rattle.desk_epoch_node.proofs.Standings.{replacements_append}
use Rattle.desk_epoch_node.proofs.past_logs.PastLogs.followed_by.Goals as goal

pub returns-clause-stand : goal.returns-clause-stand
returns-clause-stand c past s =
    let preserved : StandFor past (record {
      rows = c.self.inside.rows.entries;
      length = c.self.inside.length;
      replacements = c.self.inside.replacements.items;
    }) =
    subst (λ (p : PastValue). StandFor past p) (sym c.self.view_is) s in
    record {
      length_is = omega (arith, preserved.length_is, length-append past c.args.entries.now);
      rows_are =
          c.in_ok-set_rows.ensures past preserved.length_is
          (λ client. ap (λ (rows : List (ℕ × PastRow)). latest_row rows client) c.in_ok-rows.ensures
          ∙ preserved.rows_are client);
      replacements_are =
          c.in_ok-push_replacements.ensures
          ∙ (ap (λ (rs : List Replacement). rs ++ replacements c.args.entries.now)
          (c.in_ok-replacements.ensures ∙ (c.as_slice.ensures.value ∙ preserved.replacements_are))
          ∙ sym (replacements_append past c.args.entries.now));
    }
