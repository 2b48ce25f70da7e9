use Rattle.std.proofs.Common.{rules, ◌≡◌, ◌+◌, not, eqb, ◌||◌, [], ◌∷◌, ◌++◌, take, ap, sym, ◌∙◌}
use Rattle.std.proofs.lemmas.List.{take_more}
use Rattle.desk_log.specs.Clients.{client_row}
use Rattle.desk_log.proofs.DifferentClients.{has_entry_of, has_client_push, rows_push, rows_same, some_latest}
use Rattle.desk_log.proofs.clients.client_rows.Goals as goal
use Rattle.desk_log.proofs.clients.client_rows.Goals.{then-branch+in_ok-push, else-branch}

pub client_row-requires : goal.client_row-requires
client_row-requires c =
    some_latest c.args.log.now c.loop-entry.entry-index c.entry-item.result (search rules) (search rules)

pub loop-entry-preserved : goal.loop-entry-preserved
loop-entry-preserved c =
    let log = c.args.log.now in
    let i = c.loop-entry.entry-index in
    let e = c.entry-item.result in
    let rows = c.loop-entry.rows.items in
    let new = c.in_ok-meet.field-0 in
    let h = c.loop-entry.invariant in
    let is : take (i + 1) log ≡ take i log ++ e ∷ [] = search (rules, take_more) in
    let reported : new ≡ not (has_entry_of e.client (take i log)) =
    c.in_ok-meet.ensures.new ∙ ap not (h.met e.client) in
    record {
      met = λ client. c.in_ok-meet.ensures.met client ∙ (ap (λ b. eqb e.client client || b) (h.met client)
          ∙ sym (has_client_push (take i log) _ e client is));
      rows = elim c.if-branch.branch [
        | then-branch+in_ok-push w ↦
            let pushed : c.if-branch.rows.items ≡ rows ++ client_row log e.client ∷ [] = search rules in
            pushed ∙ rows_push log (take i log) _ e rows new h.rows is reported (search rules)
        | else-branch w ↦
            let same : c.if-branch.rows.items ≡ rows = search rules in
            same ∙ rows_same log (take i log) _ e rows new h.rows is reported (search rules)
      ];
    }
