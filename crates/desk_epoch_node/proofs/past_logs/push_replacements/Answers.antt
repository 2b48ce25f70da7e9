use Rattle.std.proofs.Common.{◌≡◌, ◌+◌, [], ◌∷◌, ◌++◌, take, rules, sym, ap, ◌∙◌, List, append_assoc}
use Rattle.std.proofs.lemmas.List.{take_more}
use Rattle.desk_types.specs.declared.command.Entry.{Entry}
use Rattle.desk_epoch_node.specs.declared.replacement.Replacement.{Replacement}
use Rattle.desk_epoch_node.specs.Replacements.{named_by, replacements, with_replacement}
use Rattle.desk_epoch_node.proofs.Standings.{replacements_append}
use Rattle.desk_epoch_node.proofs.past_logs.push_replacements.Goals as goal

pub loop-entry-preserved : goal.loop-entry-preserved
loop-entry-preserved c =
    let entries = c.args.entries.now in
    let i = c.loop-entry.entry-index in
    let e = c.entry-item.result in
    let last : List Replacement = with_replacement (named_by e) [] in
    let more : take (i + 1) entries ≡ take i entries ++ e ∷ [] = search (rules, take_more) in
    c.in_ok-push_replacement.ensures
    ∙ (ap (λ (rs : List Replacement). rs ++ last) c.loop-entry.invariant
    ∙ (append_assoc c.args.all.now.items (replacements (take i entries)) last
    ∙ ap (λ (rs : List Replacement). c.args.all.now.items ++ rs)
    (sym (replacements_append (take i entries) (e ∷ []))
    ∙ ap (λ (es : List Entry). replacements es) (sym more))))
