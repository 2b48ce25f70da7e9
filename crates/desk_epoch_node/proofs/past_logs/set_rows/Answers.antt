use Rattle.std.proofs.Common.{◌≡◌, ◌+◌, [], ◌∷◌, ◌++◌, take, rules, refl}
use Rattle.std.proofs.lemmas.List.{take_more}
use Rattle.desk_epoch_node.proofs.Rows.{rows_put}
use Rattle.desk_epoch_node.proofs.past_logs.set_rows.Goals as goal

pub loop-index-preserved : goal.loop-index-preserved
loop-index-preserved c past q h =
    let entries = c.args.entries.now in
    let i = c.loop-index.index in
    let e = c.index-entries-index.result in
    let is : take (i + 1) entries ≡ take i entries ++ e ∷ [] = search (rules, take_more) in
    rows_put past entries c.args.before i e c.loop-index.rows.entries c.set_row.new.rows.entries _ q (search rules)
    (c.loop-index.invariant past q h) is refl c.in_ok-set_row.ensures
