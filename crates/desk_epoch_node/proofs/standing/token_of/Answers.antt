use Rattle.std.proofs.Common.{◌∙◌, rules}
use Rattle.std.proofs.lemmas.List.{take_more}
use Rattle.desk_epoch_node.proofs.Standings.{token_next}
use Rattle.desk_epoch_node.proofs.standing.token_of.Goals as goal

pub loop-replacement-preserved : goal.loop-replacement-preserved
loop-replacement-preserved c =
    c.token_with-token.ensures
    ∙ token_next c.args.number c.loop-replacement.token c.loop-replacement.replacement-index c.args.replacements.now _
    c.loop-replacement.invariant (search (rules, take_more))
