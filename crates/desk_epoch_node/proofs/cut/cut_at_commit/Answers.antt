use Rattle.std.proofs.Common.{◌≡◌, List, rules, subst}
use Rattle.desk_types.specs.declared.command.Entry.{Entry}
use Rattle.desk_epoch_node.specs.Ends.{IsCut}
use Rattle.desk_epoch_node.proofs.Cuts.{known_rest}
use Rattle.desk_epoch_node.proofs.cut.cut_at_commit.Goals as goal

pub returns-clause-cut : goal.returns-clause-cut
returns-clause-cut c is =
    let saved = c.args.saved.now in
    let own = c.entries.result.now in
    let commit = c.commit-2.result in
    let commit_is : commit ≡ saved.commit = search rules in
    let own_is : own ≡ saved.log = search rules in
    subst (λ (es : List Entry). IsCut c.args.most es c.cut_with.result)
    (known_rest c.args.known saved.commit commit saved.log own c.requires.known commit_is own_is)
    (c.cut_with.ensures.cut _ is)
