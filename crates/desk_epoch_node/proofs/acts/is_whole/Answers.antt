use Rattle.std.proofs.Common.{◌<◌, ◌+◌, ◌++◌, length, take, rules, sym, arith, length-append}
use Rattle.desk_epoch_node.proofs.Cuts.{not_whole}
use Rattle.desk_epoch_node.proofs.acts.is_whole.Goals as goal

pub returns-then-count-most : goal.returns-then-count-most
returns-then-count-most c =
    let first = take c.args.base c.args.log.now in
    let entries = c.args.entries.now in
    let over : c.args.most < length entries = search (rules, arith) in
    sym (not_whole c.args.most (first ++ entries) (omega (arith, length-append first entries, over)))
