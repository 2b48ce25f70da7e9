use Rattle.std.proofs.Common.{◌∙◌, ap, arith, leb-true, length, sym}
use Rattle.std.proofs.lemmas.List.{take_all}
use Rattle.desk_epoch_stores.proofs.SavedCuts.{count_is_saved}
use Rattle.desk_epoch_replica.proofs.epoch_replica.holds_whole_log.Goals as goal

pub returns : goal.returns
returns c = λ whole.
    let left = c.args.left.now in
    let cut = c.cut_at_commit-cut.result in
    let is = c.cut_at_commit-cut.ensures.cut (c.first_cut.ensures c.args.most c.requires.least) in
    let all = leb-true _ _ whole in
    sym (count_is_saved c.args.most left cut is)
    ∙ take_all cut.count left.log (omega (arith, all, c.len.ensures.count, ap length c.log.ensures.value))
