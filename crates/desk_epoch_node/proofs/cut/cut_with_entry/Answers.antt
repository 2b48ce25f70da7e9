use Rattle.std.proofs.Common.{◌≡◌, ◌+◌, ◌∷◌, [], rules, refl, leb}
use Rattle.desk_epoch_node.specs.Replacements.{ends_epoch}
use Rattle.desk_epoch_node.proofs.Cuts.{cut_push, cut_stays, or_left, or_right}
use Rattle.desk_epoch_node.proofs.cut.cut_with_entry.Goals as goal

pub returns-then-cut-clause-cut : goal.returns-then-cut-clause-cut
returns-then-cut-clause-cut c before is =
    cut_stays c.args.most before (c.args.entry.now ∷ []) c.args.cut c.if-cut.true is

pub returns-then-count-most-clause-cut : goal.returns-then-count-most-clause-cut
returns-then-count-most-clause-cut c before is =
    let count = c.args.cut.count + 1 in
    cut_push c.args.most before c.args.entry.now c.args.cut count (leb c.args.most count) c.if-cut.false refl
    (or_left (leb c.args.most count) (ends_epoch c.args.entry.now) (search rules)) is

pub returns-else-count-most-clause-cut : goal.returns-else-count-most-clause-cut
returns-else-count-most-clause-cut c before is =
    let count = c.args.cut.count + 1 in
    let named : c.is_some.result ≡ ends_epoch c.args.entry.now = search rules in
    cut_push c.args.most before c.args.entry.now c.args.cut count c.is_some.result c.if-cut.false refl
    (or_right (leb c.args.most count) (ends_epoch c.args.entry.now) c.is_some.result (search rules) named) is
