use Rattle.std.proofs.Common.{◌∙◌, sym}
use Rattle.desk_epoch_files.proofs.Covered.{covered}
use Rattle.desk_epoch_files.proofs.past_files.PastFiles.are_of.Goals as goal

pub returns-then-is_same_name : goal.returns-then-is_same_name
returns-then-is_same_name g c is e s held =
    covered g.D.Pages.Store c.args.self.now.owner c.args.files.now.owner _ _ _ _ e s
    (c.covers.ensures c.if-not-covers.false)
    (sym c.as_str.ensures.value ∙ c.is_same_name.ensures c.if-is_same_name.true ∙ c.as_str-2.ensures.value)
    (c.is_same_node.ensures is) held
