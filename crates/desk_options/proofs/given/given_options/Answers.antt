use Rattle.std.proofs.lemmas.Result.{IfOk-weaker}
use Rattle.desk_options.proofs.Ranges.{in_range}
use Rattle.desk_options.proofs.given.given_options.Goals as goal

pub returns : goal.returns
returns c = record {
  range = IfOk-weaker c.options.result _ _ (λ options asks. in_range _ options asks) c.options.ensures.asked;
}
