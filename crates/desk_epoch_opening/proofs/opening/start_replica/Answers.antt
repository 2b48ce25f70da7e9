use Rattle.std.proofs.Common.{◌≡◌, ◌∙◌, subst, sym}
use Rattle.std.specs.Prelude.{false}
use Rattle.desk_epoch_replica.specs.ReplicaValue.{is_replaced}
use Rattle.desk_epoch_opening.proofs.Starts.{acts_on}
use Rattle.desk_epoch_opening.proofs.opening.start_replica.Goals as goal

pub returns-then-is_want_of_memory-clause-acting : goal.returns-then-is_want_of_memory-clause-acting
returns-then-is_want_of_memory-clause-acting g c =
    subst (λ r. is_replaced r ≡ false) (sym c.new-then-is_want_of_memory.ensures.replica)
    (acts_on g.T.EpochStores.may_hold _ _ c.in-Err-prepare_unless_replaced.refusal
    c.in-Err-prepare_unless_replaced.ensures.prepares (sym c.is_want_of_memory.ensures ∙ c.if-is_want_of_memory.true)
    (λ was. let is = c.in-Err-prepare_unless_replaced.ensures.replaced was in cc is))
