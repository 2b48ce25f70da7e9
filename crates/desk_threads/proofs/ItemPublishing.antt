-- What an item leaves, from where what is published goes on.
use Rattle.std.proofs.Common.{◌≡◌, ◌⊎◌, Result, Ok, Err, IfOk, IfErr, inl, inr, subst}
use Rattle.desk_types.specs.Refusal.{IsStoreRefusal, HasStored}
use Rattle.desk_types.specs.declared.refusal.Refusal.{Refusal}
use Rattle.desk_types.specs.declared.refusal.Refusal.TheVariants as refusals
use Rattle.desk_mailbox.specs.declared.item.Item.{Item}
use Rattle.desk_replica.specs.EpochPackets.{packets_of_step}
use Rattle.desk_replica.specs.Saving.{Saving}
use Rattle.desk_replica.specs.declared.item_step.ItemStep.{ItemStep}
use Rattle.desk_replica.specs.declared.replica.Replica.{Ghosts as ReplicaGhosts}
use Rattle.desk_threads.specs.SavedItems.{DoesAndSaves, StoresItem}
use Rattle.desk_threads.proofs.KeeperRuns.{if_err, if_ok}
use Rattle.desk_threads.proofs.StoredAnswers.{stored_err}

-- an item that was done
pub done_stores : {R : Type 0} (g : ReplicaGhosts R) (s : Saving R) (old new : R) (item : Item)
    (outcome : Result ItemStep Refusal) (step : ItemStep) → outcome ≡ Ok step →
    IfOk outcome (λ step. DoesAndSaves g s old item (packets_of_step step) step.answers new) →
    StoresItem g s old item new
done_stores g s old new item outcome step is did = inl (
  packets_of_step step,
  step.answers,
  if_ok outcome step (λ step. DoesAndSaves g s old item (packets_of_step step) step.answers new) is did,
)

-- and one that was refused, where the store has not failed
pub refused_stores : {R B : Type 0} (g : ReplicaGhosts R) (s : Saving R) (old new : R) (item : Item)
    (outcome : Result ItemStep Refusal) (answer : Result B Refusal) (r : Refusal) → outcome ≡ Err r →
    answer ≡ Err r → HasStored answer → IfErr outcome (λ r. r ≡ refusals.WantOfMemory → g.refuses old new) →
    IfErr outcome (λ r. (r ≡ refusals.WantOfMemory) ⊎ IsStoreRefusal r) → StoresItem g s old item new
refused_stores g s old new item outcome answer r is answer_is stored refused fault =
    by_fault (if_err outcome r (λ r. (r ≡ refusals.WantOfMemory) ⊎ IsStoreRefusal r) is fault)
  where
    by_fault : (r ≡ refusals.WantOfMemory) ⊎ IsStoreRefusal r → StoresItem g s old item new
    by_fault (inl memory) =
        inr (if_err outcome r (λ r. r ≡ refusals.WantOfMemory → g.refuses old new) is refused memory)
    by_fault (inr failed) =
        let none : IsStoreRefusal r → ⊥ = subst HasStored is (stored_err outcome answer r is answer_is stored) in
        absurd (none failed)
