-- What the primary is going to do with an acknowledgement.
use Rattle.std.specs.Prelude.{◌≡◌, ◌≤◌, ℕ, List, length, if◌then◌else◌}
use Rattle.desk_log.specs.Change.{Change}
use Rattle.desk_log.specs.SavedValue.{SavedValue, with_commit}
use Rattle.desk_normal.specs.declared.commit_plan.CommitPlan.{CommitPlan}
use Rattle.desk_normal.specs.Acknowledgements.{places_with, places_after}

-- The plan's commit does not fall, and is within the log.
pub record IsCommitFeasible (s : SavedValue) (plan : CommitPlan) : Type 0 where
  pub least : s.commit ≤ plan.commit
  pub most : plan.commit ≤ length s.log

-- The plan is feasible, and the saved state with its commit, and what it sends and answers, are those of a change; and
-- where the plan says so, the change takes in that node j acknowledged a place.
pub record IsCommitPlan (c : Change) (s : SavedValue) (j place : ℕ) (plan : CommitPlan) : Type 0 where
  pub feasible : IsCommitFeasible s plan
  pub saved_is : with_commit plan.commit s ≡ c.saved
  pub places_are : (places : List ℕ) → places_after c.saved.view c.taken places
      ≡ if plan.acknowledged then places_with j place places else places
  pub packets_are : plan.sending.packets.items ≡ c.packets
  pub answers_are : plan.sending.answers ≡ c.answers
