-- What a node is going to do while its view changes.
use Rattle.std.specs.Prelude.{◌≡◌, ◌≤◌, ℕ, length, Option, Some, None}
use Rattle.desk_types.specs.declared.limits.TheConstants.{LAST_VIEW}
use Rattle.desk_log.specs.Change.{Change}
use Rattle.desk_log.specs.SavedValue.{SavedValue, in_view}
use Rattle.desk_view_change.specs.declared.offer.Offer.{Offer}
use Rattle.desk_view_change.specs.declared.plan.Start.{Start}
use Rattle.desk_view_change.specs.declared.plan.ViewChangePlan.{ViewChangePlan}
use Rattle.desk_view_change.specs.Heard.{ViewChangeHeard, view_change_after}
use Rattle.desk_view_change.specs.OneMore.{askers_with, offers_with}

-- the saved state of a node that starts its view, where it does
abbrev pub saved_with_start : SavedValue → Option Start → SavedValue
saved_with_start s None = s
saved_with_start s (Some start) = record { view = s.view; normal = s.view; log = start.log; commit = start.commit }

-- The log with which a view starts has what the node has committed before.
abbrev pub IsStart : SavedValue → Option Start → Type 0
IsStart s None = Unit {0}
IsStart s (Some start) = (s.commit ≤ start.commit) × (start.commit ≤ length start.log)

-- the saved state that a plan makes
abbrev pub saved_by_plan : SavedValue → ViewChangePlan → SavedValue
saved_by_plan s plan = saved_with_start (in_view plan.view s) plan.start

-- The plan's view is not below the node's, and within the limit, and what the node has committed is preserved where the
-- view starts.
pub record IsFeasible (s : SavedValue) (plan : ViewChangePlan) : Type 0 where
  pub least : s.view ≤ plan.view
  pub most : plan.view ≤ LAST_VIEW
  pub start : IsStart s plan.start

-- what was heard, with a node that asks and an offer, where there are such
abbrev pub view_change_with : Option ℕ → Option (ℕ × Offer) → ViewChangeHeard → ViewChangeHeard
view_change_with asker offer h = record { askers = askers_with asker h.askers; offers = offers_with offer h.offers }

-- what the node hears besides
abbrev pub heard_with : ViewChangePlan → ViewChangeHeard → ViewChangeHeard
heard_with plan h = view_change_with plan.asker plan.offer h

-- It is a plan to be in this view, by which the node hears nothing besides.
abbrev pub HearsNothing : ℕ → ViewChangePlan → Type 0
HearsNothing view plan = (plan.view ≡ view) × (plan.asker ≡ None) × (plan.offer ≡ None)

-- The plan is feasible, and the saved state that it will make, what it hears besides, and what it sends and answers,
-- are those of a change.
pub record IsPlan (c : Change) (s : SavedValue) (plan : ViewChangePlan) : Type 0 where
  pub feasible : IsFeasible s plan
  pub saved_is : saved_by_plan s plan ≡ c.saved
  pub heard_is : (h : ViewChangeHeard) → view_change_after plan.view c.taken h ≡ heard_with plan h
  pub packets_are : plan.sending.packets.items ≡ c.packets
  pub answers_are : plan.sending.answers ≡ c.answers
