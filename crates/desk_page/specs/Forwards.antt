-- What became of a text that a browser sent for nodes.
use Rattle.std.specs.Prelude.{ℕ, List, Result, Ok, Err, codes, is_some, if◌then◌else◌, Bool}
use Rattle.desk_metrics.specs.declared.counts.CommandOutcome.{CommandOutcome}
use Rattle.desk_metrics.specs.declared.counts.CommandOutcome.TheVariants as outcomes
use Rattle.desk_page.specs.Reported.{after_mark}
use Rattle.desk_page.specs.declared.shared.NoReplies.{NoReplies}
use Rattle.desk_page.specs.declared.shared.NoReplies.TheVariants as faults

-- reply lines tell a refusal; no text within quotes has that mark
abbrev pub is_refusal_line : List ℕ → Bool
is_refusal_line out = is_some (after_mark (codes "\"refusal\":") out)

-- what became of a text, by the replies to its lines, or why there are none
abbrev pub outcome_of : Result (List ℕ) NoReplies → CommandOutcome
outcome_of (Err faults.GivenUp) = outcomes.Unanswered
outcome_of (Err faults.Busy) = outcomes.Busy
outcome_of (Ok out) = if is_refusal_line out then outcomes.Refused else outcomes.Done
