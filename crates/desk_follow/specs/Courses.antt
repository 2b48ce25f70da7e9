-- What is done about a line after a node's reply: the table, over outcomes.
use Rattle.std.specs.Prelude.{ℕ, nat_lt, if◌then◌else◌, Option, Some, None}
use Rattle.desk_types.specs.declared.outcome.Outcome.{Outcome}
use Rattle.desk_types.specs.declared.outcome.Outcome.TheVariants as outcomes
use Rattle.desk_types.specs.declared.refusal.Refusal.{Refusal}
use Rattle.desk_types.specs.declared.refusal.Refusal.TheVariants as refusals
use Rattle.desk_types.specs.declared.reply.Reply.{Reply}
use Rattle.desk_types.specs.declared.reply.Reply.TheVariants as replies
use Rattle.desk_types.specs.declared.show.Shown.{Shown}
use Rattle.desk_types.specs.declared.show.Shown.TheVariants as shows
use Rattle.desk_follow.specs.declared.course.Course.{Course}
use Rattle.desk_follow.specs.declared.course.Course.TheVariants as courses

-- the refusal that the board answers a command with, where it refuses it
abbrev pub board_refusal : Reply → Option Refusal
board_refusal (replies.Done place word incident) = None
board_refusal (replies.Refused place r) = Some r

-- the refusal that is shown where a show finds nothing
abbrev pub shown_refusal : Shown → Option Refusal
shown_refusal (shows.Board place incidents units) = None
shown_refusal (shows.Incident place incident stand_by) = None
shown_refusal (shows.Unit place unit status incident stand_by) = None
shown_refusal (shows.List place incidents next units) = None
shown_refusal (shows.Absent place r) = Some r

-- the refusal that an outcome tells, where it tells one
abbrev pub refusal_in : Outcome → Option Refusal
refusal_in (outcomes.Document r) = Some r
refusal_in (outcomes.Command client n reply) = board_refusal reply
refusal_in (outcomes.Node client n r) = Some r
refusal_in (outcomes.Board client shown) = shown_refusal shown

-- What is done after a refusal by a node of a group of so many: where another is the primary, the line goes to it, if
-- it is of the group; a line that waits, that a node has stopped for or lacks memory for is asked again later.
abbrev pub after_refusal : ℕ → Refusal → Course
after_refusal count (refusals.NotPrimary view node) = if nat_lt node count then courses.At node else courses.Later
after_refusal count refusals.Waiting = courses.Later
after_refusal count refusals.NodeStopped = courses.Later
after_refusal count refusals.WantOfMemory = courses.Later
after_refusal count other = courses.Final

-- what is done after a refusal, if there is one; every other reply is final
abbrev pub after_any : ℕ → Option Refusal → Course
after_any count None = courses.Final
after_any count (Some r) = after_refusal count r

-- what is done after the reply that tells an outcome
abbrev pub course_after : ℕ → Outcome → Course
course_after count outcome = after_any count (refusal_in outcome)
