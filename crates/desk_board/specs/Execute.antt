-- What an entry of the log does to a board.
use Rattle.std.specs.Prelude.{ℕ, List, [], ◌∷◌, Bool, ◌==◌, if◌then◌else◌, Option, Some, None}
use Rattle.std.specs.List.{find}
use Rattle.desk_types.specs.Identifier.{own_id}
use Rattle.desk_types.specs.declared.command.Command.{Command}
use Rattle.desk_types.specs.declared.command.Command.TheVariants.{Open, AddCall, Link, Unlink, Merge, Split, Clear}
use Rattle.desk_types.specs.declared.command.Command.TheVariants.{Reopen, Note, SignOn, SignOff, Assign, SetStatus}
use Rattle.desk_types.specs.declared.command.Command.TheVariants.{Release, StandBy, StandDown, Replace}
use Rattle.desk_types.specs.declared.command.Entry.{Entry}
use Rattle.desk_types.specs.declared.refusal.Refusal.{Refusal}
use Rattle.desk_types.specs.declared.reply.Done.{Done}
use Rattle.desk_types.specs.declared.reply.Reply.{Reply}
use Rattle.desk_types.specs.declared.reply.Reply.TheVariants as replies
use Rattle.desk_types.specs.declared.reply.Word.TheVariants as words
use Rattle.desk_incidents.specs.Checks.{new_id}
use Rattle.desk_types.specs.Checks.{plain_done, opening_done}
use Rattle.desk_incidents.specs.Verbs.{open_refusal, add_call_refusal, link_refusal}
use Rattle.desk_incidents.specs.Verbs.{unlink_refusal, merge_refusal, split_refusal, reopen_refusal, note_refusal}
use Rattle.desk_incidents.specs.Verbs.{incidents_after_open, incidents_after_add_call, incidents_after_link}
use Rattle.desk_incidents.specs.Verbs.{incidents_after_unlink, incidents_after_split, incidents_after_clear}
use Rattle.desk_incidents.specs.Verbs.{incidents_after_reopen, incidents_after_note}
use Rattle.desk_units.specs.Verbs.{sign_on_refusal, status_refusal, release_refusal, stand_down_refusal}
use Rattle.desk_units.specs.Verbs.{units_after_sign_on, units_after_sign_off, units_after_set_status}
use Rattle.desk_units.specs.Verbs.{units_after_release, units_after_stand_down}
use Rattle.desk_board.specs.declared.row.Row.{Row}
use Rattle.desk_board.specs.declared.row.PlacedRequest.{PlacedRequest}
use Rattle.desk_board.specs.BoardValue.{BoardValue, incidents_in, units_in, with_incidents, with_units, with_rows}
use Rattle.desk_board.specs.Verbs.{board_after_merge, clear_refusal_on, sign_off_refusal_on, assign_refusal_on}
use Rattle.desk_board.specs.Verbs.{stand_by_refusal_on, board_after_assign, board_after_stand_by}

-- The first check of a command that fails, of the checks in their order.
unfoldable pub refusal : BoardValue → Command → Option Refusal
refusal board (Open at kind site incident call) = open_refusal board.domain incident call (incidents_in board)
refusal board (AddCall at incident call) = add_call_refusal incident call (incidents_in board)
refusal board (Link at incident other) = link_refusal incident other (incidents_in board)
refusal board (Unlink at incident other) = unlink_refusal incident other (incidents_in board)
refusal board (Merge at incident into) = merge_refusal incident into (incidents_in board)
refusal board (Split at incident call kind site) = split_refusal incident call (incidents_in board)
refusal board (Clear at incident) = clear_refusal_on incident board
refusal board (Reopen at incident) = reopen_refusal incident (incidents_in board)
refusal board (Note at incident text) = note_refusal incident (incidents_in board)
refusal board (SignOn at unit) = sign_on_refusal unit (units_in board)
refusal board (SignOff at unit) = sign_off_refusal_on unit board
refusal board (Assign at unit incident) = assign_refusal_on unit incident board
refusal board (SetStatus at unit status) = status_refusal unit status (units_in board)
refusal board (Release at unit) = release_refusal unit (units_in board)
refusal board (StandBy at unit incident) = stand_by_refusal_on unit incident board
refusal board (StandDown at unit) = stand_down_refusal unit (units_in board)
refusal board (Replace at node token) = None

-- What a command at a place does where no check fails.
unfoldable pub effect : ℕ → BoardValue → Command → BoardValue
effect place board (Open at kind site incident call) =
    with_incidents (incidents_after_open place board.domain at kind site incident call (incidents_in board)) board
effect place board (AddCall at incident call) =
    with_incidents (incidents_after_add_call incident call (incidents_in board)) board
effect place board (Link at incident other) =
    with_incidents (incidents_after_link incident other (incidents_in board)) board
effect place board (Unlink at incident other) =
    with_incidents (incidents_after_unlink incident other (incidents_in board)) board
effect place board (Merge at incident into) = board_after_merge incident into board
effect place board (Split at incident call kind site) =
    with_incidents (incidents_after_split place board.domain at call kind site (incidents_in board)) board
effect place board (Clear at incident) = with_incidents (incidents_after_clear incident (incidents_in board)) board
effect place board (Reopen at incident) = with_incidents (incidents_after_reopen incident (incidents_in board)) board
effect place board (Note at incident text) = with_incidents (incidents_after_note incident text (incidents_in board))
    board
effect place board (SignOn at unit) = with_units (units_after_sign_on unit (units_in board)) board
effect place board (SignOff at unit) = with_units (units_after_sign_off unit (units_in board)) board
effect place board (Assign at unit incident) = board_after_assign unit incident board
effect place board (SetStatus at unit status) = with_units (units_after_set_status unit status (units_in board)) board
effect place board (Release at unit) = with_units (units_after_release unit (units_in board)) board
effect place board (StandBy at unit incident) = board_after_stand_by unit incident board
effect place board (StandDown at unit) = with_units (units_after_stand_down unit (units_in board)) board
effect place board (Replace at node token) = board

-- What a command at a place did where no check failed.
unfoldable pub done : ℕ → BoardValue → Command → Done
done place board (Open at kind site incident call) = opening_done words.Opened (new_id place board.domain incident)
done place board (AddCall at incident call) = plain_done words.CallAdded
done place board (Link at incident other) = plain_done words.Linked
done place board (Unlink at incident other) = plain_done words.Unlinked
done place board (Merge at incident into) = plain_done words.Merged
done place board (Split at incident call kind site) = opening_done words.Split (own_id place board.domain)
done place board (Clear at incident) = plain_done words.Cleared
done place board (Reopen at incident) = plain_done words.Reopened
done place board (Note at incident text) = plain_done words.Noted
done place board (SignOn at unit) = plain_done words.SignedOn
done place board (SignOff at unit) = plain_done words.SignedOff
done place board (Assign at unit incident) = plain_done words.Assigned
done place board (SetStatus at unit status) = plain_done words.StatusSet
done place board (Release at unit) = plain_done words.Released
done place board (StandBy at unit incident) = plain_done words.StandingBy
done place board (StandDown at unit) = plain_done words.StoodDown
done place board (Replace at node token) = plain_done words.Replaced

-- the reply at a place that tells what was done
abbrev pub reply_of : ℕ → Done → Reply
reply_of place did = replies.Done place did.word did.incident

-- what a command does, with its reply: nothing where a check refuses it
abbrev pub step_of : ℕ → BoardValue → Command → Option Refusal → BoardValue × Reply
step_of place board command None = (effect place board command, reply_of place (done place board command))
step_of place board command (Some r) = (board, replies.Refused place r)

-- whether the row is a client's
abbrev pub has_client : ℕ → Row → Bool
has_client client r = r.client == client

-- the row of a client
abbrev pub row_of : ℕ → BoardValue → Option Row
row_of client board = find (has_client client) board.rows

-- the rows with one of them in the place of its client's row, or last
abbrev pub with_row : Row → List Row → List Row
with_row row [] = row ∷ []
with_row row (other ∷ rows) = if other.client == row.client then row ∷ rows else other ∷ with_row row rows

-- the client's row with a reply to a request
abbrev pub row_for : PlacedRequest → Reply → Row
row_for request reply =
    record { client = request.client; number = request.number; place = request.place; reply = reply }

-- Each entry, also one that is refused, sets its client's row and the count.
abbrev pub step_with_row : PlacedRequest → BoardValue × Reply → BoardValue × Reply
step_with_row request step = (with_rows (with_row (row_for request step.1) step.0.rows) request.place step.0, step.1)

-- the request of an entry at a place
abbrev pub request_at : ℕ → Entry → PlacedRequest
request_at place e = record { client = e.client; number = e.number; place = place }

-- the board after an entry at a place, and the reply
unfoldable pub execute : BoardValue → ℕ → Entry → BoardValue × Reply
execute board place e = step_with_row (request_at place e) (step_of place board e.command (refusal board e.command))
