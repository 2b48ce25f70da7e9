-- The boards of version 1: fourteen verbs, and no unit that stands by. What is of incidents alone, and what is said of
-- units, pairs and rows one by one, is the same in version 2, and is not written again. What differs is written out.
use Rattle.std.specs.Prelude.{◌≡◌, ◌+◌, ◌-◌, ℕ, List, [], ◌∷◌, ◌++◌, map, filter, take, All, Bool, true, false, not}
use Rattle.std.specs.Prelude.{Option, Some, None}
use Rattle.std.specs.Option.{option_map, option_and_then}
use Rattle.desk_types.specs.Checks.{◌or_else◌, when, plain_done, opening_done}
use Rattle.desk_types.specs.Identifier.{own_id}
use Rattle.desk_types.specs.declared.command.Command.{Command}
use Rattle.desk_types.specs.declared.command.Command.TheVariants.{Open, AddCall, Link, Unlink, Merge, Split, Clear}
use Rattle.desk_types.specs.declared.command.Command.TheVariants.{Reopen, Note, SignOn, SignOff, Assign, SetStatus}
use Rattle.desk_types.specs.declared.command.Command.TheVariants.{Release, StandBy, StandDown, Replace}
use Rattle.desk_types.specs.declared.command.Entry.{Entry}
use Rattle.desk_types.specs.declared.refusal.Refusal.{Refusal}
use Rattle.desk_types.specs.declared.refusal.Refusal.TheVariants as refusals
use Rattle.desk_types.specs.declared.reply.Done.{Done}
use Rattle.desk_types.specs.declared.reply.Reply.{Reply}
use Rattle.desk_types.specs.declared.reply.Reply.TheVariants as replies
use Rattle.desk_types.specs.declared.reply.Word.TheVariants as words
use Rattle.desk_types.specs.declared.show.Status.{Status}
use Rattle.desk_types.specs.declared.show.Status.TheVariants as statuses
use Rattle.desk_log.specs.Entries.{entry_at}
use Rattle.desk_incidents.specs.IncidentsValue.{IncidentsValue}
use Rattle.desk_incidents.specs.declared.incident.HasCall.{HasCall}
use Rattle.desk_incidents.specs.declared.incident.Incident.{Incident}
use Rattle.desk_incidents.specs.declared.incident.Linked.{Linked}
use Rattle.desk_incidents.specs.Checks.{new_id, incident_of, number_of, not_open_refusal}
use Rattle.desk_incidents.specs.Verbs.{open_refusal, add_call_refusal, link_refusal, unlink_refusal, merge_refusal}
use Rattle.desk_incidents.specs.Verbs.{split_refusal, clear_refusal, reopen_refusal, note_refusal}
use Rattle.desk_incidents.specs.Verbs.{incidents_after_open, incidents_after_add_call, incidents_after_link}
use Rattle.desk_incidents.specs.Verbs.{incidents_after_unlink, incidents_after_merge, incidents_after_split}
use Rattle.desk_incidents.specs.Verbs.{incidents_after_clear, incidents_after_reopen, incidents_after_note}
use Rattle.desk_units.specs.declared.unit.UnitPair.{UnitPair}
use Rattle.desk_units.specs.declared.unit.Unit.{Unit}
use Rattle.desk_units.specs.Checks.{has_name, is_unit, unit_of, pair_of_unit, not_there_refusal, not_committed_refusal}
use Rattle.desk_units.specs.Checks.{has_units, taken_refusal, committed_refusal, off_duty_refusal, not_allowed_refusal}
use Rattle.desk_units.specs.Verbs.{with_status, pair_after_merge}
use Rattle.desk_board.specs.declared.row.Row.{Row}
use Rattle.desk_board.specs.declared.row.PlacedRequest.{PlacedRequest}
use Rattle.desk_board.specs.BoardValue.{BoardValue}
use Rattle.desk_board.specs.Verbs.{id_of_pair}
use Rattle.desk_board.specs.Execute.{reply_of, with_row, row_for, request_at}
use Rattle.desk_board.specs.Log.{board_of, reply_at}

-- what a board holds: in version 1 there are three lists of pairs
pub record VersionOneBoard : Type 0 where
  pub domain : List ℕ
  pub incidents : List Incident
  pub has_call : List HasCall
  pub linked : List Linked
  pub units : List Unit
  pub committed_to : List UnitPair
  pub rows : List Row
  pub count : ℕ

-- the board of the empty log
abbrev pub version_one_empty : List ℕ → VersionOneBoard
version_one_empty domain = record {
  domain = domain;
  incidents = [];
  has_call = [];
  linked = [];
  units = [];
  committed_to = [];
  rows = [];
  count = 0;
}

-- the board's incidents with their calls and links
abbrev pub version_one_incidents : VersionOneBoard → IncidentsValue
version_one_incidents board = record { incidents = board.incidents; has_call = board.has_call; linked = board.linked }

-- the board with other incidents, calls and links
abbrev pub version_one_with : IncidentsValue → VersionOneBoard → VersionOneBoard
version_one_with c board = record board { incidents = c.incidents; has_call = c.has_call; linked = c.linked }

-- the identifier of the incident that the unit of a name is committed to
abbrev pub version_one_committed_id : List ℕ → VersionOneBoard → Option (List ℕ)
version_one_committed_id unit board = id_of_pair (pair_of_unit unit board.committed_to) board.incidents

-- a verb on a board: the first check that fails, the board where none does, and what was done then
pub record VersionOneVerb : Type 0 where
  pub check : Option Refusal
  pub after : VersionOneBoard
  pub did : Done

-- the verbs

-- a verb that is about incidents alone
abbrev pub version_one_alone : Option Refusal → IncidentsValue → Done → VersionOneBoard → VersionOneVerb
version_one_alone check after did board = record { check = check; after = version_one_with after board; did = did }

-- merge: the incidents may be merged; the units of the one go with it, and keep their status
abbrev pub version_one_merge : List ℕ → List ℕ → VersionOneBoard → VersionOneVerb
version_one_merge incident into board =
    let c = version_one_incidents board in
    let from = number_of incident board.incidents in
    let to = number_of into board.incidents in
    record {
      check = merge_refusal incident into c;
      after = record (version_one_with (incidents_after_merge incident into c) board) {
        committed_to = map (pair_after_merge from to) board.committed_to;
      };
      did = plain_done words.Merged;
    }

-- clear: the incident is open, and no unit is committed to it; it is cleared
abbrev pub version_one_clear : List ℕ → VersionOneBoard → VersionOneVerb
version_one_clear incident board =
    let c = version_one_incidents board in
    let number = number_of incident board.incidents in
    record {
      check = clear_refusal incident c or_else when (has_units number board.committed_to) refusals.IncidentHasUnits;
      after = version_one_with (incidents_after_clear incident c) board;
      did = plain_done words.Cleared;
    }

-- sign_on: the name is new; one unit more, available
abbrev pub version_one_sign_on : List ℕ → VersionOneBoard → VersionOneVerb
version_one_sign_on unit board = record {
  check = taken_refusal unit board.units;
  after = record board { units = board.units ++ record { name = unit; status = statuses.Available } ∷ [] };
  did = plain_done words.SignedOn;
}

-- sign_off: there is the unit, and it is not committed; it is removed
abbrev pub version_one_sign_off : List ℕ → VersionOneBoard → VersionOneVerb
version_one_sign_off unit board = record {
  check = not_there_refusal (unit_of unit board.units)
      or_else committed_refusal (version_one_committed_id unit board) (pair_of_unit unit board.committed_to);
  after = record board { units = filter (λ u. not (has_name unit u)) board.units };
  did = plain_done words.SignedOff;
}

-- assign: there is the unit, the incident is open, and the unit is neither committed nor out of service; it is
-- dispatched, and committed to the incident
abbrev pub version_one_assign : List ℕ → List ℕ → VersionOneBoard → VersionOneVerb
version_one_assign unit incident board = record {
  check = not_there_refusal (unit_of unit board.units)
      or_else not_open_refusal (incident_of incident board.incidents)
      or_else committed_refusal (version_one_committed_id unit board) (pair_of_unit unit board.committed_to)
      or_else off_duty_refusal (unit_of unit board.units);
  after = record board {
    units = with_status unit statuses.Dispatched board.units;
    committed_to = board.committed_to
        ++ record { unit = unit; incident = number_of incident board.incidents } ∷ [];
  };
  did = plain_done words.Assigned;
}

-- status: there is the unit, and it may change to the status; it has it
abbrev pub version_one_set_status : List ℕ → Status → VersionOneBoard → VersionOneVerb
version_one_set_status unit status board = record {
  check = not_allowed_refusal (unit_of unit board.units) (pair_of_unit unit board.committed_to) status;
  after = record board { units = with_status unit status board.units };
  did = plain_done words.StatusSet;
}

-- release: there is the unit, and it is committed; it is available, and committed no more
abbrev pub version_one_release : List ℕ → VersionOneBoard → VersionOneVerb
version_one_release unit board = record {
  check = not_there_refusal (unit_of unit board.units)
      or_else not_committed_refusal (pair_of_unit unit board.committed_to);
  after = record board {
    units = with_status unit statuses.Available board.units;
    committed_to = filter (λ p. not (is_unit unit p)) board.committed_to;
  };
  did = plain_done words.Released;
}

-- The verb of a command at a place. Version 1 has these fourteen, and makes nothing of other commands.
unfoldable pub version_one_verb : ℕ → VersionOneBoard → Command → Option VersionOneVerb
version_one_verb place board (Open at kind site incident call) =
    let c = version_one_incidents board in
    Some (version_one_alone (open_refusal board.domain incident call c)
    (incidents_after_open place board.domain at kind site incident call c)
    (opening_done words.Opened (new_id place board.domain incident)) board)
version_one_verb place board (AddCall at incident call) =
    let c = version_one_incidents board in
    Some (version_one_alone (add_call_refusal incident call c) (incidents_after_add_call incident call c)
    (plain_done words.CallAdded) board)
version_one_verb place board (Link at incident other) =
    let c = version_one_incidents board in
    Some (version_one_alone (link_refusal incident other c) (incidents_after_link incident other c)
    (plain_done words.Linked) board)
version_one_verb place board (Unlink at incident other) =
    let c = version_one_incidents board in
    Some (version_one_alone (unlink_refusal incident other c) (incidents_after_unlink incident other c)
    (plain_done words.Unlinked) board)
version_one_verb place board (Merge at incident into) = Some (version_one_merge incident into board)
version_one_verb place board (Split at incident call kind site) =
    let c = version_one_incidents board in
    Some (version_one_alone (split_refusal incident call c)
    (incidents_after_split place board.domain at call kind site c)
    (opening_done words.Split (own_id place board.domain)) board)
version_one_verb place board (Clear at incident) = Some (version_one_clear incident board)
version_one_verb place board (Reopen at incident) =
    let c = version_one_incidents board in
    Some (version_one_alone (reopen_refusal incident c) (incidents_after_reopen incident c)
    (plain_done words.Reopened) board)
version_one_verb place board (Note at incident text) =
    let c = version_one_incidents board in
    Some (version_one_alone (note_refusal incident c) (incidents_after_note incident text c)
    (plain_done words.Noted) board)
version_one_verb place board (SignOn at unit) = Some (version_one_sign_on unit board)
version_one_verb place board (SignOff at unit) = Some (version_one_sign_off unit board)
version_one_verb place board (Assign at unit incident) = Some (version_one_assign unit incident board)
version_one_verb place board (SetStatus at unit status) = Some (version_one_set_status unit status board)
version_one_verb place board (Release at unit) = Some (version_one_release unit board)
version_one_verb place board _ = None

-- logs

-- what a verb does, with its reply: nothing where a check refuses it
abbrev pub version_one_step : ℕ → VersionOneBoard → VersionOneVerb → Option Refusal → VersionOneBoard × Reply
version_one_step place board verb None = (verb.after, reply_of place verb.did)
version_one_step place board verb (Some r) = (board, replies.Refused place r)

-- Each entry, also one that is refused, sets its client's row and the count.
abbrev pub version_one_counted : PlacedRequest → VersionOneBoard × Reply → VersionOneBoard × Reply
version_one_counted request step = (
  record (step.0) { rows = with_row (row_for request step.1) step.0.rows; count = request.place },
  step.1,
)

-- the board after an entry at a place, and the reply
unfoldable pub version_one_execute : VersionOneBoard → ℕ → Entry → Option (VersionOneBoard × Reply)
version_one_execute board place e =
    option_map (λ verb. version_one_counted (request_at place e) (version_one_step place board verb verb.check))
    (version_one_verb place board e.command)

-- the board after entries, of which the first stands at a place
abbrev pub version_one_after : Option VersionOneBoard → ℕ → List Entry → Option VersionOneBoard
version_one_after board place [] = board
version_one_after board place (e ∷ es) =
    version_one_after (option_map (λ step. step.0) (option_and_then (λ b. version_one_execute b place e) board))
    (place + 1) es

-- the board of a log: its entries executed one after the other on the empty board, the first at place 1
abbrev pub version_one_board_of : List ℕ → List Entry → Option VersionOneBoard
version_one_board_of domain log = version_one_after (Some (version_one_empty domain)) 1 log

-- the reply at a place: that of the entry there, executed on the board of those before
abbrev pub version_one_reply_at : List ℕ → List Entry → ℕ → Option Reply
version_one_reply_at domain log place =
    option_and_then (λ board. option_and_then (λ e. option_map (λ step. step.1) (version_one_execute board place e))
    (entry_at log place)) (version_one_board_of domain (take (place - 1) log))

-- the law

-- whether a command is of one of the fourteen verbs of version 1
abbrev pub is_version_one : Command → Bool
is_version_one (StandBy at unit incident) = false
is_version_one (StandDown at unit) = false
is_version_one (Replace at node token) = false
is_version_one _ = true

-- The command of an entry is of one of these.
abbrev pub IsVersionOneEntry : Entry → Type 0
IsVersionOneEntry e = is_version_one e.command ≡ true

-- a board without its list of who stands by
abbrev pub without_stand_bys : BoardValue → VersionOneBoard
without_stand_bys board = record {
  domain = board.domain;
  incidents = board.incidents;
  has_call = board.has_call;
  linked = board.linked;
  units = board.units;
  committed_to = board.committed_to;
  rows = board.rows;
  count = board.count;
}

-- Of a log of these verbs the board is that of version 1, with a list of who stands by beside it.
abbrev pub BoardsOfVersionOne : Type 0
BoardsOfVersionOne =
    (domain : List ℕ) (log : List Entry) → All IsVersionOneEntry log →
    version_one_board_of domain log ≡ Some (without_stand_bys (board_of domain log))

-- That list is empty.
abbrev pub NobodyStandsBy : Type 0
NobodyStandsBy =
    (domain : List ℕ) (log : List Entry) → All IsVersionOneEntry log → (board_of domain log).standing_by ≡ []

-- The reply at each place is that of version 1.
abbrev pub RepliesOfVersionOne : Type 0
RepliesOfVersionOne =
    (domain : List ℕ) (log : List Entry) → All IsVersionOneEntry log → (place : ℕ) →
    version_one_reply_at domain log place ≡ reply_at domain log place
