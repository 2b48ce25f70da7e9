-- The boards of version 1 beside those of version 2 on which nobody stands by.
use Rattle.std.proofs.Common.{◌≡◌, ◌+◌, ◌-◌, ◌||◌, ℕ, zero, suc, List, [], ◌∷◌, take, All, Bool, true, false, Option}
use Rattle.std.proofs.Common.{Some, None, option_map, option_and_then, slice_get, IfSome, IsSomeAnd, refl, sym, ap, ◌∙◌}
use Rattle.std.proofs.lemmas.Bool.{false≢true}
use Rattle.std.proofs.lemmas.List.Elements.{All-head, All-tail, All-take}
use Rattle.std.proofs.lemmas.Option.{none-some, same_Some}
use Rattle.desk_types.specs.Checks.{◌or_else◌, when}
use Rattle.desk_types.specs.declared.command.Command.{Command}
use Rattle.desk_types.specs.declared.command.Command.TheVariants.{Open, AddCall, Link, Unlink, Merge, Split, Clear}
use Rattle.desk_types.specs.declared.command.Command.TheVariants.{Reopen, Note, SignOn, SignOff, Assign, SetStatus}
use Rattle.desk_types.specs.declared.command.Command.TheVariants.{Release, StandBy, StandDown, Replace}
use Rattle.desk_types.specs.declared.command.Entry.{Entry}
use Rattle.desk_types.specs.declared.refusal.Refusal.{Refusal}
use Rattle.desk_types.specs.declared.refusal.Refusal.TheVariants as refusals
use Rattle.desk_types.specs.declared.reply.Reply.{Reply}
use Rattle.desk_log.specs.Entries.{entry_at}
use Rattle.desk_incidents.specs.Checks.{incident_of, number_of, not_open_refusal}
use Rattle.desk_incidents.specs.Verbs.{clear_refusal}
use Rattle.desk_units.specs.Checks.{unit_of, pair_of_unit, has_units, not_there_refusal, committed_refusal}
use Rattle.desk_units.specs.Checks.{off_duty_refusal}
use Rattle.desk_board.specs.BoardValue.{BoardValue}
use Rattle.desk_board.specs.Verbs.{clear_refusal_on, assign_refusal_on}
use Rattle.desk_board.specs.Execute.{refusal, effect, done, step_of, step_with_row, request_at, execute}
use Rattle.desk_board.specs.Log.{board_after, board_of, board_before}
use Rattle.desk_board.specs.VersionOne.{VersionOneBoard, VersionOneVerb, version_one_empty, version_one_incidents}
use Rattle.desk_board.specs.VersionOne.{version_one_committed_id, version_one_clear, version_one_assign}
use Rattle.desk_board.specs.VersionOne.{version_one_verb, version_one_step, version_one_counted, version_one_execute}
use Rattle.desk_board.specs.VersionOne.{version_one_after, version_one_board_of, is_version_one, IsVersionOneEntry}
use Rattle.desk_board.specs.VersionOne.{without_stand_bys, BoardsOfVersionOne, NobodyStandsBy, RepliesOfVersionOne}

-- a board of version 1 as one of version 2
abbrev with_nobody : VersionOneBoard → BoardValue
with_nobody board = record {
  domain = board.domain;
  incidents = board.incidents;
  has_call = board.has_call;
  linked = board.linked;
  units = board.units;
  committed_to = board.committed_to;
  standing_by = [];
  rows = board.rows;
  count = board.count;
}

-- the same, with a reply beside it
abbrev step_with_nobody : VersionOneBoard × Reply → BoardValue × Reply
step_with_nobody step = (with_nobody step.0, step.1)

-- verbs

-- A verb of version 2 checks, does and tells there what that of version 1 does.
record IsSameVerb (place : ℕ) (board : VersionOneBoard) (c : Command) (verb : VersionOneVerb) : Type 0 where
  pub check_is : refusal (with_nobody board) c ≡ verb.check
  pub after_is : effect place (with_nobody board) c ≡ with_nobody verb.after
  pub did_is : done place (with_nobody board) c ≡ verb.did

or_false : (t : Bool) → (t || false) ≡ t
or_false true = refl
or_false false = refl

clear_check : (board : VersionOneBoard) (incident : List ℕ) →
    clear_refusal_on incident (with_nobody board) ≡ (version_one_clear incident board).check
clear_check board incident =
    ap (λ t. clear_refusal incident (version_one_incidents board) or_else when t refusals.IncidentHasUnits)
    (or_false (has_units (number_of incident board.incidents) board.committed_to))

-- a check that was made before is not made again
made_once : (a b c : Option Refusal) → (a or_else b or_else a or_else c) ≡ (a or_else b or_else c)
made_once None b c = refl
made_once (Some r) b c = refl

assign_check : (board : VersionOneBoard) (unit incident : List ℕ) →
    assign_refusal_on unit incident (with_nobody board) ≡ (version_one_assign unit incident board).check
assign_check board unit incident =
    made_once (not_there_refusal (unit_of unit board.units)) (not_open_refusal (incident_of incident board.incidents))
    (committed_refusal (version_one_committed_id unit board) (pair_of_unit unit board.committed_to)
    or_else off_duty_refusal (unit_of unit board.units))

same_verb : (place : ℕ) (board : VersionOneBoard) (c : Command) → is_version_one c ≡ true →
    IsSomeAnd (version_one_verb place board c) (IsSameVerb place board c)
unfolding refusal effect done version_one_verb
same_verb place board (Open at kind site incident call) h =
    record { check_is = refl; after_is = refl; did_is = refl }
same_verb place board (AddCall at incident call) h = record { check_is = refl; after_is = refl; did_is = refl }
same_verb place board (Link at incident other) h = record { check_is = refl; after_is = refl; did_is = refl }
same_verb place board (Unlink at incident other) h = record { check_is = refl; after_is = refl; did_is = refl }
same_verb place board (Merge at incident into) h = record { check_is = refl; after_is = refl; did_is = refl }
same_verb place board (Split at incident call kind site) h =
    record { check_is = refl; after_is = refl; did_is = refl }
same_verb place board (Clear at incident) h =
    record { check_is = clear_check board incident; after_is = refl; did_is = refl }
same_verb place board (Reopen at incident) h = record { check_is = refl; after_is = refl; did_is = refl }
same_verb place board (Note at incident text) h = record { check_is = refl; after_is = refl; did_is = refl }
same_verb place board (SignOn at unit) h = record { check_is = refl; after_is = refl; did_is = refl }
same_verb place board (SignOff at unit) h = record { check_is = refl; after_is = refl; did_is = refl }
same_verb place board (Assign at unit incident) h =
    record { check_is = assign_check board unit incident; after_is = refl; did_is = refl }
same_verb place board (SetStatus at unit status) h = record { check_is = refl; after_is = refl; did_is = refl }
same_verb place board (Release at unit) h = record { check_is = refl; after_is = refl; did_is = refl }
same_verb place board (StandBy at unit incident) h = absurd (false≢true h)
same_verb place board (StandDown at unit) h = absurd (false≢true h)
same_verb place board (Replace at node token) h = absurd (false≢true h)

-- steps

same_step : (place : ℕ) (board : VersionOneBoard) (c : Command) (verb : VersionOneVerb) (o : Option Refusal) →
    IsSameVerb place board c verb →
    step_of place (with_nobody board) c o ≡ step_with_nobody (version_one_step place board verb o)
same_step place board c verb None s = rw (s.after_is, s.did_is) refl
same_step place board c verb (Some r) s = refl

execute_case : (place : ℕ) (board : VersionOneBoard) (e : Entry) (o : Option VersionOneVerb) →
    IsSomeAnd o (IsSameVerb place board e.command) →
    option_map step_with_nobody (option_map
    (λ verb. version_one_counted (request_at place e) (version_one_step place board verb verb.check)) o) ≡ Some
    (step_with_row (request_at place e) (step_of place (with_nobody board) e.command
    (refusal (with_nobody board) e.command)))
execute_case place board e None s = absurd s
execute_case place board e (Some verb) s =
    let same : step_of place (with_nobody board) e.command (refusal (with_nobody board) e.command) ≡ step_with_nobody
    (version_one_step place board verb verb.check) =
    ap (step_of place (with_nobody board) e.command) s.check_is ∙ same_step place board e.command verb verb.check s in
    ap (λ step. Some (step_with_row (request_at place e) step)) (sym same)

same_execute : (place : ℕ) (board : VersionOneBoard) (e : Entry) → IsVersionOneEntry e →
    option_map step_with_nobody (version_one_execute board place e) ≡ Some (execute (with_nobody board) place e)
unfolding execute version_one_execute
same_execute place board e h =
    execute_case place board e (version_one_verb place board e.command) (same_verb place board e.command h)

-- boards

after_case : (es : List Entry) (place : ℕ) (next : BoardValue × Reply) (o : Option (VersionOneBoard × Reply)) →
    option_map step_with_nobody o ≡ Some next →
    ((b : VersionOneBoard) → option_map with_nobody (version_one_after (Some b) place es) ≡ Some
    (board_after (with_nobody b) place es)) →
    option_map with_nobody (version_one_after (option_map (λ step. step.0) o) place es) ≡ Some
    (board_after next.0 place es)
after_case es place next None h k = absurd (none-some next h)
after_case es place next (Some step) h k =
    k step.0 ∙ ap (λ (s : BoardValue × Reply). Some (board_after s.0 place es)) (same_Some _ _ h)

same_after : (es : List Entry) (board : VersionOneBoard) (place : ℕ) → All IsVersionOneEntry es →
    option_map with_nobody (version_one_after (Some board) place es) ≡ Some (board_after (with_nobody board) place es)
same_after [] board place h = refl
same_after (e ∷ es) board place h =
    let later : All IsVersionOneEntry es = All-tail IsVersionOneEntry e es h in
    after_case es (place + 1) (execute (with_nobody board) place e) (version_one_execute board place e)
    (same_execute place board e (All-head IsVersionOneEntry e es h)) (λ b. same_after es b (place + 1) later)

same_board : (domain : List ℕ) (log : List Entry) → All IsVersionOneEntry log →
    option_map with_nobody (version_one_board_of domain log) ≡ Some (board_of domain log)
same_board domain log h = same_after log (version_one_empty domain) 1 h

board_case : (board : BoardValue) (o : Option VersionOneBoard) → option_map with_nobody o ≡ Some board →
    (o ≡ Some (without_stand_bys board)) × (board.standing_by ≡ [])
board_case board None h = absurd (none-some board h)
board_case board (Some b) h =
    let same : with_nobody b ≡ board = same_Some _ _ h in
    (ap (λ (d : BoardValue). Some (without_stand_bys d)) same, ap (λ (d : BoardValue). d.standing_by) (sym same))

pub boards_of_version_one : BoardsOfVersionOne
boards_of_version_one domain log h =
    (board_case (board_of domain log) (version_one_board_of domain log) (same_board domain log h)).0

pub nobody_stands_by : NobodyStandsBy
nobody_stands_by domain log h =
    (board_case (board_of domain log) (version_one_board_of domain log) (same_board domain log h)).1

-- replies

slice_get-each : (log : List Entry) (k : ℕ) → All IsVersionOneEntry log → IfSome (slice_get log k) IsVersionOneEntry
slice_get-each [] k h = tt
slice_get-each (e ∷ es) zero h = All-head IsVersionOneEntry e es h
slice_get-each (e ∷ es) (suc k) h = slice_get-each es k (All-tail IsVersionOneEntry e es h)

entry_at-each : (log : List Entry) (place : ℕ) → All IsVersionOneEntry log →
    IfSome (entry_at log place) IsVersionOneEntry
entry_at-each log zero h = tt
entry_at-each log (suc k) h = slice_get-each log k h

reply_of_step : (step : BoardValue × Reply) (o : Option (VersionOneBoard × Reply)) →
    option_map step_with_nobody o ≡ Some step → option_map (λ s. s.1) o ≡ Some step.1
reply_of_step step None h = absurd (none-some step h)
reply_of_step step (Some s) h = ap (λ (t : BoardValue × Reply). Some t.1) (same_Some _ _ h)

reply_case : (place : ℕ) (before : BoardValue) (o : Option VersionOneBoard) (m : Option Entry) →
    option_map with_nobody o ≡ Some before → IfSome m IsVersionOneEntry →
    option_and_then
    (λ board. option_and_then (λ e. option_map (λ step. step.1) (version_one_execute board place e)) m)
    o ≡ option_map (λ e. (execute before place e).1) m
reply_case place before None m h k = absurd (none-some before h)
reply_case place before (Some board) None h k = refl
reply_case place before (Some board) (Some e) h k =
    let same : with_nobody board ≡ before = same_Some _ _ h in
    reply_of_step (execute (with_nobody board) place e) (version_one_execute board place e)
    (same_execute place board e k) ∙ ap (λ (d : BoardValue). Some (execute d place e).1) same

pub replies_of_version_one : RepliesOfVersionOne
replies_of_version_one domain log h place =
    reply_case place (board_before domain log place) (version_one_board_of domain (take (place - 1) log))
    (entry_at log place) (same_board domain (take (place - 1) log) (All-take IsVersionOneEntry (place - 1) log h))
    (entry_at-each log place h)
