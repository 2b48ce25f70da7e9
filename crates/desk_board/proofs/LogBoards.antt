-- The board of every log: that it is consistent, its growth by an entry, and the board before a place.
use Rattle.std.proofs.Common.{true, false, ◌≡◌, ◌≤◌, ◌<◌, ◌+◌, ◌-◌, ℕ, suc, List, [], ◌∷◌, ◌++◌, length, Option, Some}
use Rattle.std.proofs.Common.{None, arith, refl, ap}
use Rattle.std.proofs.Math.Seq.{take-length}
use Rattle.std.proofs.lemmas.List.{take-append-le}
use Rattle.desk_types.specs.Identifier.{IsLowerDomain, is_under, own_id}
use Rattle.desk_types.specs.declared.command.Command.{Command}
use Rattle.desk_types.specs.declared.command.Command.TheVariants.{Open, AddCall, Link, Unlink, Merge, Split, Clear}
use Rattle.desk_types.specs.declared.command.Command.TheVariants.{Reopen, Note, SignOn, SignOff, Assign, SetStatus}
use Rattle.desk_types.specs.declared.command.Command.TheVariants.{Release, StandBy, StandDown, Replace}
use Rattle.desk_types.specs.declared.command.Entry.{Entry}
use Rattle.desk_types.specs.declared.refusal.Refusal.{Refusal}
use Rattle.desk_types.specs.declared.reply.Reply.{Reply}
use Rattle.desk_board.specs.BoardValue.{BoardValue, empty_board}
use Rattle.desk_board.specs.Execute.{refusal, effect, step_of, step_with_row, request_at, execute}
use Rattle.desk_board.specs.Log.{board_after, board_of, board_before}
use Rattle.desk_board.specs.Consistency.{has_incident, IsMergedIntoAnother, IsConsistentAt, IsConsistent}
use Rattle.desk_incidents.specs.Checks.{is_open, is_unmerged}
use Rattle.desk_units.specs.Checks.{has_name, is_unit, is_committed_there, is_at_work}
use Rattle.std.specs.List.{list_any}
use Rattle.std.proofs.lemmas.List.Elements.{All-nil}
use Rattle.desk_board.specs.Laws.{own_places, BoardsAreConsistent, CountsEntries, OneMoreStep}
use Rattle.desk_board.proofs.ConsistentLinks.{ConsistentLinks-empty}
use Rattle.desk_board.proofs.ConsistentIncidents.{ConsistentIncidents-later}
use Rattle.desk_board.proofs.ConsistentCommands.{effect-consistent}

-- what no command changes

pub effect-domain : (board : BoardValue) (place : ℕ) (c : Command) → (effect place board c).domain ≡ board.domain
unfolding effect
effect-domain board place (Open at kind site incident call) = refl
effect-domain board place (AddCall at incident call) = refl
effect-domain board place (Link at incident other) = refl
effect-domain board place (Unlink at incident other) = refl
effect-domain board place (Merge at incident into) = refl
effect-domain board place (Split at incident call kind site) = refl
effect-domain board place (Clear at incident) = refl
effect-domain board place (Reopen at incident) = refl
effect-domain board place (Note at incident text) = refl
effect-domain board place (SignOn at unit) = refl
effect-domain board place (SignOff at unit) = refl
effect-domain board place (Assign at unit incident) = refl
effect-domain board place (SetStatus at unit status) = refl
effect-domain board place (Release at unit) = refl
effect-domain board place (StandBy at unit incident) = refl
effect-domain board place (StandDown at unit) = refl
effect-domain board place (Replace at node token) = refl

pub effect-rows : (board : BoardValue) (place : ℕ) (c : Command) → (effect place board c).rows ≡ board.rows
unfolding effect
effect-rows board place (Open at kind site incident call) = refl
effect-rows board place (AddCall at incident call) = refl
effect-rows board place (Link at incident other) = refl
effect-rows board place (Unlink at incident other) = refl
effect-rows board place (Merge at incident into) = refl
effect-rows board place (Split at incident call kind site) = refl
effect-rows board place (Clear at incident) = refl
effect-rows board place (Reopen at incident) = refl
effect-rows board place (Note at incident text) = refl
effect-rows board place (SignOn at unit) = refl
effect-rows board place (SignOff at unit) = refl
effect-rows board place (Assign at unit incident) = refl
effect-rows board place (SetStatus at unit status) = refl
effect-rows board place (Release at unit) = refl
effect-rows board place (StandBy at unit incident) = refl
effect-rows board place (StandDown at unit) = refl
effect-rows board place (Replace at node token) = refl

step_of-domain : (board : BoardValue) (place : ℕ) (c : Command) (o : Option Refusal) →
    (step_of place board c o).0.domain ≡ board.domain
step_of-domain board place c None = effect-domain board place c
step_of-domain board place c (Some r) = refl

pub execute-domain : (board : BoardValue) (place : ℕ) (e : Entry) → (execute board place e).0.domain ≡ board.domain
unfolding execute
execute-domain board place e = step_of-domain board place e.command (refusal board e.command)

pub execute-count : (board : BoardValue) (place : ℕ) (e : Entry) → (execute board place e).0.count ≡ place
unfolding execute
execute-count board place e = refl

-- consistency

IsConsistentAt-later : (place : ℕ) (board : BoardValue) → IsConsistentAt place board → IsConsistentAt (place + 1) board
IsConsistentAt-later place board h =
    record {
      incidents = ConsistentIncidents-later board.domain place board.incidents h.incidents;
      calls = h.calls;
      links = h.links;
      committed = h.committed;
      standing_by = h.standing_by;
      elsewhere = h.elsewhere;
      units = h.units;
    }

step_of-consistent : (board : BoardValue) (place : ℕ) (c : Command) (o : Option Refusal) → refusal board c ≡ o →
    IsLowerDomain board.domain → place < own_places → IsConsistentAt place board →
    IsConsistentAt (place + 1) (step_of place board c o).0
step_of-consistent board place c None q l m h = effect-consistent board place c l m h q
step_of-consistent board place c (Some r) q l m h = IsConsistentAt-later place board h

-- rows and count are no part of it
step_with_row-consistent : (place at : ℕ) (e : Entry) (step : BoardValue × Reply) → IsConsistentAt place step.0 →
    IsConsistentAt place (step_with_row (request_at at e) step).0
step_with_row-consistent place at e step h = record {
  incidents = h.incidents;
  calls = h.calls;
  links = h.links;
  committed = h.committed;
  standing_by = h.standing_by;
  elsewhere = h.elsewhere;
  units = h.units;
}

pub execute-consistent : (board : BoardValue) (place : ℕ) (e : Entry) → IsLowerDomain board.domain →
    place < own_places →
    IsConsistentAt place board → IsConsistentAt (place + 1) (execute board place e).0
unfolding execute
execute-consistent board place e l m h =
    step_with_row-consistent (place + 1) place e (step_of place board e.command (refusal board e.command))
    (step_of-consistent board place e.command (refusal board e.command) refl l m h)

pub empty_board-consistent : (domain : List ℕ) → IsConsistent (empty_board domain)
empty_board-consistent domain = record {
  incidents = record {
    rising = λ i j d before within. absurd (omega (arith, within));
    below = All-nil (λ i. i.number < 1);
    differ = λ i j d before within. absurd (omega (arith, within));
    own = All-nil (λ i. is_under domain i.id ≡ true → i.id ≡ own_id i.number domain);
    merged = All-nil (IsMergedIntoAnother []);
  };
  calls = record {
    differ = λ i j d before within. absurd (omega (arith, within));
    on_board = All-nil (λ h. has_incident is_unmerged h.incident [] ≡ true);
    most = λ n. omega arith;
  };
  links = ConsistentLinks-empty [];
  committed = record {
    differ = λ i j d before within. absurd (omega (arith, within));
    at_open = All-nil (λ p. has_incident is_open p.incident [] ≡ true);
  };
  standing_by = record {
    differ = λ i j d before within. absurd (omega (arith, within));
    at_open = All-nil (λ p. has_incident is_open p.incident [] ≡ true);
  };
  elsewhere = record {
    committed = All-nil (λ p. list_any (is_unit p.unit) [] ≡ true);
    elsewhere = All-nil (λ p. is_committed_there [] p ≡ false);
  };
  units = record {
    differ = λ i j d before within. absurd (omega (arith, within));
    signed_on = All-nil (λ p. list_any (has_name p.unit) [] ≡ true);
    at_work = All-nil (λ u. is_at_work u.status ≡ list_any (is_unit u.name) []);
  };
}

board_after-consistent : (es : List Entry) (board : BoardValue) (place : ℕ) → IsLowerDomain board.domain →
    place + length es ≤ own_places → IsConsistentAt place board →
    IsConsistentAt (place + length es) (board_after board place es)
board_after-consistent [] board place l m h = let e : place + 0 ≡ place = omega arith in rw e h
board_after-consistent (e ∷ es) board place l m h =
    let n : place + suc (length es) ≡ place + 1 + length es = omega arith in
    rw n (board_after-consistent es (execute board place e).0 (place + 1) (rw (execute-domain board place e) l)
    (omega (arith, m)) (execute-consistent board place e l (omega (arith, m)) h))

-- counts

board_after-count : (es : List Entry) (board : BoardValue) (place : ℕ) → place ≡ board.count + 1 →
    (board_after board place es).count + 1 ≡ place + length es
board_after-count [] board place h = omega (arith, h)
board_after-count (e ∷ es) board place h =
    let count : (execute board place e).0.count ≡ place = execute-count board place e in
    let rest : (board_after (execute board place e).0 (place + 1) es).count + 1 ≡ place + 1 + length es =
    board_after-count es (execute board place e).0 (place + 1) (omega (arith, count)) in
    omega (arith, rest)

pub board_of-count : CountsEntries
board_of-count domain log = omega (arith, board_after-count log (empty_board domain) 1 refl)

pub board_of-consistent : BoardsAreConsistent
board_of-consistent domain log l m =
    let count : (board_of domain log).count ≡ length log = board_of-count domain log in
    let n : 1 + length log ≡ length log + 1 = omega arith in
    rw (count, ← n) (board_after-consistent log (empty_board domain) 1 l (omega (arith, m))
    (empty_board-consistent domain))

-- growth

pub board_after-append : (xs ys : List Entry) (board : BoardValue) (place : ℕ) →
    board_after board place (xs ++ ys) ≡ board_after (board_after board place xs) (place + length xs) ys
board_after-append [] ys board place = let e : place + 0 ≡ place = omega arith in rw e refl
board_after-append (x ∷ xs) ys board place =
    let e : place + suc (length xs) ≡ place + 1 + length xs = omega arith in
    rw e (board_after-append xs ys (execute board place x).0 (place + 1))

-- the board of a log with one entry more
pub board_of-push : OneMoreStep
board_of-push domain log e =
    let n : 1 + length log ≡ length log + 1 = omega arith in
    rw (← n) (board_after-append log (e ∷ []) (empty_board domain) 1)

-- boards before a place

-- the board before a place does not change when the log grows
pub board_before-append : (domain : List ℕ) (log more : List Entry) (place : ℕ) → place ≤ length log + 1 →
    board_before domain (log ++ more) place ≡ board_before domain log place
board_before-append domain log more place h =
    ap (board_of domain) (take-append-le (place - 1) log more (omega (arith, h)))

pub board_before-next : (domain : List ℕ) (log : List Entry) →
    board_before domain log (length log + 1) ≡ board_of domain log
board_before-next domain log =
    let n : length log + 1 - 1 ≡ length log = omega arith in
    rw n (ap (board_of domain) (take-length log))
