-- Replies and rows of a log.
use Rattle.std.proofs.Common.{◌≡◌, ◌≤◌, ◌+◌, ℕ, List, [], ◌∷◌, ◌++◌, length, Bool, true, false, eqb, Option, Some}
use Rattle.std.proofs.Common.{None, cond, arith, refl, sym, ap, ◌∙◌, eqb-true}
use Rattle.std.specs.List.{find}
use Rattle.std.specs.Option.{option_map}
use Rattle.std.proofs.lemmas.Bool.{eqb-false, cond-true, cond-false}
use Rattle.std.proofs.lemmas.Option.{none-some}
use Rattle.desk_types.specs.declared.command.Command.{Command}
use Rattle.desk_types.specs.declared.command.Entry.{Entry}
use Rattle.desk_types.specs.declared.refusal.Refusal.{Refusal}
use Rattle.desk_log.specs.Entries.{entry_at, latest}
use Rattle.desk_log.proofs.Places.{entry_at-last, entry_at-append, entry_at_within}
use Rattle.desk_log.proofs.Latest.{latest_push, latest_is_last}
use Rattle.desk_board.specs.declared.row.Row.{Row}
use Rattle.desk_board.specs.BoardValue.{BoardValue}
use Rattle.desk_board.specs.Execute.{refusal, step_of, has_client, row_of, with_row, row_for, request_at, execute}
use Rattle.desk_board.specs.Log.{board_of, board_before, row_at, row_at_latest, row}
use Rattle.desk_board.specs.Laws.{LastReply, RepliesStay, RowsAreLatest}
use Rattle.desk_board.proofs.ChangedLists.{by_growth}
use Rattle.desk_board.proofs.LogBoards.{effect-rows, board_of-push, board_before-append, board_before-next}

-- what was made of an entry and the board before it, when the log grows

stays_where : {B : Type 0} (domain : List ℕ) (log more : List Entry) (place : ℕ) (f : BoardValue → Entry → B)
    (e : Entry) → entry_at log place ≡ Some e →
    option_map (f (board_before domain (log ++ more) place)) (entry_at (log ++ more) place) ≡ option_map
    (f (board_before domain log place)) (entry_at log place)
stays_where domain log more place f e h =
    let within : (1 ≤ place) × (place ≤ length log) = entry_at_within log place e h in
    rw (entry_at-append log more place e h, h, board_before-append domain log more place (omega (arith, within.1))) refl

stays_case : {B : Type 0} (domain : List ℕ) (log more : List Entry) (place : ℕ) (f : BoardValue → Entry → B) (b : B)
    (o : Option Entry) → entry_at log place ≡ o →
    option_map (f (board_before domain log place)) o ≡ Some b →
    option_map (f (board_before domain (log ++ more) place)) (entry_at (log ++ more) place) ≡ Some b
stays_case domain log more place f b None q h = absurd (none-some b h)
stays_case domain log more place f b (Some e) q h =
    stays_where domain log more place f e q ∙ (ap (option_map (f (board_before domain log place))) q ∙ h)

stays : {B : Type 0} (domain : List ℕ) (log more : List Entry) (place : ℕ) (f : BoardValue → Entry → B) (b : B) →
    option_map (f (board_before domain log place)) (entry_at log place) ≡ Some b →
    option_map (f (board_before domain (log ++ more) place)) (entry_at (log ++ more) place) ≡ Some b
stays domain log more place f b h = stays_case domain log more place f b (entry_at log place) refl h

last_step : {B : Type 0} (domain : List ℕ) (log : List Entry) (e : Entry) (f : BoardValue → Entry → B) →
    option_map (f (board_before domain (log ++ e ∷ []) (length log + 1)))
    (entry_at (log ++ e ∷ []) (length log + 1)) ≡ Some (f (board_of domain log) e)
last_step domain log e f =
    rw (
      entry_at-last log e,
      board_before-append domain log (e ∷ []) (length log + 1) (omega arith),
      board_before-next
          domain log,
    ) refl

pub reply_at-append : RepliesStay
reply_at-append domain log more place reply h =
    stays domain log more place (λ board e. (execute board place e).1) reply h

pub reply_at-last : LastReply
reply_at-last domain log e = last_step domain log e (λ board f. (execute board (length log + 1) f).1)

pub row_at-append : (domain : List ℕ) (log more : List Entry) (place : ℕ) (r : Row) →
    row_at domain log place ≡ Some r → row_at domain (log ++ more) place ≡ Some r
row_at-append domain log more place r h =
    stays domain log more place (λ board e. row_for (request_at place e) (execute board place e).1) r h

pub row_at-last : (domain : List ℕ) (log : List Entry) (e : Entry) → row_at domain (log ++ e ∷ [])
    (length log + 1) ≡ Some (row_for (request_at (length log + 1) e) (execute (board_of domain log) (length log + 1)
    e).1)
row_at-last domain log e =
    last_step domain log e (λ board f. row_for (request_at (length log + 1) f) (execute board (length log + 1) f).1)

-- the rows of a board

with_step : (t u v : Bool) (row other : Row) (rows : List Row) (client : ℕ) → eqb other.client row.client ≡ t →
    eqb row.client client ≡ u → eqb other.client client ≡ v → find (has_client client)
    (with_row row rows) ≡ cond u (Some row) (find (has_client client) rows) →
    find (has_client client) (cond t (row ∷ rows) (other ∷ with_row row rows)) ≡ cond u (Some row)
    (cond v (Some other) (find (has_client client) rows))
with_step true true v row other rows client e f g ih = cond-true (eqb row.client client) _ _ f
with_step true false true row other rows client e f g ih =
    let a : other.client ≡ row.client = eqb-true _ _ e in
    let b : other.client ≡ client = eqb-true _ _ g in
    absurd (eqb-false _ _ f (sym a ∙ b))
with_step true false false row other rows client e f g ih = cond-false (eqb row.client client) _ _ f
with_step false true true row other rows client e f g ih =
    let a : row.client ≡ client = eqb-true _ _ f in
    let b : other.client ≡ client = eqb-true _ _ g in
    absurd (eqb-false _ _ e (b ∙ sym a))
with_step false true false row other rows client e f g ih = cond-false (eqb other.client client) _ _ g ∙ ih
with_step false false true row other rows client e f g ih = cond-true (eqb other.client client) _ _ g
with_step false false false row other rows client e f g ih = cond-false (eqb other.client client) _ _ g ∙ ih

pub find-with_row : (row : Row) (rows : List Row) (client : ℕ) → find (has_client client)
    (with_row row rows) ≡ cond (eqb row.client client) (Some row) (find (has_client client) rows)
find-with_row row [] client = refl
find-with_row row (other ∷ rows) client =
    with_step (eqb other.client row.client) (eqb row.client client) (eqb other.client client) row other rows client
    refl refl refl (find-with_row row rows client)

step_of-rows : (board : BoardValue) (place : ℕ) (c : Command) (o : Option Refusal) →
    (step_of place board c o).0.rows ≡ board.rows
step_of-rows board place c None = effect-rows board place c
step_of-rows board place c (Some r) = refl

-- each entry sets its client's row
pub execute-rows : (board : BoardValue) (place : ℕ) (e : Entry) →
    (execute board place e).0.rows ≡ with_row (row_for (request_at place e) (execute board place e).1) board.rows
unfolding execute
execute-rows board place e =
    ap (with_row (row_for (request_at place e) (step_of place board e.command (refusal board e.command)).1))
    (step_of-rows board place e.command (refusal board e.command))

pub row_of-execute : (board : BoardValue) (place : ℕ) (e : Entry) (client : ℕ) →
    row_of client (execute board place e).0 ≡ cond (eqb e.client client)
    (Some (row_for (request_at place e) (execute board place e).1)) (row_of client board)
row_of-execute board place e client =
    ap (find (has_client client)) (execute-rows board place e) ∙ find-with_row
    (row_for (request_at place e) (execute board place e).1) board.rows client

-- an earlier row stays
earlier : (domain : List ℕ) (log : List Entry) (e : Entry) (client : ℕ) (o : Option ℕ) → latest client log ≡ o →
    row_at_latest domain log o ≡ row_at_latest domain (log ++ e ∷ []) o
earlier domain log e client None q = refl
earlier domain log e client (Some place) q =
    let l = latest_is_last client log place q in
    sym (stays_where domain log (e ∷ []) place (λ board f. row_for (request_at place f) (execute board place f).1)
    l.entry l.there)

rows_step : (domain : List ℕ) (log : List Entry) (e : Entry) (client : ℕ) (t : Bool) →
    row_of client (board_of domain log) ≡ row domain client log →
    cond t (Some (row_for (request_at (length log + 1) e) (execute (board_of domain log) (length log + 1) e).1))
    (row_of client (board_of domain log)) ≡ row_at_latest domain (log ++ e ∷ [])
    (cond t (Some (length log + 1)) (latest client log))
rows_step domain log e client true h = sym (row_at-last domain log e)
rows_step domain log e client false h = h ∙ earlier domain log e client (latest client log) refl

pub rows_are_latest : RowsAreLatest
rows_are_latest domain log client =
    by_growth (λ l. row_of client (board_of domain l) ≡ row domain client l) [] log refl
    (λ l e h. rw (board_of-push domain l e, latest_push client l e) (row_of-execute (board_of domain l) (length l + 1)
    e client ∙ rows_step domain l e client (eqb e.client client) h))
