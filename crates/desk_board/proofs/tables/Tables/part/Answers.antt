use Rattle.std.proofs.Common.{◌≡◌, ◌∙◌, ℕ, List, Option, map, filter, take, slice_get, Some}
use Rattle.std.proofs.Common.{None, refl, ap, sym, arith}
use Rattle.std.proofs.lemmas.Bool.{false≢true}
use Rattle.std.specs.Option.{option_map}
use Rattle.desk_types.specs.declared.limits.TheConstants.{LIST_INCIDENTS}
use Rattle.desk_types.specs.declared.list.ListedIncident.{ListedIncident}
use Rattle.desk_incidents.specs.declared.incident.Incident.{Incident}
use Rattle.desk_board.specs.BoardValue.{BoardValue}
use Rattle.desk_board.specs.Listed.{is_in_list, listed_incident, part_of_found}
use Rattle.desk_board.specs.Tables.{board_in}
use Rattle.desk_board.proofs.ListParts.{part_begins, part_skips, part_adds, part_stops, part_ends, plus_one}
use Rattle.desk_board.proofs.tables.Tables.part.Goals as goal
use Rattle.desk_board.proofs.tables.Tables.part.Goals.{then-is_in_list+else-is_full+in_ok-listed_incident+in_ok-push}
use Rattle.desk_board.proofs.tables.Tables.part.Goals.{else-is_in_list}

made_of : (board : BoardValue) (found : List Incident) (listed : List ListedIncident) (next : Option ℕ) →
    listed ≡ map (listed_incident board) (take LIST_INCIDENTS found) →
    next ≡ option_map (λ i. i.number) (slice_get found LIST_INCIDENTS) →
    record { incidents = listed; next = next } ≡ part_of_found board found
made_of board found listed next l n = rw (l, n) refl

pub loop-incident-init : goal.loop-incident-init
loop-incident-init c =
    rw c.new-incidents.ensures (part_begins (is_in_list c.args.asked c.args.from)
    (listed_incident (board_in c.args.self.now)) LIST_INCIDENTS c.as_slice-incident-items.result.now)

pub returns-then-is_full : goal.returns-then-is_full
returns-then-is_full c =
    let board = board_in c.args.self.now in
    let listed = filter (is_in_list c.args.asked c.args.from) in
    let h = part_stops (is_in_list c.args.asked c.args.from) (listed_incident board) LIST_INCIDENTS
    c.as_slice-incident-items.result.now c.loop-incident.incident-index c.loop-incident.incidents
    c.incident-item.result c.loop-incident-test.true c.incident-item.is
    (sym c.is_in_list.ensures ∙ c.if-is_in_list.true)
    (c.is_full.ensures.0 c.if-is_full.true) c.loop-incident.invariant in
    made_of board (listed c.as_slice-incident-items.result.now) c.loop-incident.incidents
    (Some c.incident-item.result.number) h.0 (sym (ap (option_map (λ i. i.number)) h.1))
    ∙ ap (λ is. part_of_found board (listed is)) c.as_slice-incident-items.ensures.all

pub loop-incident-preserved : goal.loop-incident-preserved
loop-incident-preserved c =
    let all = c.as_slice-incident-items.result.now in
    let listed = is_in_list c.args.asked c.args.from in
    let shown = listed_incident (board_in c.args.self.now) in
    rw (plus_one c.loop-incident.incident-index) (elim c.if-is_in_list.branch [
      | then-is_in_list+else-is_full+in_ok-listed_incident+in_ok-push w ↦
          rw (w.incidents-is, w.in_ok-push.ensures.ok, w.in_ok-listed_incident.ensures) (part_adds listed shown
          LIST_INCIDENTS all c.loop-incident.incident-index c.loop-incident.incidents c.incident-item.result
          c.loop-incident-test.true c.incident-item.is (sym c.is_in_list.ensures ∙ w.if-is_in_list.true)
          (λ e. false≢true (sym w.if-is_full.false ∙ w.is_full.ensures.1 e)) c.loop-incident.invariant)
      | else-is_in_list w ↦
          rw w.incidents-is (part_skips listed shown LIST_INCIDENTS all c.loop-incident.incident-index
          c.loop-incident.incidents c.incident-item.result c.loop-incident-test.true c.incident-item.is
          (sym c.is_in_list.ensures ∙ w.if-is_in_list.false) c.loop-incident.invariant)
    ])

pub returns : goal.returns
returns c =
    let board = board_in c.args.self.now in
    let listed = filter (is_in_list c.args.asked c.args.from) in
    let h = part_ends (is_in_list c.args.asked c.args.from) (listed_incident board) LIST_INCIDENTS
    c.as_slice-incident-items.result.now c.loop-incident.incident-index c.loop-incident.incidents
    (omega (arith, c.loop-incident-test.false)) c.loop-incident.invariant in
    made_of board (listed c.as_slice-incident-items.result.now) c.loop-incident.incidents None h.0
    (sym (ap (option_map (λ i. i.number)) h.1))
    ∙ ap (λ is. part_of_found board (listed is)) c.as_slice-incident-items.ensures.all
