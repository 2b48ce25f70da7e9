-- A board is consistent after an opening, and after a split.
use Rattle.std.proofs.Common.{◌≡◌, ◌<◌, ◌+◌, ℕ, ℤ, List, [], ◌∷◌, ◌++◌, true, false, ◌&&◌, ◌==◌, Option, Some, None}
use Rattle.std.proofs.Common.{arith, refl, append-nil}
use Rattle.std.specs.List.{All}
use Rattle.std.specs.List.{list_any, count_by}
use Rattle.std.specs.Str.{bytes_eq}
use Rattle.std.proofs.lemmas.Bool.{eq-eqb, both_ways}
use Rattle.desk_types.specs.Checks.{when}
use Rattle.desk_types.specs.Identifier.{own_id, IsLowerDomain}
use Rattle.desk_types.specs.Lists.{update_first}
use Rattle.desk_types.specs.Identifier.{is_under}
use Rattle.desk_types.specs.declared.show.IncidentState.TheVariants as states
use Rattle.desk_incidents.specs.declared.incident.HasCall.{HasCall}
use Rattle.desk_incidents.specs.declared.incident.Incident.{Incident}
use Rattle.desk_incidents.specs.Calls.{is_call, is_of, call_refusal, new_calls, call_of_incident}
use Rattle.desk_incidents.specs.Checks.{is_open, is_unmerged, has_id, id_refusal, new_id, new_incident}
use Rattle.desk_incidents.specs.Verbs.{with_new_incident, open_refusal, incidents_after_open, incidents_after_split}
use Rattle.desk_board.specs.Laws.{own_places}
use Rattle.desk_board.specs.BoardValue.{BoardValue, incidents_in, with_incidents}
use Rattle.desk_board.specs.Consistency.{ConsistentCalls, IsConsistentAt}
use Rattle.desk_board.proofs.PassedChecks.{or_else-None, when-None}
use Rattle.desk_board.proofs.ConsistentCalls.{ConsistentCalls-grow, ConsistentCalls-push, ConsistentCalls-split}
use Rattle.desk_board.proofs.ConsistentCalls.{no_calls}
use Rattle.desk_board.proofs.ConsistentIncidents.{ConsistentIncidents-push, own_id-new, has_incident-push}
use Rattle.desk_board.proofs.ConsistentLinks.{ConsistentLinks-grow}
use Rattle.desk_board.proofs.ConsistentPairs.{ConsistentPairs-grow}
use Rattle.desk_board.proofs.ChangedLists.{none_passes, list_any-last}

-- An identifier that no incident has, and that is the desk's own of the place where it is under the domain.
record IsNewId (board : BoardValue) (place : ℕ) (id : List ℕ) : Type 0 where
  pub fresh : All (λ x. bytes_eq x.id id ≡ false) board.incidents
  pub own : is_under board.domain id ≡ true → id ≡ own_id place board.domain

IsNewId-own : (board : BoardValue) (place : ℕ) → IsLowerDomain board.domain → place < own_places →
    IsConsistentAt place board →
    IsNewId board place (own_id place board.domain)
IsNewId-own board place l m h =
    record { fresh = own_id-new board.domain place board.incidents l m h.incidents; own = λ _. refl }

IsNewId-open : (board : BoardValue) (place : ℕ) (incident : Option (List ℕ)) → IsLowerDomain board.domain →
    place < own_places → IsConsistentAt place board → id_refusal board.domain board.incidents incident ≡ None →
    IsNewId board place (new_id place board.domain incident)
IsNewId-open board place None l m h r = IsNewId-own board place l m h
IsNewId-open board place (Some id) l m h r =
    let parts = or_else-None (when (is_under board.domain id) _) (when (list_any (has_id id) board.incidents) _) r in
    let under : is_under board.domain id ≡ false = when-None _ _ parts.0 in
    record {
      fresh = none_passes (has_id id) board.incidents (when-None _ _ parts.1);
      own = λ t. absurd (both_ways _ under t);
    }

-- an incident of the place goes last, and the calls are these
with_new_incident-consistent : (board : BoardValue) (place : ℕ) (i : Incident) (calls : List HasCall) →
    i.number ≡ place →
    is_unmerged i.state ≡ true → IsNewId board place i.id → ConsistentCalls (board.incidents ++ i ∷ []) calls →
    IsConsistentAt place board →
    IsConsistentAt (place + 1) (with_incidents (with_new_incident i calls (incidents_in board)) board)
with_new_incident-consistent board place i calls e s new c h = record {
  incidents =
      ConsistentIncidents-push board.domain place board.incidents i e s new.fresh (λ t. rw e (new.own t)) h.incidents;
  calls = c;
  links =
      ConsistentLinks-grow board.incidents (board.incidents ++ i ∷ []) board.linked
      (has_incident-push is_unmerged board.incidents i) h.links;
  committed =
      ConsistentPairs-grow board.incidents (board.incidents ++ i ∷ []) board.committed_to
      (has_incident-push is_open board.incidents i) h.committed;
  standing_by =
      ConsistentPairs-grow board.incidents (board.incidents ++ i ∷ []) board.standing_by
      (has_incident-push is_open board.incidents i) h.standing_by;
  elsewhere = h.elsewhere;
  units = h.units;
}

new_calls-consistent : (incidents : List Incident) (i : Incident) (calls : List HasCall) (call : Option (List ℕ)) →
    All (λ x. x.number < i.number) incidents → i.state ≡ states.Open → call_refusal calls call ≡ None →
    ConsistentCalls incidents calls → ConsistentCalls (incidents ++ i ∷ []) (calls ++ new_calls i.number call)
new_calls-consistent incidents i calls None b o r h =
    rw (append-nil calls) (ConsistentCalls-grow incidents (incidents ++ i ∷ []) calls
    (has_incident-push is_unmerged incidents i) h)
new_calls-consistent incidents i calls (Some call) b o r h =
    let none : count_by (is_of i.number) calls ≡ 0 = no_calls i.number incidents calls b h in
    ConsistentCalls-push (incidents ++ i ∷ []) calls i.number call
    (list_any-last (λ x. (x.number == i.number) && is_unmerged x.state) incidents i
    (rw (o, eq-eqb i.number i.number refl) refl))
    (when-None _ _ r) (omega (arith, none)) (ConsistentCalls-grow incidents (incidents ++ i ∷ []) calls
    (has_incident-push is_unmerged incidents i) h)

pub open-consistent : (board : BoardValue) (place : ℕ) (at : ℤ) (kind site : List ℕ) (incident call : Option (List ℕ)) →
    IsLowerDomain board.domain → place < own_places → IsConsistentAt place board →
    open_refusal board.domain incident call (incidents_in board) ≡ None →
    IsConsistentAt (place + 1) (with_incidents (incidents_after_open place board.domain at kind site incident call
    (incidents_in board)) board)
open-consistent board place at kind site incident call l m h r =
    let parts =
    or_else-None (id_refusal board.domain board.incidents incident) (call_refusal board.has_call call) r in
    let i : Incident = new_incident place at kind site (new_id place board.domain incident) in
    with_new_incident-consistent board place i (board.has_call ++ new_calls place call) refl refl
    (IsNewId-open board place incident l m h parts.0)
    (new_calls-consistent board.incidents i board.has_call call h.incidents.below refl parts.1 h.calls) h

pub split-consistent : (board : BoardValue) (place : ℕ) (at : ℤ) (call kind site : List ℕ) →
    IsLowerDomain board.domain → place < own_places → IsConsistentAt place board →
    IsConsistentAt (place + 1) (with_incidents (incidents_after_split place board.domain at call kind site
    (incidents_in board)) board)
split-consistent board place at call kind site l m h =
    let i : Incident = new_incident place at kind site (own_id place board.domain) in
    let more : List Incident = board.incidents ++ i ∷ [] in
    with_new_incident-consistent board place i (update_first (is_call call) (call_of_incident place) board.has_call)
    refl refl (IsNewId-own board place l m h)
    (ConsistentCalls-split more board.has_call place call
    (list_any-last (λ x. (x.number == place) && is_unmerged x.state) board.incidents i
    (rw (eq-eqb place place refl) refl))
    (no_calls place board.incidents board.has_call h.incidents.below h.calls)
    (ConsistentCalls-grow board.incidents more board.has_call (has_incident-push is_unmerged board.incidents i)
    h.calls)) h
