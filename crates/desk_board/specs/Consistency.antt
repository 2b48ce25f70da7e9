-- What is true of each board.
use Rattle.std.specs.Prelude.{◌≡◌, ◌≢◌, ◌<◌, ◌≤◌, ℕ, List, Bool, true, false, ◌&&◌, ◌==◌, ◌+◌, All, AllPairs}
use Rattle.std.specs.List.{list_any}
use Rattle.std.specs.Str.{bytes_eq}
use Rattle.desk_types.specs.Identifier.{own_id, is_under}
use Rattle.desk_types.specs.declared.limits.TheConstants.{INCIDENT_CALLS}
use Rattle.desk_types.specs.declared.show.IncidentState.{IncidentState}
use Rattle.desk_types.specs.declared.show.IncidentState.TheVariants as states
use Rattle.desk_incidents.specs.declared.incident.HasCall.{HasCall}
use Rattle.desk_incidents.specs.declared.incident.Incident.{Incident}
use Rattle.desk_incidents.specs.declared.incident.Linked.{Linked}
use Rattle.desk_incidents.specs.Checks.{is_open, is_unmerged, has_id}
use Rattle.desk_incidents.specs.Calls.{call_count}
use Rattle.desk_incidents.specs.Links.{same_link}
use Rattle.desk_units.specs.declared.unit.UnitPair.{UnitPair}
use Rattle.desk_units.specs.declared.unit.Unit.{Unit}
use Rattle.desk_units.specs.Checks.{has_name, is_unit, is_at_work}
use Rattle.desk_units.specs.StandBys.{AreElsewhere}
use Rattle.desk_board.specs.BoardValue.{BoardValue}

-- whether there is an incident of this number, in a state that passes a test
abbrev pub has_incident : (IncidentState → Bool) → ℕ → List Incident → Bool
has_incident test number incidents = list_any (λ i. (i.number == number) && test i.state) incidents

-- There is an open incident of this number.
abbrev pub IsOpenIn : List Incident → ℕ → Type 0
IsOpenIn incidents number = has_incident is_open number incidents ≡ true

-- There is an incident of this number that is not merged.
abbrev pub IsUnmergedIn : List Incident → ℕ → Type 0
IsUnmergedIn incidents number = has_incident is_unmerged number incidents ≡ true

-- Where the incident is merged, it is merged into another one of these.
abbrev pub IsMergedIntoAnother : List Incident → Incident → Type 0
IsMergedIntoAnother incidents i =
    (into : List ℕ) → i.state ≡ states.Merged into → (into ≢ i.id) × (list_any (has_id into) incidents ≡ true)

-- Of incidents where the next entry has a place.
pub record ConsistentIncidents (domain : List ℕ) (place : ℕ) (incidents : List Incident) : Type 0 where
  -- numbers rise
  pub rising : AllPairs (λ i j. i.number < j.number) incidents
  -- numbers are places of earlier entries
  pub below : All (λ i. i.number < place) incidents
  -- identifiers are all different
  pub differ : AllPairs (λ i j. bytes_eq i.id j.id ≡ false) incidents
  -- an identifier under the desk's domain is the desk's own of the incident's number
  pub own : All (λ i. is_under domain i.id ≡ true → i.id ≡ own_id i.number domain) incidents
  -- what is merged is merged into another one
  pub merged : All (IsMergedIntoAnother incidents) incidents

-- Of calls, beside the incidents.
pub record ConsistentCalls (incidents : List Incident) (has_call : List HasCall) : Type 0 where
  -- each call is there once
  pub differ : AllPairs (λ g h. bytes_eq g.call h.call ≡ false) has_call
  -- its incident is on the board, and is not merged
  pub on_board : All (λ h. IsUnmergedIn incidents h.incident) has_call
  -- an incident has no more calls than it may have
  pub most : (number : ℕ) → call_count number has_call ≤ INCIDENT_CALLS

-- Of links, beside the incidents.
pub record ConsistentLinks (incidents : List Incident) (linked : List Linked) : Type 0 where
  -- each link is there once
  pub differ : AllPairs (λ l m. same_link l m ≡ false) linked
  -- the smaller number is first
  pub ordered : All (λ l. l.incident < l.other) linked
  -- both incidents are on the board, and are not merged
  pub on_board : All (λ l. IsUnmergedIn incidents l.incident × IsUnmergedIn incidents l.other) linked

-- Of pairs of units and incidents, beside the incidents.
pub record ConsistentPairs (incidents : List Incident) (pairs : List UnitPair) : Type 0 where
  -- each unit is there once
  pub differ : AllPairs (λ p q. bytes_eq p.unit q.unit ≡ false) pairs
  -- its incident is on the board, and is open
  pub at_open : All (λ p. IsOpenIn incidents p.incident) pairs

-- Of units, beside the commitments.
pub record ConsistentUnits (units : List Unit) (committed_to : List UnitPair) : Type 0 where
  -- each name is there once
  pub differ : AllPairs (λ u v. bytes_eq u.name v.name ≡ false) units
  -- who is committed is signed on
  pub signed_on : All (λ p. list_any (has_name p.unit) units ≡ true) committed_to
  -- who is committed, and no other, is in a status on the way of a committed unit
  pub at_work : All (λ u. is_at_work u.status ≡ list_any (is_unit u.name) committed_to) units

-- Of a board where the next entry has a place.
pub record IsConsistentAt (place : ℕ) (board : BoardValue) : Type 0 where
  pub incidents : ConsistentIncidents board.domain place board.incidents
  pub calls : ConsistentCalls board.incidents board.has_call
  pub links : ConsistentLinks board.incidents board.linked
  pub committed : ConsistentPairs board.incidents board.committed_to
  pub standing_by : ConsistentPairs board.incidents board.standing_by
  -- who stands by is committed, and to another incident
  pub elsewhere : AreElsewhere board.committed_to board.standing_by
  pub units : ConsistentUnits board.units board.committed_to

-- The next entry of a board has the place after its count.
abbrev pub IsConsistent : BoardValue → Type 0
IsConsistent board = IsConsistentAt (board.count + 1) board

-- An incident of this number is on the board, and is open.
abbrev pub IsOpenOn : BoardValue → ℕ → Type 0
IsOpenOn board number = IsOpenIn board.incidents number

-- An incident of this number is on the board, and is not merged.
abbrev pub IsUnmergedOn : BoardValue → ℕ → Type 0
IsUnmergedOn board number = IsUnmergedIn board.incidents number

-- The incident is merged into another.
abbrev pub IsMerged : Incident → Type 0
IsMerged i = is_unmerged i.state ≡ false

-- A unit of this name is signed on.
abbrev pub IsSignedOn : BoardValue → List ℕ → Type 0
IsSignedOn board name = list_any (has_name name) board.units ≡ true

-- The unit of this name is committed to an incident.
abbrev pub IsCommittedOn : BoardValue → List ℕ → Type 0
IsCommittedOn board name = list_any (is_unit name) board.committed_to ≡ true
