-- What checks that passed say.
use Rattle.std.proofs.Common.{◌≡◌, ℕ, List, Bool, true, false, ◌&&◌, ◌==◌, Option, Some, None, refl, ap, eqb-true}
use Rattle.std.specs.List.{find}
use Rattle.std.specs.Option.{option_map_or}
use Rattle.std.proofs.lemmas.Bool.{and_from, and_parts, eq-eqb, false≢true}
use Rattle.desk_types.specs.Checks.{◌or_else◌, when}
use Rattle.desk_types.specs.Lists.{update_first}
use Rattle.desk_types.specs.declared.refusal.Refusal.{Refusal}
use Rattle.desk_types.specs.declared.show.IncidentState.{IncidentState}
use Rattle.desk_types.specs.declared.show.IncidentState.TheVariants as states
use Rattle.desk_incidents.specs.declared.incident.Incident.{Incident}
use Rattle.desk_incidents.specs.Checks.{is_open, is_unmerged, has_id, incident_of, number_of, merged_refusal}
use Rattle.desk_incidents.specs.Checks.{state_refusal, not_known_refusal, not_open_refusal}
use Rattle.desk_board.specs.Consistency.{has_incident}
use Rattle.desk_board.proofs.ChangedLists.{list_any-found, list_any-update_first}

pub or_else-None : (a b : Option Refusal) → (a or_else b) ≡ None → (a ≡ None) × (b ≡ None)
or_else-None None b h = (refl, h)
or_else-None (Some r) b h = absurd (cc)

pub when-None : (t : Bool) (r : Refusal) → when t r ≡ None → t ≡ false
when-None true r h = absurd (cc)
when-None false r h = refl

-- The incident of an identifier is there, in a state that passes a test.
pub record Found (test : IncidentState → Bool) (id : List ℕ) (incidents : List Incident) : Type 0 where
  pub i : Incident
  pub is : find (has_id id) incidents ≡ Some i
  pub number_is : number_of id incidents ≡ i.number
  pub state : test i.state ≡ true

open_state : (s : IncidentState) → state_refusal s ≡ None → is_open s ≡ true
open_state states.Open h = refl
open_state states.Cleared h = absurd (cc)
open_state (states.Merged into) h = absurd (cc)

unmerged_state : (s : IncidentState) → merged_refusal s ≡ None → is_unmerged s ≡ true
unmerged_state states.Open h = refl
unmerged_state states.Cleared h = refl
unmerged_state (states.Merged into) h = absurd (cc)

pub open_is_unmerged : (s : IncidentState) → is_open s ≡ true → is_unmerged s ≡ true
open_is_unmerged states.Open h = refl
open_is_unmerged states.Cleared h = refl
open_is_unmerged (states.Merged into) h = absurd (false≢true h)

open_case : (id : List ℕ) (incidents : List Incident) (o : Option Incident) → incident_of id incidents ≡ o →
    not_open_refusal o ≡ None → Found is_open id incidents
open_case id incidents None e h = absurd (cc)
open_case id incidents (Some i) e h = record {
  i = i;
  is = e;
  number_is = ap (λ o. option_map_or (λ (j : Incident). j.number) o 0) e;
  state = open_state i.state h;
}

unmerged_case : (id : List ℕ) (incidents : List Incident) (o : Option Incident) → incident_of id incidents ≡ o →
    not_known_refusal o ≡ None → Found is_unmerged id incidents
unmerged_case id incidents None e h = absurd (cc)
unmerged_case id incidents (Some i) e h = record {
  i = i;
  is = e;
  number_is = ap (λ o. option_map_or (λ (j : Incident). j.number) o 0) e;
  state = unmerged_state i.state h;
}

pub Found-open : (id : List ℕ) (incidents : List Incident) → not_open_refusal (incident_of id incidents) ≡ None →
    Found is_open id incidents
Found-open id incidents h = open_case id incidents (incident_of id incidents) refl h

pub Found-unmerged : (id : List ℕ) (incidents : List Incident) →
    not_known_refusal (incident_of id incidents) ≡ None → Found is_unmerged id incidents
Found-unmerged id incidents h = unmerged_case id incidents (incident_of id incidents) refl h

-- The incident found stands.
pub has_incident-found : (test other : IncidentState → Bool) (id : List ℕ) (incidents : List Incident)
    (f : Found test id incidents) → ((s : IncidentState) → test s ≡ true → other s ≡ true) →
    has_incident other (number_of id incidents) incidents ≡ true
has_incident-found test other id incidents f w =
    rw f.number_is (list_any-found (has_id id) (λ i. (i.number == f.i.number) && other i.state) incidents f.i f.is
    (and_from (f.i.number == f.i.number) (other f.i.state) (eq-eqb f.i.number f.i.number refl) (w f.i.state f.state)))

-- A change of the incident found that keeps its number, into a state that passes: whatever number stood there stands
-- there still.
pub has_incident-update_first : (test other : IncidentState → Bool) (n : ℕ) (id : List ℕ) (incidents : List Incident)
    (found : Found test id incidents) (f : Incident → Incident) → (f found.i).number ≡ found.i.number →
    (other found.i.state ≡ true → other (f found.i).state ≡ true) →
    has_incident other n incidents ≡ true → has_incident other n (update_first (has_id id) f incidents) ≡ true
has_incident-update_first test other n id incidents found f same passes h =
    list_any-update_first (has_id id) (λ x. (x.number == n) && other x.state) f incidents found.i found.is (λ k.
    let parts : ((found.i.number == n) ≡ true) × (other found.i.state ≡ true) = and_parts _ _ k in
    and_from ((f found.i).number == n) (other (f found.i).state) (rw same parts.0) (passes parts.1)) h

-- Another number stands there still, whatever the change.
pub has_incident-other : (test other : IncidentState → Bool) (n : ℕ) (id : List ℕ) (incidents : List Incident)
    (found : Found test id incidents) (f : Incident → Incident) → (found.i.number ≡ n → ⊥) →
    has_incident other n incidents ≡ true → has_incident other n (update_first (has_id id) f incidents) ≡ true
has_incident-other test other n id incidents found f differs h =
    list_any-update_first (has_id id) (λ x. (x.number == n) && other x.state) f incidents found.i found.is (λ k.
    let parts : ((found.i.number == n) ≡ true) × (other found.i.state ≡ true) = and_parts _ _ k in
    absurd (differs (eqb-true _ _ parts.0))) h
