-- A board is consistent after a command that no check refuses.
use Rattle.std.proofs.Common.{◌≡◌, ◌<◌, ◌+◌, ◌||◌, ℕ, List, map, filter, Bool, true, false, not}
use Rattle.std.proofs.Common.{eqb, leb, ltb, Option, Some, None, refl, sym, ap, ◌∙◌, ltb-false, All}
use Rattle.std.proofs.lemmas.Bool.{eqb-false, leb-false}
use Rattle.std.proofs.lemmas.List.Folds.{list_any_none}
use Rattle.std.proofs.lemmas.Slice.Eq.{bytes_eq-Decides}
use Rattle.desk_types.specs.Identifier.{IsLowerDomain}
use Rattle.desk_types.specs.Lists.{update_first}
use Rattle.desk_types.specs.declared.limits.TheConstants.{INCIDENT_CALLS}
use Rattle.desk_types.specs.declared.command.Command.{Command}
use Rattle.desk_types.specs.declared.command.Command.TheVariants.{Open, AddCall, Link, Unlink, Merge, Split, Clear}
use Rattle.desk_types.specs.declared.command.Command.TheVariants.{Reopen, Note, SignOn, SignOff, Assign, SetStatus}
use Rattle.desk_types.specs.declared.command.Command.TheVariants.{Release, StandBy, StandDown, Replace}
use Rattle.desk_types.specs.declared.show.IncidentState.{IncidentState}
use Rattle.desk_types.specs.declared.show.IncidentState.TheVariants as states
use Rattle.desk_incidents.specs.declared.incident.Incident.{Incident}
use Rattle.desk_types.specs.MergedNumber.{number_after_merge}
use Rattle.desk_incidents.specs.Calls.{call_refusal, call_count}
use Rattle.desk_incidents.specs.Checks.{is_open, is_unmerged, has_id, incident_of, number_of, not_known_refusal}
use Rattle.desk_incidents.specs.Checks.{not_open_refusal, same_refusal, in_state, with_note}
use Rattle.desk_incidents.specs.Links.{new_link}
use Rattle.desk_incidents.specs.Verbs.{with_incident, merge_refusal, clear_refusal, link_refusal, incidents_after_link}
use Rattle.desk_units.specs.declared.unit.UnitPair.{UnitPair}
use Rattle.desk_units.specs.Checks.{unit_of, pair_of_unit, is_unit, has_units, is_committed_there}
use Rattle.desk_units.specs.Checks.{not_there_refusal, committed_refusal}
use Rattle.desk_units.specs.Verbs.{units_released, pair_after_merge}
use Rattle.desk_units.proofs.StandBys.{elsewhere-assigned, elsewhere-released, elsewhere-moved, elsewhere-fewer}
use Rattle.desk_units.proofs.MergedStandBys.{elsewhere-merged}
use Rattle.desk_units.proofs.StandBys.{stand_by-single, stand_by-elsewhere, without_passes}
use Rattle.desk_board.specs.Laws.{own_places}
use Rattle.desk_board.specs.BoardValue.{BoardValue, incidents_in, units_in, with_incidents, with_units}
use Rattle.desk_board.specs.Execute.{refusal, effect}
use Rattle.desk_board.specs.Consistency.{has_incident, IsMergedIntoAnother, ConsistentIncidents}
use Rattle.desk_board.specs.Consistency.{ConsistentPairs, IsConsistentAt}
use Rattle.desk_board.specs.Verbs.{committed_id, stand_by_id, units_refusal, board_after_merge, board_after_assign}
use Rattle.desk_board.specs.Verbs.{board_after_stand_by, assign_refusal_on, stand_by_refusal_on}
use Rattle.desk_board.proofs.PassedChecks.{or_else-None, when-None, Found, Found-open, Found-unmerged, open_is_unmerged}
use Rattle.desk_board.proofs.PassedChecks.{has_incident-found, has_incident-update_first, has_incident-other}
use Rattle.desk_board.proofs.ConsistentCalls.{ConsistentCalls-grow, ConsistentCalls-push, ConsistentCalls-merge}
use Rattle.desk_board.proofs.ConsistentPairs.{ConsistentPairs-grow, ConsistentPairs-without}
use Rattle.desk_board.proofs.ConsistentPairs.{ConsistentPairs-push, ConsistentPairs-filter}
use Rattle.desk_board.proofs.ConsistentPairs.{ConsistentPairs-merge, ConsistentPairs-once}
use Rattle.desk_board.proofs.ConsistentIncidents.{IsMergedIntoAnother-unmerged, ConsistentIncidents-later}
use Rattle.desk_board.proofs.ConsistentIncidents.{ConsistentIncidents-update_first, has_incident-merge}
use Rattle.desk_board.proofs.ConsistentLinks.{ConsistentLinks-grow, ConsistentLinks-push, ConsistentLinks-filter}
use Rattle.desk_board.proofs.ConsistentLinks.{ConsistentLinks-merge, new_link-differs, new_link-has_incident}
use Rattle.desk_board.proofs.ConsistentUnits.{ConsistentUnits-push, ConsistentUnits-without, ConsistentUnits-status}
use Rattle.desk_board.proofs.ConsistentUnits.{ConsistentUnits-assign, ConsistentUnits-release, ConsistentUnits-next}
use Rattle.desk_board.proofs.ConsistentUnits.{ConsistentUnits-merge}
use Rattle.desk_board.proofs.ConsistentUnits.{is_there, none_committed, allowed_status}
use Rattle.desk_board.proofs.ChangedLists.{list_any-found, find_passes, none_found, none_passes, All-found}
use Rattle.desk_board.proofs.Openings.{open-consistent, split-consistent}

-- the incidents did not change, and the next place is a later one
later : (place : ℕ) (board : BoardValue) → IsConsistentAt place board →
    ConsistentIncidents board.domain (place + 1) board.incidents
later place board h = ConsistentIncidents-later board.domain place board.incidents h.incidents

neither : (t u : Bool) → (t || u) ≡ false → (t ≡ false) × (u ≡ false)
neither true u h = absurd (cc)
neither false u h = (refl, h)

-- One incident changed that keeps its number and its identifier, and is unmerged still where it was.
with_incident-consistent : (board : BoardValue) (place : ℕ) (test : IncidentState → Bool) (id : List ℕ)
    (f : Found test id board.incidents) (change : Incident → Incident) →
    ((i : Incident) → (change i).number ≡ i.number) → ((i : Incident) → (change i).id ≡ i.id) →
    ((i : Incident) → IsMergedIntoAnother board.incidents i → IsMergedIntoAnother board.incidents (change i)) →
    (is_unmerged f.i.state ≡ true → is_unmerged (change f.i).state ≡ true) →
    ConsistentPairs (update_first (has_id id) change board.incidents) board.committed_to →
    ConsistentPairs (update_first (has_id id) change board.incidents) board.standing_by →
    IsConsistentAt place board →
    IsConsistentAt (place + 1) (with_incidents (with_incident id change (incidents_in board)) board)
with_incident-consistent board place test id f change n e m w committed standing_by h =
    let changed : List Incident = update_first (has_id id) change board.incidents in
    let still : (k : ℕ) → has_incident is_unmerged k board.incidents ≡ true →
    has_incident is_unmerged k changed ≡ true =
    λ k s. has_incident-update_first test is_unmerged k id board.incidents f change (n f.i) w s in
    record {
      incidents = ConsistentIncidents-update_first board.domain place id change board.incidents n e (λ i _ k. m i k)
          h.incidents;
      calls = ConsistentCalls-grow board.incidents changed board.has_call still h.calls;
      links = ConsistentLinks-grow board.incidents changed board.linked still h.links;
      committed = committed;
      standing_by = standing_by;
      elsewhere = h.elsewhere;
      units = h.units;
    }

link-consistent : (board : BoardValue) (place : ℕ) (incident other : List ℕ) → IsConsistentAt place board →
    link_refusal incident other (incidents_in board) ≡ None →
    IsConsistentAt (place + 1) (with_incidents (incidents_after_link incident other (incidents_in board)) board)
link-consistent board place incident other h r =
    let one = or_else-None (not_open_refusal (incident_of incident board.incidents)) _ r in
    let two = or_else-None (not_open_refusal (incident_of other board.incidents)) _ one.1 in
    let three = or_else-None (same_refusal incident other board.incidents) _ two.1 in
    let f : Found is_open incident board.incidents = Found-open incident board.incidents one.0 in
    let g : Found is_open other board.incidents = Found-open other board.incidents two.0 in
    let a : ℕ = number_of incident board.incidents in
    let b : ℕ = number_of other board.incidents in
    let differ : eqb a b ≡ false = when-None _ _ three.0 in
    record {
      incidents = later place board h;
      calls = h.calls;
      links = ConsistentLinks-push board.incidents board.linked (new_link a b)
          (new_link-differs a b (eqb-false _ _ differ))
          (new_link-has_incident board.incidents a b (has_incident-found is_open is_unmerged incident board.incidents f
          open_is_unmerged) (has_incident-found is_open is_unmerged other board.incidents g open_is_unmerged))
          (when-None _ _ three.1) h.links;
      committed = h.committed;
      standing_by = h.standing_by;
      elsewhere = h.elsewhere;
      units = h.units;
    }

-- The incident of one identifier, merged into that of another number.
merged_into_another : (incident into : List ℕ) (incidents : List Incident) → Found is_open into incidents →
    (number_of incident incidents ≡ number_of into incidents → ⊥) → (i : Incident) → has_id incident i ≡ true →
    IsMergedIntoAnother incidents (in_state (states.Merged into) i)
merged_into_another incident into incidents g differ i t other e =
    let same : into ≡ other = cc in
    let mine : i.id ≡ incident = (bytes_eq-Decides i.id incident).0 t in
    rw (← same) (
      (λ k. differ (ap (λ id. number_of id incidents) (sym mine ∙ sym k))),
      list_any-found (has_id into) (has_id into) incidents g.i g.is (find_passes (has_id into) incidents g.i g.is),
    )

merge-consistent : (board : BoardValue) (place : ℕ) (incident into : List ℕ) → IsConsistentAt place board →
    merge_refusal incident into (incidents_in board) ≡ None →
    IsConsistentAt (place + 1) (board_after_merge incident into board)
merge-consistent board place incident into h r =
    let one = or_else-None (not_open_refusal (incident_of incident board.incidents)) _ r in
    let two = or_else-None (not_open_refusal (incident_of into board.incidents)) _ one.1 in
    let three = or_else-None (same_refusal incident into board.incidents) _ two.1 in
    let f : Found is_open incident board.incidents = Found-open incident board.incidents one.0 in
    let g : Found is_open into board.incidents = Found-open into board.incidents two.0 in
    let a : ℕ = number_of incident board.incidents in
    let b : ℕ = number_of into board.incidents in
    let other : eqb a b ≡ false = when-None _ _ three.0 in
    let differ : a ≡ b → ⊥ = eqb-false _ _ other in
    let few : ltb INCIDENT_CALLS (call_count a board.has_call + call_count b board.has_call) ≡ false =
    when-None _ _ three.1 in
    let changed : List Incident = update_first (has_id incident) (in_state (states.Merged into)) board.incidents in
    let others : (test : IncidentState → Bool) (n : ℕ) → (a ≡ n → ⊥) → has_incident test n board.incidents ≡ true →
    has_incident test n changed ≡ true =
    λ test n e k. has_incident-other is_open test n incident board.incidents f (in_state (states.Merged into))
    (λ s. e (f.number_is ∙ s)) k in
    let unmerged : (n : ℕ) → has_incident is_unmerged n board.incidents ≡ true →
    has_incident is_unmerged (number_after_merge a b n) changed ≡ true =
    has_incident-merge is_unmerged a b board.incidents changed
    (others is_unmerged b differ (has_incident-found is_open is_unmerged into board.incidents g open_is_unmerged))
    (others is_unmerged) in
    let open_still : (n : ℕ) → has_incident is_open n board.incidents ≡ true →
    has_incident is_open (number_after_merge a b n) changed ≡ true =
    has_incident-merge is_open a b board.incidents changed
    (others is_open b differ (has_incident-found is_open is_open into board.incidents g (λ s k. k)))
    (others is_open) in
    record {
      incidents =
          ConsistentIncidents-update_first board.domain place incident (in_state (states.Merged into)) board.incidents
          (λ i. refl) (λ i. refl) (λ i t _. merged_into_another incident into board.incidents g differ i t)
          h.incidents;
      calls = ConsistentCalls-merge a b board.incidents changed board.has_call unmerged (ltb-false _ _ few) h.calls;
      links = ConsistentLinks-merge a b board.incidents changed board.linked unmerged h.links;
      committed = ConsistentPairs-merge a b board.incidents changed board.committed_to open_still h.committed;
      standing_by =
          ConsistentPairs-filter changed (map (pair_after_merge a b) board.standing_by)
          (λ p. not (is_committed_there (map (pair_after_merge a b) board.committed_to) p))
          (ConsistentPairs-merge a b board.incidents changed board.standing_by open_still h.standing_by);
      elsewhere = elsewhere-merged a b board.committed_to board.standing_by h.elsewhere;
      units = ConsistentUnits-merge a b board.units board.committed_to h.units;
    }

assign-consistent : (board : BoardValue) (place : ℕ) (unit incident : List ℕ) → IsConsistentAt place board →
    assign_refusal_on unit incident board ≡ None → IsConsistentAt (place + 1) (board_after_assign unit incident board)
assign-consistent board place unit incident h r =
    let one = or_else-None (not_there_refusal (unit_of unit board.units)) _ r in
    let two = or_else-None (not_open_refusal (incident_of incident board.incidents)) _ one.1 in
    let three = or_else-None (not_there_refusal (unit_of unit board.units)) _ two.1 in
    let four = or_else-None (committed_refusal (committed_id unit board) (pair_of_unit unit board.committed_to)) _
    three.1 in
    let f : Found is_open incident board.incidents = Found-open incident board.incidents two.0 in
    record {
      incidents = later place board h;
      calls = h.calls;
      links = h.links;
      committed = ConsistentPairs-push board.incidents board.committed_to (number_of incident board.incidents)
          unit
          (none_committed unit (committed_id unit board) board.committed_to (pair_of_unit unit board.committed_to)
          refl four.0)
          (has_incident-found is_open is_open incident board.incidents f (λ s k. k)) h.committed;
      standing_by = h.standing_by;
      elsewhere = elsewhere-assigned board.committed_to board.standing_by unit (number_of incident board.incidents)
          (list_any_none (is_unit unit) board.committed_to (none_committed unit (committed_id unit board)
          board.committed_to (pair_of_unit unit board.committed_to) refl four.0)) h.elsewhere;
      units = ConsistentUnits-assign board.units board.committed_to unit (number_of incident board.incidents)
          (is_there unit board.units one.0) h.units;
    }

-- A unit is released, by what it stands by for.
release-consistent : (board : BoardValue) (place : ℕ) (unit : List ℕ) (o : Option UnitPair) →
    pair_of_unit unit board.standing_by ≡ o → IsConsistentAt place board →
    not_there_refusal (unit_of unit board.units) ≡ None →
    IsConsistentAt (place + 1) (with_units (units_released o unit (units_in board)) board)
release-consistent board place unit None e h r = record {
  incidents = later place board h;
  calls = h.calls;
  links = h.links;
  committed = ConsistentPairs-filter board.incidents board.committed_to (λ p. not (is_unit unit p)) h.committed;
  standing_by = h.standing_by;
  elsewhere = elsewhere-released board.committed_to board.standing_by unit
      (list_any_none (is_unit unit) board.standing_by (none_found (is_unit unit) board.standing_by e)) h.elsewhere;
  units = ConsistentUnits-release board.units board.committed_to unit h.units;
}
release-consistent board place unit (Some p) e h r =
    let left : List UnitPair = filter (λ q. not (is_unit unit q)) board.committed_to in
    let none : All (λ q. is_unit unit q ≡ false) left = without_passes (is_unit unit) board.committed_to in
    let there : has_incident is_open p.incident board.incidents ≡ true =
    All-found (λ q. has_incident is_open q.incident board.incidents ≡ true) (is_unit unit) board.standing_by p e
    h.standing_by.at_open in
    record {
      incidents = later place board h;
      calls = h.calls;
      links = h.links;
      committed = ConsistentPairs-push board.incidents left p.incident unit none there
          (ConsistentPairs-filter board.incidents board.committed_to (λ q. not (is_unit unit q)) h.committed);
      standing_by = ConsistentPairs-filter board.incidents board.standing_by (λ q. not (is_unit unit q))
          h.standing_by;
      elsewhere = elsewhere-moved board.committed_to board.standing_by unit p.incident h.elsewhere;
      units = ConsistentUnits-next board.units board.committed_to unit p.incident (is_there unit board.units r)
          h.units;
    }

stand_by-consistent : (board : BoardValue) (place : ℕ) (unit incident : List ℕ) → IsConsistentAt place board →
    stand_by_refusal_on unit incident board ≡ None →
    IsConsistentAt (place + 1) (board_after_stand_by unit incident board)
stand_by-consistent board place unit incident h r =
    let one = or_else-None (not_there_refusal (unit_of unit board.units)) _ r in
    let two = or_else-None (not_open_refusal (incident_of incident board.incidents)) _ one.1 in
    let f : Found is_open incident board.incidents = Found-open incident board.incidents two.0 in
    let number : ℕ = number_of incident board.incidents in
    let single : All (λ p. is_unit unit p ≡ false) board.standing_by =
    none_passes (is_unit unit) board.standing_by
    (stand_by-single unit number (stand_by_id unit board) (units_in board) two.1) in
    record {
      incidents = later place board h;
      calls = h.calls;
      links = h.links;
      committed = h.committed;
      standing_by = ConsistentPairs-push board.incidents board.standing_by number unit single
          (has_incident-found is_open is_open incident board.incidents f (λ s k. k)) h.standing_by;
      elsewhere = stand_by-elsewhere unit number (stand_by_id unit board) (units_in board) two.1
          (ConsistentPairs-once unit board.committed_to h.committed.differ) h.elsewhere;
      units = h.units;
    }

pub effect-consistent : (board : BoardValue) (place : ℕ) (c : Command) → IsLowerDomain board.domain →
    place < own_places →
    IsConsistentAt place board → refusal board c ≡ None → IsConsistentAt (place + 1) (effect place board c)
unfolding refusal effect
effect-consistent board place (Open at kind site incident call) l m h r =
    open-consistent board place at kind site incident call l m h r
effect-consistent board place (AddCall at incident call) l m h r =
    let one = or_else-None (not_open_refusal (incident_of incident board.incidents)) _ r in
    let two = or_else-None (call_refusal board.has_call (Some call)) _ one.1 in
    let f : Found is_open incident board.incidents = Found-open incident board.incidents one.0 in
    let few : leb INCIDENT_CALLS (call_count (number_of incident board.incidents) board.has_call) ≡ false =
    when-None _ _ two.1 in
    record {
      incidents = later place board h;
      calls = ConsistentCalls-push board.incidents board.has_call (number_of incident board.incidents) call
          (has_incident-found is_open is_unmerged incident board.incidents f open_is_unmerged) (when-None _ _ two.0)
          (leb-false _ _ few) h.calls;
      links = h.links;
      committed = h.committed;
      standing_by = h.standing_by;
      elsewhere = h.elsewhere;
      units = h.units;
    }
effect-consistent board place (Link at incident other) l m h r = link-consistent board place incident other h r
effect-consistent board place (Unlink at incident other) l m h r = record {
  incidents = later place board h;
  calls = h.calls;
  links = ConsistentLinks-filter board.incidents board.linked _ h.links;
  committed = h.committed;
  standing_by = h.standing_by;
  elsewhere = h.elsewhere;
  units = h.units;
}
effect-consistent board place (Merge at incident into) l m h r = merge-consistent board place incident into h r
effect-consistent board place (Split at incident call kind site) l m h r =
    split-consistent board place at call kind site l m h
effect-consistent board place (Clear at incident) l m h r =
    let passed =
    or_else-None (clear_refusal incident (incidents_in board)) (units_refusal incident board) r in
    let f : Found is_open incident board.incidents = Found-open incident board.incidents passed.0 in
    let number : ℕ = number_of incident board.incidents in
    let free : (has_units number board.committed_to ≡ false) × (has_units number board.standing_by ≡ false) =
    neither _ _ (when-None _ _ passed.1) in
    let others : (n : ℕ) → (number ≡ n → ⊥) → has_incident is_open n board.incidents ≡ true →
    has_incident is_open n (update_first (has_id incident) (in_state states.Cleared) board.incidents) ≡ true =
    λ n other k. has_incident-other is_open is_open n incident board.incidents f (in_state states.Cleared)
    (λ s. other (f.number_is ∙ s)) k in
    with_incident-consistent board place is_open incident f (in_state states.Cleared) (λ i. refl) (λ i. refl)
    (λ i _. IsMergedIntoAnother-unmerged board.incidents (in_state states.Cleared i) refl) (λ _. refl)
    (ConsistentPairs-without number board.incidents _ board.committed_to free.0 others h.committed)
    (ConsistentPairs-without number board.incidents _ board.standing_by free.1 others h.standing_by) h
effect-consistent board place (Reopen at incident) l m h r =
    let one = or_else-None (not_known_refusal (incident_of incident board.incidents)) _ r in
    let f : Found is_unmerged incident board.incidents = Found-unmerged incident board.incidents one.0 in
    let still : (n : ℕ) → has_incident is_open n board.incidents ≡ true →
    has_incident is_open n (update_first (has_id incident) (in_state states.Open) board.incidents) ≡ true =
    λ n k. has_incident-update_first is_unmerged is_open n incident board.incidents f (in_state states.Open) refl
    (λ _. refl) k in
    with_incident-consistent board place is_unmerged incident f (in_state states.Open) (λ i. refl) (λ i. refl)
    (λ i _. IsMergedIntoAnother-unmerged board.incidents (in_state states.Open i) refl) (λ _. refl)
    (ConsistentPairs-grow board.incidents _ board.committed_to still h.committed)
    (ConsistentPairs-grow board.incidents _ board.standing_by still h.standing_by) h
effect-consistent board place (Note at incident text) l m h r =
    let f : Found is_unmerged incident board.incidents = Found-unmerged incident board.incidents r in
    let still : (n : ℕ) → has_incident is_open n board.incidents ≡ true →
    has_incident is_open n (update_first (has_id incident) (with_note text) board.incidents) ≡ true =
    λ n k. has_incident-update_first is_unmerged is_open n incident board.incidents f (with_note text) refl (λ s. s)
    k in
    with_incident-consistent board place is_unmerged incident f (with_note text) (λ i. refl) (λ i. refl) (λ i k. k)
    (λ k. k)
    (ConsistentPairs-grow board.incidents _ board.committed_to still h.committed)
    (ConsistentPairs-grow board.incidents _ board.standing_by still h.standing_by) h
effect-consistent board place (SignOn at unit) l m h r = record {
  incidents = later place board h;
  calls = h.calls;
  links = h.links;
  committed = h.committed;
  standing_by = h.standing_by;
  elsewhere = h.elsewhere;
  units = ConsistentUnits-push board.units board.committed_to unit (when-None _ _ r) h.units;
}
effect-consistent board place (SignOff at unit) l m h r =
    let one = or_else-None (not_there_refusal (unit_of unit board.units)) _ r in
    record {
      incidents = later place board h;
      calls = h.calls;
      links = h.links;
      committed = h.committed;
      standing_by = h.standing_by;
      elsewhere = h.elsewhere;
      units = ConsistentUnits-without board.units board.committed_to unit
          (none_committed unit (committed_id unit board) board.committed_to (pair_of_unit unit board.committed_to)
          refl one.1) h.units;
    }
effect-consistent board place (Assign at unit incident) l m h r = assign-consistent board place unit incident h r
effect-consistent board place (SetStatus at unit status) l m h r = record {
  incidents = later place board h;
  calls = h.calls;
  links = h.links;
  committed = h.committed;
  standing_by = h.standing_by;
  elsewhere = h.elsewhere;
  units = ConsistentUnits-status board.units board.committed_to unit status
      (allowed_status unit board.units board.committed_to status r) h.units;
}
effect-consistent board place (Release at unit) l m h r =
    release-consistent board place unit (pair_of_unit unit board.standing_by) refl h
    (or_else-None (not_there_refusal (unit_of unit board.units)) _ r).0
effect-consistent board place (StandBy at unit incident) l m h r =
    stand_by-consistent board place unit incident h r
effect-consistent board place (StandDown at unit) l m h r = record {
  incidents = later place board h;
  calls = h.calls;
  links = h.links;
  committed = h.committed;
  standing_by = ConsistentPairs-filter board.incidents board.standing_by (λ p. not (is_unit unit p)) h.standing_by;
  elsewhere = elsewhere-fewer board.committed_to board.standing_by (λ p. not (is_unit unit p)) h.elsewhere;
  units = h.units;
}
effect-consistent board place (Replace at node token) l m h r = record {
  incidents = later place board h;
  calls = h.calls;
  links = h.links;
  committed = h.committed;
  standing_by = h.standing_by;
  elsewhere = h.elsewhere;
  units = h.units;
}
