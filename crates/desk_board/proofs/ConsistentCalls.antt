-- What is true of calls after each change.
use Rattle.std.proofs.Common.{◌≡◌, ◌≤◌, ◌<◌, ◌+◌, ◌⊎◌, inl, inr, ℕ, List, [], ◌∷◌, ◌++◌, map, Bool, true, false, ◌==◌}
use Rattle.std.proofs.Common.{cond, arith, refl, sym, ap, ◌∙◌, eqb, eqb-true}
use Rattle.std.specs.List.{All}
use Rattle.std.proofs.lemmas.List.Elements.{All-weaker, All-push, All-map}
use Rattle.std.specs.List.{list_any, count_by}
use Rattle.std.specs.Str.{bytes_eq}
use Rattle.std.proofs.lemmas.Bool.{ne_eqb, eq-eqb, cases_eq}
use Rattle.desk_types.specs.Lists.{update_first}
use Rattle.desk_types.specs.declared.limits.TheConstants.{INCIDENT_CALLS}
use Rattle.desk_incidents.specs.declared.incident.HasCall.{HasCall}
use Rattle.desk_incidents.specs.declared.incident.Incident.{Incident}
use Rattle.desk_types.specs.MergedNumber.{number_after_merge}
use Rattle.desk_incidents.specs.Calls.{is_call, is_of, call_after_merge, call_of_incident}
use Rattle.desk_incidents.specs.Checks.{is_unmerged}
use Rattle.desk_board.specs.Consistency.{has_incident, ConsistentCalls}
use Rattle.desk_board.proofs.ConsistentIncidents.{has_incident-below}
use Rattle.desk_board.proofs.ChangedLists.{AllPairs-push, AllPairs-map, All-update_first}
use Rattle.desk_board.proofs.ChangedLists.{AllPairs-update_first, none_passes}
use Rattle.desk_board.proofs.ChangedLists.{count_by-push, count_by-none, count_by-one_of, count_by-less, count_by-map}
use Rattle.desk_board.proofs.ChangedLists.{count_by-update_first, count_by-update_first-none}

-- Incidents may change where those that are there, and are not merged, are so still.
pub ConsistentCalls-grow : (incidents changed : List Incident) (calls : List HasCall) →
    ((n : ℕ) → has_incident is_unmerged n incidents ≡ true → has_incident is_unmerged n changed ≡ true) →
    ConsistentCalls incidents calls → ConsistentCalls changed calls
ConsistentCalls-grow incidents changed calls w h = record {
  differ = h.differ;
  on_board =
      All-weaker (λ c. has_incident is_unmerged c.incident incidents ≡ true) (λ c. has_incident is_unmerged c.incident
      changed ≡ true) (λ c k. w c.incident k) calls h.on_board;
  most = h.most;
}

-- No call is of an incident that is not opened yet.
pub no_calls : (place : ℕ) (incidents : List Incident) (calls : List HasCall) →
    All (λ i. i.number < place) incidents → ConsistentCalls incidents calls → count_by (is_of place) calls ≡ 0
no_calls place incidents calls b h =
    count_by-none (is_of place) calls (All-weaker (λ c. has_incident is_unmerged c.incident incidents ≡ true)
    (λ c. is_of place c ≡ false)
    (λ c k. ne_eqb _ _ (λ e. omega (arith, e, has_incident-below is_unmerged c.incident place incidents b k))) calls
    h.on_board)

one_more : (t : Bool) (m : ℕ) → (t ≡ true → m < INCIDENT_CALLS) → m ≤ INCIDENT_CALLS → m + cond t 1 0 ≤ INCIDENT_CALLS
one_more true m w h = omega (arith, w refl)
one_more false m w h = omega (arith, h)

-- one more call of an incident that is there and has fewer calls than it may have
pub ConsistentCalls-push : (incidents : List Incident) (calls : List HasCall) (n : ℕ) (call : List ℕ) →
    has_incident is_unmerged n incidents ≡ true → list_any (is_call call) calls ≡ false →
    count_by (is_of n) calls < INCIDENT_CALLS →
    ConsistentCalls incidents calls → ConsistentCalls incidents (calls ++ record { incident = n; call = call } ∷ [])
ConsistentCalls-push incidents calls n call s t m h = record {
  differ = AllPairs-push (λ g k. bytes_eq g.call k.call ≡ false) calls _ h.differ (none_passes (is_call call) calls t);
  on_board = All-push (λ c. has_incident is_unmerged c.incident incidents ≡ true) calls _ h.on_board s;
  most = λ k. rw (count_by-push (is_of k) calls (record { incident = n; call = call }))
      (one_more (n == k) (count_by (is_of k) calls) (λ e. let same : n ≡ k = eqb-true _ _ e in
      rw (← same) m) (h.most k));
}

-- A call given to an incident that has none.
pub ConsistentCalls-split : (incidents : List Incident) (calls : List HasCall) (n : ℕ) (call : List ℕ) →
    has_incident is_unmerged n incidents ≡ true → count_by (is_of n) calls ≡ 0 →
    ConsistentCalls incidents calls → ConsistentCalls incidents (update_first (is_call call) (call_of_incident n) calls)
ConsistentCalls-split incidents calls n call s none h = record {
  differ =
      AllPairs-update_first (λ g k. bytes_eq g.call k.call ≡ false) (is_call call) (call_of_incident n) (λ x y r. r)
      (λ x y r. r) calls h.differ;
  on_board =
      All-update_first (λ c. has_incident is_unmerged c.incident incidents ≡ true) (is_call call) (call_of_incident n)
      (λ x _ k. s) calls h.on_board;
  most = λ k. by_number k (cases_eq n k);
}
  where
    by_number : (k : ℕ) → (n ≡ k) ⊎ (n ≡ k → ⊥) →
        count_by (is_of k) (update_first (is_call call) (call_of_incident n) calls) ≤ INCIDENT_CALLS
    by_number k (inl e) =
        omega (
          arith,
          count_by-update_first (is_of k) (is_call call) (call_of_incident n) calls,
          ap
              (λ m. count_by (is_of m) calls) (sym e) ∙ none,
        )
    by_number k (inr e) =
        omega (
          arith,
          count_by-update_first-none (is_of k) (is_call call) (call_of_incident n) (λ x. ne_eqb n k e)
              calls,
          h.most k,
        )

-- what is moved from one incident to another

moved_case : (t : Bool) (a b x n : ℕ) → eqb x a ≡ t → eqb (cond t b x) n ≡ true → ((x ≡ a) × (b ≡ n)) ⊎ (x ≡ n)
moved_case true a b x n e h = inl (eqb-true _ _ e, eqb-true _ _ h)
moved_case false a b x n e h = inr (eqb-true _ _ h)

moved_is : (a b x n : ℕ) → eqb (number_after_merge a b x) n ≡ true → ((x ≡ a) × (b ≡ n)) ⊎ (x ≡ n)
moved_is a b x n h = moved_case (eqb x a) a b x n refl h

-- Calls moved to an incident that with them has no more calls than it may have.
pub ConsistentCalls-merge : (a b : ℕ) (incidents changed : List Incident) (calls : List HasCall) →
    ((n : ℕ) → has_incident is_unmerged n incidents ≡ true →
    has_incident is_unmerged (number_after_merge a b n) changed ≡ true) →
    count_by (is_of a) calls + count_by (is_of b) calls ≤ INCIDENT_CALLS →
    ConsistentCalls incidents calls → ConsistentCalls changed (map (call_after_merge a b) calls)
ConsistentCalls-merge a b incidents changed calls w m h = record {
  differ = AllPairs-map (λ g k. bytes_eq g.call k.call ≡ false) (call_after_merge a b) calls h.differ;
  on_board =
      All-map (λ c. has_incident is_unmerged c.incident changed ≡ true) (call_after_merge a b) calls
      (All-weaker (λ c. has_incident is_unmerged c.incident incidents ≡ true)
      (λ c. has_incident is_unmerged (number_after_merge a b c.incident) changed ≡ true) (λ c k. w c.incident k) calls
      h.on_board);
  most = λ k. rw (count_by-map (is_of k) (call_after_merge a b) calls) (by_number k (cases_eq b k));
}
  where
    by_number : (k : ℕ) → (b ≡ k) ⊎ (b ≡ k → ⊥) →
        count_by (λ (c : HasCall). is_of k (call_after_merge a b c)) calls ≤ INCIDENT_CALLS
    by_number k (inl e) =
        rw (← e) (omega (
          arith,
          m,
          count_by-one_of (λ (c : HasCall). is_of b (call_after_merge a b c)) (is_of a)
              (is_of b) (λ c t. either c (moved_is a b c.incident b t)) calls,
        ))
      where
        either : (c : HasCall) → ((c.incident ≡ a) × (b ≡ b)) ⊎ (c.incident ≡ b) →
            (is_of a c ≡ true) ⊎ (is_of b c ≡ true)
        either c (inl h) = inl (eq-eqb _ _ h.0)
        either c (inr h) = inr (eq-eqb _ _ h)
    by_number k (inr e) =
        omega (
          arith,
          h.most k,
          count_by-less (λ (c : HasCall). is_of k (call_after_merge a b c)) (is_of k)
              (λ c t. only c (moved_is a b c.incident k t)) calls,
        )
      where
        only : (c : HasCall) → ((c.incident ≡ a) × (b ≡ k)) ⊎ (c.incident ≡ k) → is_of k c ≡ true
        only c (inl h) = absurd (e h.1)
        only c (inr h) = eq-eqb _ _ h
