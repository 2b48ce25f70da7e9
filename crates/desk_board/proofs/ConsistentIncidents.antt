-- What is true of incidents after each change.
use Rattle.std.proofs.Common.{◌≡◌, ◌<◌, ◌+◌, ℕ, List, [], ◌∷◌, ◌++◌, Bool, true, false, ◌&&◌, ◌||◌, ◌==◌, eqb, arith}
use Rattle.std.proofs.Common.{sym, ap, ◌∙◌, refl, eqb-true, All}
use Rattle.std.specs.List.{list_any}
use Rattle.std.specs.Str.{bytes_eq}
use Rattle.std.proofs.lemmas.Bool.{cond_both, eqb-false, false_from_ne_true, false≢true}
use Rattle.std.proofs.lemmas.List.Elements.{All-weaker, All-push, All-head, All-tail}
use Rattle.std.proofs.lemmas.Slice.Eq.{bytes_eq-Decides}
use Rattle.desk_types.specs.Identifier.{own_id, IsLowerDomain}
use Rattle.desk_types.specs.Lists.{update_first}
use Rattle.desk_types.specs.Identifier.{is_under}
use Rattle.desk_types.specs.declared.show.IncidentState.{IncidentState}
use Rattle.desk_types.proofs.Own.{under_own}
use Rattle.desk_incidents.specs.declared.incident.Incident.{Incident}
use Rattle.desk_types.specs.MergedNumber.{number_after_merge}
use Rattle.desk_incidents.specs.Checks.{is_unmerged, has_id}
use Rattle.desk_board.specs.Laws.{own_places}
use Rattle.desk_board.specs.Consistency.{has_incident, IsMergedIntoAnother, ConsistentIncidents}
use Rattle.desk_board.proofs.OwnIds.{own_id-differ}
use Rattle.desk_board.proofs.ChangedLists.{All-both, AllPairs-push, All-update_first}
use Rattle.desk_board.proofs.ChangedLists.{AllPairs-update_first, list_any-push}
use Rattle.desk_board.proofs.ChangedLists.{list_any-unseen}

pub ConsistentIncidents-later : (domain : List ℕ) (place : ℕ) (xs : List Incident) →
    ConsistentIncidents domain place xs → ConsistentIncidents domain (place + 1) xs
ConsistentIncidents-later domain place xs h = record {
  rising = h.rising;
  below = All-weaker (λ i. i.number < place) (λ i. i.number < place + 1) (λ i k. omega (arith, k)) xs h.below;
  differ = h.differ;
  own = h.own;
  merged = h.merged;
}

-- Incidents may change where every identifier that was there is there.
IsMergedIntoAnother-grow : (incidents changed : List Incident) →
    ((id : List ℕ) → list_any (has_id id) incidents ≡ true → list_any (has_id id) changed ≡ true) → (i : Incident) →
    IsMergedIntoAnother incidents i → IsMergedIntoAnother changed i
IsMergedIntoAnother-grow incidents changed w i h into e = ((h into e).0, w into (h into e).1)

pub IsMergedIntoAnother-unmerged : (incidents : List Incident) (i : Incident) → is_unmerged i.state ≡ true →
    IsMergedIntoAnother incidents i
IsMergedIntoAnother-unmerged incidents i h into e = absurd (false≢true (sym (ap is_unmerged e) ∙ h))

-- a new incident of the place, not merged, with an identifier that none has
pub ConsistentIncidents-push : (domain : List ℕ) (place : ℕ) (xs : List Incident) (i : Incident) → i.number ≡ place →
    is_unmerged i.state ≡ true → All (λ x. bytes_eq x.id i.id ≡ false) xs →
    (is_under domain i.id ≡ true → i.id ≡ own_id i.number domain) → ConsistentIncidents domain place xs →
    ConsistentIncidents domain (place + 1) (xs ++ i ∷ [])
ConsistentIncidents-push domain place xs i e s d o h = record {
  rising =
      AllPairs-push (λ x y. x.number < y.number) xs i h.rising (All-weaker (λ x. x.number < place)
      (λ x. x.number < i.number) (λ x k. omega (arith, k, e)) xs h.below);
  below =
      All-push (λ x. x.number < place + 1) xs i (ConsistentIncidents-later domain place xs h).below (omega (arith, e));
  differ = AllPairs-push (λ x y. bytes_eq x.id y.id ≡ false) xs i h.differ d;
  own = All-push (λ x. is_under domain x.id ≡ true → x.id ≡ own_id x.number domain) xs i h.own o;
  merged = All-push (IsMergedIntoAnother (xs ++ i ∷ [])) xs i
      (All-weaker (IsMergedIntoAnother xs) (IsMergedIntoAnother (xs ++ i ∷ []))
      (IsMergedIntoAnother-grow xs (xs ++ i ∷ []) (λ id k. list_any-push (has_id id) xs i k)) xs h.merged)
      (IsMergedIntoAnother-unmerged (xs ++ i ∷ []) i s);
}

-- a change that keeps number and identifier, and merges into another if at all
pub ConsistentIncidents-update_first : (domain : List ℕ) (place : ℕ) (id : List ℕ) (f : Incident → Incident)
    (xs : List Incident) → ((i : Incident) → (f i).number ≡ i.number) → ((i : Incident) → (f i).id ≡ i.id) →
    ((i : Incident) → has_id id i ≡ true → IsMergedIntoAnother xs i → IsMergedIntoAnother xs (f i)) →
    ConsistentIncidents domain place xs → ConsistentIncidents domain (place + 1) (update_first (has_id id) f xs)
ConsistentIncidents-update_first domain place id f xs n d m h = record {
  rising =
      AllPairs-update_first (λ i j. i.number < j.number) (has_id id) f (λ x y r. rw (n x) r) (λ x y r. rw (n y) r) xs
      h.rising;
  below =
      All-update_first (λ i. i.number < place + 1) (has_id id) f (λ x _ k. rw (n x) k) xs
      (ConsistentIncidents-later domain place xs h).below;
  differ =
      AllPairs-update_first (λ i j. bytes_eq i.id j.id ≡ false) (has_id id) f (λ x y r. rw (d x) r)
      (λ x y r. rw (d y) r) xs h.differ;
  own =
      All-update_first (λ i. is_under domain i.id ≡ true →
      i.id ≡ own_id i.number domain) (has_id id) f (λ x _ k. rw (n x, d x) k) xs h.own;
  merged =
      All-weaker (IsMergedIntoAnother xs) (IsMergedIntoAnother (update_first (has_id id) f xs))
      (IsMergedIntoAnother-grow xs (update_first (has_id id) f xs) (λ other k. list_any-unseen (has_id id)
      (has_id other) f (λ x. rw (d x) refl) xs ∙ k))
      (update_first (has_id id) f xs) (All-update_first (IsMergedIntoAnother xs) (has_id id) f m xs h.merged);
}

-- The desk's own identifier of a place is new there: an incident that had it would have the place as its number.
pub own_id-new : (domain : List ℕ) (place : ℕ) (xs : List Incident) → IsLowerDomain domain → place < own_places →
    ConsistentIncidents domain place xs → All (λ x. bytes_eq x.id (own_id place domain) ≡ false) xs
own_id-new domain place xs l most h =
    All-both (λ x. x.number < place) (λ x. is_under domain x.id ≡ true →
    x.id ≡ own_id x.number domain) (λ x. bytes_eq x.id (own_id place domain) ≡ false)
    (λ x b o. false_from_ne_true _ (λ t.
    let same : x.id ≡ own_id place domain = (bytes_eq-Decides _ _).0 t in
    let under : is_under domain x.id ≡ true = rw same (under_own place domain l) in
    let numbers : x.number ≡ place =
    own_id-differ x.number place domain (omega (arith, b, most)) most (sym (o under) ∙ same) in
    absurd (omega (arith, b, numbers)))) xs h.below h.own

pub has_incident-below : (test : IncidentState → Bool) (n place : ℕ) (xs : List Incident) →
    All (λ i. i.number < place) xs → has_incident test n xs ≡ true → n < place
has_incident-below test n place [] h k = absurd (false≢true k)
has_incident-below test n place (x ∷ xs) h k =
    let first : x.number < place = All-head (λ (i : Incident). i.number < place) x xs h in
    let later : All (λ (i : Incident). i.number < place) xs = All-tail (λ (i : Incident). i.number < place) x xs h in
    first_or (x.number == n) (test x.state) (has_incident test n xs) (λ t. omega (arith, first, eqb-true _ _ t))
    (has_incident-below test n place xs later) k
  where
    first_or : (t u v : Bool) → (t ≡ true → n < place) → (v ≡ true → n < place) → ((t && u) || v) ≡ true → n < place
    first_or true u v a b k = a refl
    first_or false u v a b k = b k

-- What is there is there still after a new incident.
pub has_incident-push : (test : IncidentState → Bool) (incidents : List Incident) (i : Incident) (n : ℕ) →
    has_incident test n incidents ≡ true → has_incident test n (incidents ++ i ∷ []) ≡ true
has_incident-push test incidents i n h = list_any-push (λ x. (x.number == n) && test x.state) incidents i h

-- Where others are there still, and the one that is merged into is there, so is what took a merged one's place.
pub has_incident-merge : (test : IncidentState → Bool) (a b : ℕ) (incidents changed : List Incident) →
    has_incident test b changed ≡ true →
    ((n : ℕ) → (a ≡ n → ⊥) → has_incident test n incidents ≡ true → has_incident test n changed ≡ true) →
    (n : ℕ) → has_incident test n incidents ≡ true → has_incident test (number_after_merge a b n) changed ≡ true
has_incident-merge test a b incidents changed s w n k =
    cond_both (eqb n a) b n (λ m. has_incident test m changed ≡ true) (λ _. s)
    (λ e. w n (λ same. eqb-false _ _ e (sym same)) k)
