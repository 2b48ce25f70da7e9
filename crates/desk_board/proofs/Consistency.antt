-- That a board is consistent, for its methods, and what is read from it.
use Rattle.std.proofs.Common.{◌≡◌, ◌≢◌, ◌<◌, ◌+◌, ◌↔◌, ℕ, List, [], ◌∷◌, Bool, true, false, ◌&&◌, ◌==◌, Result, Ok}
use Rattle.std.proofs.Common.{Err, IfOk, OnErr, IsTrue, arith, refl, sym, ap, ◌∙◌, eqb-true, All}
use Rattle.std.specs.List.{AllPairs, list_any}
use Rattle.std.specs.Str.{bytes_eq}
use Rattle.std.proofs.lemmas.Bool.{and_from, both_ways, eq-eqb}
use Rattle.std.proofs.lemmas.List.Elements.{All-nil, All-cons, All-weaker}
use Rattle.std.proofs.lemmas.List.Folds.{list_any_none}
use Rattle.std.proofs.lemmas.Slice.Eq.{bytes_eq-Decides}
use Rattle.desk_types.specs.Identifier.{IsLowerDomain}
use Rattle.desk_types.specs.declared.command.Entry.{Entry}
use Rattle.desk_types.specs.declared.reply.Reply.{Reply}
use Rattle.desk_types.specs.declared.show.IncidentState.{IncidentState}
use Rattle.desk_types.specs.declared.show.IncidentState.TheVariants as states
use Rattle.desk_incidents.specs.declared.incident.HasCall.{HasCall}
use Rattle.desk_incidents.specs.declared.incident.Incident.{Incident}
use Rattle.desk_incidents.specs.declared.incident.Linked.{Linked}
use Rattle.desk_incidents.specs.Checks.{is_open, is_unmerged}
use Rattle.desk_incidents.specs.Links.{same_link}
use Rattle.desk_units.specs.Checks.{is_unit, is_at_work}
use Rattle.desk_units.specs.declared.unit.UnitPair.{UnitPair}
use Rattle.desk_units.specs.declared.unit.Unit.{Unit}
use Rattle.desk_board.specs.Laws.{own_places}
use Rattle.desk_board.specs.BoardValue.{BoardValue}
use Rattle.desk_board.specs.Consistency.{has_incident, IsConsistent, IsMerged, IsCommittedOn}
use Rattle.desk_board.specs.Execute.{execute}
use Rattle.desk_board.proofs.LogBoards.{execute-domain, execute-count, execute-consistent}
use Rattle.desk_board.proofs.ChangedLists.{All-both, AllPairs-weaker, AllPairs-first, AllPairs-later}

-- a call that executes an entry, or that wants memory
pub apply-consistent : {E : Type 0} (old new : BoardValue) (place : ℕ) (e : Entry) (r : Result Reply E) →
    IfOk r (λ reply. (new, reply) ≡ execute old place e) → OnErr r (new ≡ old) →
    place ≡ old.count + 1 → place < own_places → IsLowerDomain old.domain → IsConsistent old →
    IsLowerDomain new.domain × IsConsistent new
apply-consistent old new place e (Ok reply) ok err next within l h =
    let is : new ≡ (execute old place e).0 = ap (λ (s : BoardValue × Reply). s.0) ok in
    rw (is, execute-domain old place e, execute-count old place e) (
      l,
      execute-consistent old place e l within
          (rw next h),
    )
apply-consistent old new place e (Err x) ok err next within l h = rw err (l, h)

-- elements that differ

bytes_differ : (xs ys : List ℕ) → bytes_eq xs ys ≡ false → xs ≢ ys
bytes_differ xs ys h e = both_ways (bytes_eq xs ys) h ((bytes_eq-Decides xs ys).1 e)

pub incidents_differ : (incidents : List Incident) → AllPairs (λ i j. bytes_eq i.id j.id ≡ false) incidents →
    AllPairs (λ i j. i.id ≢ j.id) incidents
incidents_differ incidents h =
    AllPairs-weaker (λ (i j : Incident). bytes_eq i.id j.id ≡ false) (λ i j. i.id ≢ j.id)
    (λ i j k. bytes_differ i.id j.id k) incidents h

pub calls_differ : (calls : List HasCall) → AllPairs (λ g h. bytes_eq g.call h.call ≡ false) calls →
    AllPairs (λ g h. g.call ≢ h.call) calls
calls_differ calls h =
    AllPairs-weaker (λ (g k : HasCall). bytes_eq g.call k.call ≡ false) (λ g k. g.call ≢ k.call)
    (λ g k q. bytes_differ g.call k.call q) calls h

pub names_differ : (units : List Unit) → AllPairs (λ u v. bytes_eq u.name v.name ≡ false) units →
    AllPairs (λ u v. u.name ≢ v.name) units
names_differ units h =
    AllPairs-weaker (λ (u v : Unit). bytes_eq u.name v.name ≡ false) (λ u v. u.name ≢ v.name)
    (λ u v k. bytes_differ u.name v.name k) units h

pub units_differ : (committed_to : List UnitPair) → AllPairs (λ p q. bytes_eq p.unit q.unit ≡ false) committed_to →
    AllPairs (λ p q. p.unit ≢ q.unit) committed_to
units_differ committed_to h =
    AllPairs-weaker (λ (p q : UnitPair). bytes_eq p.unit q.unit ≡ false) (λ p q. p.unit ≢ q.unit)
    (λ p q k. bytes_differ p.unit q.unit k) committed_to h

same_itself : (l : Linked) → same_link l l ≡ true
same_itself l = and_from (l.incident == l.incident) (l.other == l.other) (eq-eqb l.incident l.incident refl)
    (eq-eqb l.other l.other refl)

links_apart : (l m : Linked) → same_link l m ≡ false → l ≢ m
links_apart l m h e = both_ways (same_link l m) h (rw (← e) (same_itself l))

pub links_differ : (linked : List Linked) → AllPairs (λ l m. same_link l m ≡ false) linked →
    AllPairs (λ l m. l ≢ m) linked
links_differ linked h = AllPairs-weaker (λ (l m : Linked). same_link l m ≡ false) (λ l m. l ≢ m) links_apart linked h

-- merged incidents

both_false : (t u : Bool) → (t ≡ true → u ≡ false) → (t && u) ≡ false
both_false true u w = w refl
both_false false u w = refl

-- Where numbers rise, an incident that fails a test leaves none of its number that passes it.
failed : (test : IncidentState → Bool) (xs : List Incident) → AllPairs (λ i j. i.number < j.number) xs →
    All (λ i. test i.state ≡ false → has_incident test i.number xs ≡ false) xs
failed test [] h = All-nil (λ (i : Incident). test i.state ≡ false → has_incident test i.number [] ≡ false)
failed test (x ∷ xs) h =
    let above : All (λ y. x.number < y.number) xs = AllPairs-first (λ (i j : Incident). i.number < j.number) x xs h in
    let rest : All (λ y. test y.state ≡ false → has_incident test y.number xs ≡ false) xs =
    failed test xs (AllPairs-later (λ (i j : Incident). i.number < j.number) x xs h) in
    All-cons (λ (i : Incident). test i.state ≡ false →
    has_incident test i.number (x ∷ xs) ≡ false) x xs (of_first above)
    (All-both (λ y. x.number < y.number) (λ y. test y.state ≡ false →
    has_incident test y.number xs ≡ false) (λ y. test y.state ≡ false →
    has_incident test y.number (x ∷ xs) ≡ false) of_later xs above rest)
  where
    of_first : All (λ y. x.number < y.number) xs → test x.state ≡ false → has_incident test x.number (x ∷ xs) ≡ false
    of_first above fails =
        list_any_none (λ i. (i.number == x.number) && test i.state) (x ∷ xs)
        (All-cons (λ (i : Incident). ((i.number == x.number) && test i.state) ≡ false) x xs
        (both_false (x.number == x.number) (test x.state) (λ _. fails))
        (All-weaker (λ (y : Incident). x.number < y.number) (λ y. ((y.number == x.number) && test y.state) ≡ false)
        (λ y l. both_false (y.number == x.number) (test y.state)
        (λ t. absurd (omega (arith, l, eqb-true y.number x.number t)))) xs above))

    of_later : (y : Incident) → x.number < y.number → (test y.state ≡ false → has_incident test y.number xs ≡ false) →
        test y.state ≡ false → has_incident test y.number (x ∷ xs) ≡ false
    of_later y l none fails =
        let other : ((x.number == y.number) && test x.state) ≡ false =
        both_false (x.number == y.number) (test x.state)
        (λ t. absurd (omega (arith, l, eqb-true x.number y.number t))) in
        rw other (none fails)

merged_is_not_open : (s : IncidentState) → is_unmerged s ≡ false → is_open s ≡ false
merged_is_not_open states.Open h = h
merged_is_not_open states.Cleared h = refl
merged_is_not_open (states.Merged into) h = refl

-- No pair that names an incident of such a test names one that is merged.
merged_without : {A : Type 0} (number : A → ℕ) (test : IncidentState → Bool) →
    ((s : IncidentState) → is_unmerged s ≡ false → test s ≡ false) → (incidents : List Incident) →
    AllPairs (λ i j. i.number < j.number) incidents → (pairs : List A) →
    All (λ p. has_incident test (number p) incidents ≡ true) pairs →
    All (λ i. IsMerged i → All (λ p. number p ≢ i.number) pairs) incidents
merged_without number test w incidents rising pairs h =
    All-weaker (λ (i : Incident). test i.state ≡ false →
    has_incident test i.number incidents ≡ false) (λ i. IsMerged i → All (λ p. number p ≢ i.number) pairs)
    (λ i none merged. All-weaker (λ p. has_incident test (number p) incidents ≡ true) (λ p. number p ≢ i.number)
    (λ p there same. both_ways _ (none (w i.state merged)) (rw (← same) there)) pairs h) incidents
    (failed test incidents rising)

pub merged_without_calls : (board : BoardValue) → IsConsistent board →
    All (λ i. IsMerged i → All (λ h. h.incident ≢ i.number) board.has_call) board.incidents
merged_without_calls board h =
    merged_without (λ (c : HasCall). c.incident) is_unmerged (λ s k. k) board.incidents h.incidents.rising
    board.has_call h.calls.on_board

pub merged_without_units : (board : BoardValue) → IsConsistent board →
    All (λ i. IsMerged i → All (λ p. p.incident ≢ i.number) board.committed_to) board.incidents
merged_without_units board h =
    merged_without (λ (p : UnitPair). p.incident) is_open merged_is_not_open board.incidents h.incidents.rising
    board.committed_to h.committed.at_open

pub merged_without_stand_bys : (board : BoardValue) → IsConsistent board →
    All (λ i. IsMerged i → All (λ p. p.incident ≢ i.number) board.standing_by) board.incidents
merged_without_stand_bys board h =
    merged_without (λ (p : UnitPair). p.incident) is_open merged_is_not_open board.incidents h.incidents.rising
    board.standing_by h.standing_by.at_open

pub merged_without_links : (board : BoardValue) → IsConsistent board →
    All (λ i. IsMerged i → All (λ l. (l.incident ≢ i.number) × (l.other ≢ i.number)) board.linked) board.incidents
merged_without_links board h =
    All-both (λ (i : Incident). IsMerged i →
    All (λ (l : Linked). l.incident ≢ i.number) board.linked) (λ i. IsMerged i →
    All (λ (l : Linked). l.other ≢ i.number) board.linked)
    (λ i. IsMerged i → All (λ (l : Linked). (l.incident ≢ i.number) × (l.other ≢ i.number)) board.linked)
    (λ i one other merged. All-both (λ (l : Linked). l.incident ≢ i.number) (λ l. l.other ≢ i.number)
    (λ l. (l.incident ≢ i.number) × (l.other ≢ i.number)) (λ l p q. (p, q)) board.linked (one merged) (other merged))
    board.incidents (ends (λ l. l.incident) (λ l k. k.0)) (ends (λ l. l.other) (λ l k. k.1))
  where
    ends : (number : Linked → ℕ) →
        ((l : Linked) →
        (has_incident is_unmerged l.incident board.incidents ≡ true) × (has_incident is_unmerged l.other
        board.incidents ≡ true) → has_incident is_unmerged (number l) board.incidents ≡ true) →
        All (λ i. IsMerged i → All (λ l. number l ≢ i.number) board.linked) board.incidents
    ends number w =
        merged_without number is_unmerged (λ s k. k) board.incidents h.incidents.rising board.linked
        (All-weaker (λ (l : Linked). (has_incident is_unmerged l.incident board.incidents ≡ true) × (has_incident
        is_unmerged l.other board.incidents ≡ true)) (λ l. has_incident is_unmerged (number l) board.incidents ≡ true)
        w board.linked h.links.on_board)

-- units

pub units_at_work : (board : BoardValue) → IsConsistent board →
    All (λ u. IsTrue (is_at_work u.status) ↔ IsCommittedOn board u.name) board.units
units_at_work board h =
    All-weaker (λ (u : Unit). is_at_work u.status ≡ list_any (is_unit u.name) board.committed_to)
    (λ u. IsTrue (is_at_work u.status) ↔ IsCommittedOn board u.name)
    (λ u e. ((λ (t : IsTrue (is_at_work u.status)). sym e ∙ t), (λ (t : IsCommittedOn board u.name). e ∙ t)))
    board.units h.units.at_work
