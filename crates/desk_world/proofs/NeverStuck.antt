-- The run that serves a request: every node that is up suspects until it is in a view past all others, asks the others
-- for it and offers its log; the primary of the view starts it and appends the request, and the others acknowledge it.
use Rattle.std.proofs.Common.{Bool, true, ap, ◌+◌, ◌⊎◌, inl, inr, ◌*◌, ◌/◌, ◌%◌, ◌-◌, ◌≡◌, ℕ, zero, suc, ◌<◌, ◌≤◌}
use Rattle.std.proofs.Common.{max, false, List, [], ◌∷◌, ◌++◌, length, get_or}
use Rattle.std.proofs.Common.{Option, Some, None, refl, ◌∙◌, arith, eqb, leb, ltb}
use Rattle.std.proofs.Math.Nat.{mod-lt, mod-add-div'}
use Rattle.std.proofs.lemmas.Nat.{mod-mul-add}
use Rattle.std.proofs.lemmas.Bool.{cases_lt, false_from_ne_true, eqb-true, leb-true, ltb-true}
use Rattle.desk_types.specs.declared.command.Entry.{Entry}
use Rattle.desk_types.specs.declared.limits.TheConstants.{LAST_VIEW, LOG_ENTRIES}
use Rattle.desk_log.specs.declared.admission.Admission.TheVariants.{Append}
use Rattle.desk_log.specs.Admission.{admission_of_new, admission_after, admission}
use Rattle.desk_log.specs.Entries.{latest, number_at}
use Rattle.desk_log.specs.Laws.{IsLatest, IsNewNumber}
use Rattle.desk_types.specs.Group.{IsGroup}
use Rattle.desk_log.specs.Quorum.{primary}
use Rattle.desk_log.proofs.Latest.{latest_is_last}
use Rattle.desk_node.specs.State.{State}
use Rattle.desk_world.specs.NeverStuck.{CanServe, IsServed, NeverStuck}
use Rattle.desk_world.specs.World.{World, world, first_world, first_state, node_of_world}
use Rattle.desk_world.proofs.Agree.{world_invariant}
use Rattle.desk_world.proofs.Choosing.{HasStarted, start_view}
use Rattle.desk_world.proofs.HeardCounts.{tally_some-below}
use Rattle.desk_world.proofs.Following.{HaveAdopted, HaveAcknowledged, adopt_all, append_entry, acknowledge_all}
use Rattle.desk_world.proofs.Offering.{HaveOffered, offer_all}
use Rattle.desk_world.proofs.RaisedViews.{IsAhead, AreRaised, raise_all}
use Rattle.desk_world.proofs.LaterWorlds.{LeadsTo, Reach, ReachAsking, goes_on, reach_here, reach_then}
use Rattle.desk_world.proofs.LaterWorlds.{reach_asking, asking_then}
use Rattle.desk_world.proofs.WorldInvariants.{WorldInvariant, world_from-append}
use Rattle.desk_world.proofs.Serving.{serve, IsServedIn}

-- A log that is not full admits a request with a new number.

room_admits : (log : List Entry) → length log < LOG_ENTRIES → admission_of_new log ≡ Append
room_admits log room =
    let off : leb LOG_ENTRIES (length log) ≡ false =
    false_from_ne_true _ (λ t. omega (arith, room, leb-true LOG_ENTRIES (length log) t)) in
    rw off refl

pub new_is_admitted : (log : List Entry) (e : Entry) → length log < LOG_ENTRIES → IsNewNumber log e →
    admission log e.client e.number ≡ Append
new_is_admitted log e room new = by_place (latest e.client log) refl
  where
    by_place : (o : Option ℕ) → latest e.client log ≡ o → admission_after log e.number o ≡ Append
    by_place None q = room_admits log room
    by_place (Some place) q =
        let l : IsLatest e.client log place = latest_is_last e.client log place q in
        let number : number_at log place ≡ l.entry.number = rw (l.there) refl in
        let greater : l.entry.number < e.number = new place l.entry q l.there in
        let less : ltb e.number (number_at log place) ≡ false =
        false_from_ne_true _ (λ t. omega (arith, number, greater, ltb-true e.number (number_at log place) t)) in
        let apart : eqb e.number (number_at log place) ≡ false =
        false_from_ne_true _ (λ t. omega (arith, number, greater, eqb-true e.number (number_at log place) t)) in
        rw (less, apart) (room_admits log room)

-- the greatest view of nodes

abbrev pub top_view : List State → ℕ
top_view [] = 0
top_view (x ∷ xs) = max x.saved.view (top_view xs)

pub top_is_greatest : (xs : List State) (j : ℕ) → (get_or xs j first_state).saved.view ≤ top_view xs
top_is_greatest [] j = omega arith
top_is_greatest (x ∷ xs) zero = omega arith
top_is_greatest (x ∷ xs) (suc j) = omega (arith, top_is_greatest xs j)

pub top_within : (xs : List State) (bound : ℕ) →
    ((j : ℕ) → j < length xs → (get_or xs j first_state).saved.view ≤ bound) → top_view xs ≤ bound
top_within [] bound h = omega arith
top_within (x ∷ xs) bound h =
    omega (arith, h 0 (omega arith), top_within xs bound (λ j l. h (suc j) (omega (arith, l))))

-- A view past another one, of which a node is the primary.
pub record IsLater (n top i v : ℕ) : Type 0 where
  pub past : top < v
  pub near : v ≤ top + n
  pub primary_is : primary n v ≡ i

pub later_view : (n top i : ℕ) → i < n → (v : ℕ) × IsLater n top i v
later_view n top i small = by_order (cases_lt (top % n) i)
  where
    q : ℕ
    q = top / n

    parts : top % n + q * n ≡ top
    parts = mod-add-div' top n

    rest : top % n < n
    rest = mod-lt top (omega (arith, small))

    by_order : (top % n < i) ⊎ (i ≤ top % n) → (v : ℕ) × IsLater n top i v
    by_order (inl lt) = (
      q * n + i,
      record {
        past = omega (arith, parts, lt);
        near = omega (arith, parts, lt, small);
        primary_is = mod-mul-add q n i small;
      },
    )
    by_order (inr ge) = (
      suc q * n + i,
      record {
        past = omega (arith, parts, ge, rest);
        near = omega (arith, parts, ge, rest);
        primary_is = mod-mul-add (suc q) n i small;
      },
    )

next_view : (domain : List ℕ) (n : ℕ) (up : ℕ → Bool) (base : World) (entry : Entry) → IsGroup n →
    WorldInvariant domain n base → CanServe n up base entry → (v : ℕ) × IsAhead n up base v
next_view domain n up base entry group inv can =
    let top : ℕ = top_view base.nodes in
    let i : (i : ℕ) × (i < n) × (up i ≡ true) = tally_some-below n up (omega (arith, can.majority)) in
    let v : (v : ℕ) × IsLater n top i.0 v = later_view n top i.0 i.1 in
    let bound : top ≤ LAST_VIEW - n = top_within base.nodes (LAST_VIEW - n)
    (λ j l. omega (arith, can.views j (omega (arith, l, inv.count)))) in (
      v.0,
      record {
        majority = can.majority;
        primary_up = ap up v.1.primary_is ∙ i.2;
        later = λ j. omega (arith, top_is_greatest base.nodes j, v.1.past);
        within = omega (arith, v.1.near, bound, can.views 0 (omega (arith, group.least)));
      },
    )

-- A view starts with the log of a node that is up.
pub reach_started : (domain : List ℕ) (n : ℕ) (up : ℕ → Bool) (base : World) (v : ℕ) → IsGroup n →
    WorldInvariant domain n base → IsAhead n up base v → Reach domain n up base (HasStarted n up base v)
reach_started domain n up base v group inv ahead =
    let raised : Reach domain n up base (AreRaised n up base v n) = raise_all domain n up base v group ahead inv in
    let offered : Reach domain n up base (HaveOffered n up base v n) =
    reach_then domain n up base (AreRaised n up base v n) (HaveOffered n up base v n) raised
    (λ u g p. offer_all domain n up base v group ahead inv u g.preserved p) in
    reach_then domain n up base (HaveOffered n up base v n) (HasStarted n up base v) offered
    (λ u g p. start_view domain n up base v group ahead inv u g p)

-- A request that this log admits is served there.
pub serve_started : (domain : List ℕ) (n : ℕ) (up : ℕ → Bool) (base : World) (entry : Entry) (v : ℕ) → IsGroup n →
    WorldInvariant domain n base → IsAhead n up base v → (t : World) → LeadsTo domain n up base t →
    (b : HasStarted n up base v t) →
    admission (node_of_world base b.node).saved.log entry.client entry.number ≡ Append →
    ReachAsking domain n up entry t (IsServedIn n up v (node_of_world base b.node).saved.log entry base)
serve_started domain n up base entry v group inv ahead t g b admitted =
    let l : List Entry = (node_of_world base b.node).saved.log in
    let c : ℕ = b.commit in
    let acknowledged : ReachAsking domain n up entry t (HaveAcknowledged n up v l entry c n) =
    asking_then domain n up entry t (HaveAcknowledged n up v l entry c 0) (HaveAcknowledged n up v l entry c n)
    (reach_asking domain n up entry t (HaveAdopted n up base v l c n) (HaveAcknowledged n up v l entry c 0)
    (adopt_all domain n up base v group ahead inv t g.preserved b)
    (λ u d p. append_entry domain n up base v l c entry group ahead u d.preserved admitted p))
    (λ u d p. acknowledge_all domain n up v l entry c group u d.preserved p) in
    asking_then domain n up entry t (HaveAcknowledged n up v l entry c n) (IsServedIn n up v l entry base) acknowledged
    (λ u d p. serve domain n up v l entry c base group ahead u (goes_on domain n up base t u g d) p.within p.saved
    (λ j low on ne. p.acknowledged j low low on ne))

reach_served : (domain : List ℕ) (n : ℕ) (up : ℕ → Bool) (base : World) (entry : Entry) (v : ℕ) → IsGroup n →
    WorldInvariant domain n base → CanServe n up base entry → IsAhead n up base v →
    ReachAsking domain n up entry base (λ x. IsServed n up base x entry)
reach_served domain n up base entry v group inv can ahead =
    reach_asking domain n up entry base (HasStarted n up base v) (λ x. IsServed n up base x entry)
    (reach_started domain n up base v group inv ahead)
    (λ t g b.
    let started : List Entry = (node_of_world base b.node).saved.log in
    let admitted : admission started entry.client entry.number ≡ Append =
    new_is_admitted started entry (can.logs b.node b.is_node b.is_up) (can.number b.node b.is_node b.is_up) in
    asking_then domain n up entry t (IsServedIn n up v started entry base) (λ x. IsServed n up base x entry)
    (serve_started domain n up base entry v group inv ahead t g b admitted)
    (λ u d p. reach_here domain n up u (λ x. IsServed n up base x entry) d.preserved p.served))

pub never_stuck : NeverStuck
never_stuck domain n events up entry group can =
    let base : World = world domain n events in
    let inv : WorldInvariant domain n base = world_invariant domain n events group in
    let v : (v : ℕ) × IsAhead n up base v = next_view domain n up base entry group inv can in
    let r : ReachAsking domain n up entry base (λ x. IsServed n up base x entry) =
    reach_served domain n up base entry v.0 group inv can v.1 in
    let same : world domain n (events ++ r.goes.more) ≡ r.later =
    world_from-append domain n (first_world n) events r.goes.more ∙ r.goes.leads in
    (r.goes.more, r.goes.at_up, rw same r.holds)
