-- The primary hears of the others' acknowledgements, commits the entry and answers it.
use Rattle.std.proofs.Common.{◌≡◌, ◌≢◌, ℕ, zero, suc, ◌+◌, ◌-◌, ◌<◌, ◌≤◌, ◌⊎◌, max, min, Bool, true, false}
use Rattle.std.proofs.Common.{List, [], ◌∷◌, ◌++◌, length, map, Some, refl, sym, ap, ◌∙◌, arith, inl, inr, ⊎_elim}
use Rattle.std.proofs.Common.{eqb, leb, ltb, cond, subst}
use Rattle.std.specs.List.{Contains}
use Rattle.std.proofs.Math.Nat.{mod-lt}
use Rattle.std.proofs.lemmas.Bool.{cases_eq, eq-eqb, ne_eqb, lt-ltb, leb-false}
use Rattle.std.proofs.lemmas.List.{length_push, append_assoc}
use Rattle.std.proofs.lemmas.List.Elements.{Contains-append_left, Contains-append_right}
use Rattle.desk_types.specs.declared.command.Entry.{Entry}
use Rattle.desk_types.specs.declared.outcome.Outcome.{Outcome}
use Rattle.desk_types.specs.declared.outcome.Outcome.TheVariants.{Command}
use Rattle.desk_types.specs.declared.packet.Message.{Message}
use Rattle.desk_types.specs.declared.packet.Message.TheVariants.{PrepareOk}
use Rattle.desk_types.specs.declared.reply.Reply.{Reply}
use Rattle.desk_log.specs.declared.answers.Answers.TheVariants as answers
use Rattle.desk_log.specs.Change.{Change}
use Rattle.desk_log.specs.Entries.{entry_at}
use Rattle.desk_types.specs.Group.{IsGroup}
use Rattle.desk_log.specs.Quorum.{primary, faults, tally}
use Rattle.desk_board.specs.Execute.{execute}
use Rattle.desk_board.specs.Log.{board_before}
use Rattle.desk_normal.specs.Acknowledgements.{places_with, votes, acknowledged_place}
use Rattle.desk_normal.specs.Rules.{commit_acknowledged, on_prepare_ok}
use Rattle.desk_node.specs.Answers.{answer_at, answers_after, outcomes_of}
use Rattle.desk_node.specs.Heard.{heard_of}
use Rattle.desk_node.specs.Rules.{on_packet_within, on_packet}
use Rattle.desk_log.proofs.Places.{entry_at-last}
use Rattle.desk_world.specs.NeverStuck.{IsServed}
use Rattle.desk_world.specs.World.{World, node_of_world}
use Rattle.desk_world.proofs.Choosing.{normal_in}
use Rattle.desk_world.proofs.HeardCounts.{votes_all, another_up}
use Rattle.desk_world.proofs.FirstEntries.{entry_at-take}
use Rattle.desk_world.proofs.Following.{HaveAcknowledged}
use Rattle.desk_world.proofs.NormalSteps.{places_said}
use Rattle.desk_world.proofs.Packets.{Contains-here, Contains-there, Contains-none, Contains-cases}
use Rattle.desk_world.proofs.RaisedViews.{IsAhead}
use Rattle.desk_world.proofs.LaterWorlds.{not_down, LeadsTo, Reach, ChangesNode, goes_on, reach_here, reach_then}
use Rattle.desk_world.proofs.LaterWorlds.{reach_all}
use Rattle.desk_world.proofs.LaterWorlds.{reach_packet}

-- what the primary's step does

-- Too few acknowledged the entry: the commit stays before it.
pub record LacksQuorum (n i v : ℕ) (l : List Entry) (e : Entry) (places : List ℕ) (taken : List Message)
    (change : Change) : Type 0 where
  pub few : votes i n places (length l + 1) < faults n
  pub commit : ℕ
  pub within : commit ≤ length l
  pub saved : change.saved ≡ normal_in v (l ++ e ∷ []) commit
  pub taken_is : change.taken ≡ taken

-- The entry is committed and answered.
pub record Commits (v c : ℕ) (l : List Entry) (e : Entry) (change : Change) : Type 0 where
  pub saved : change.saved ≡ normal_in v (l ++ e ∷ []) (length l + 1)
  pub answers_are : change.answers ≡ answers.Replies c (length l + 1)

pub record Counts (n i v c : ℕ) (l : List Entry) (e : Entry) (places : List ℕ) (taken : List Message)
    (change : Change) : Type 0 where
  pub result : LacksQuorum n i v l e places taken change ⊎ Commits v c l e change

acknowledged_below : (i n : ℕ) (places : List ℕ) (k : ℕ) → acknowledged_place i n places k ≤ k
acknowledged_below i n places zero = omega arith
acknowledged_below i n places (suc k) = by_test (leb (faults n) (votes i n places (suc k)))
    (acknowledged_below i n places k)
  where
    by_test : (b : Bool) → acknowledged_place i n places k ≤ k →
        cond b (suc k) (acknowledged_place i n places k) ≤ suc k
    by_test true h = omega arith
    by_test false h = omega (arith, h)

counts : (n i v c : ℕ) (l : List Entry) (e : Entry) (places : List ℕ) (taken : List Message) → c ≤ length l →
    Counts n i v c l e places taken (commit_acknowledged i n (normal_in v (l ++ e ∷ []) c) places taken)
unfolding commit_acknowledged
counts n i v c l e places taken within =
    record { result = by_test (leb (faults n) (votes i n places (suc (length l)))) refl }
  where
    log : List Entry
    log = l ++ e ∷ []

    a : ℕ
    a = acknowledged_place i n places (length log)

    one : length l + 1 ≡ suc (length l)
    one = omega arith

    long : length log ≡ suc (length l)
    long = omega (arith, length_push l e)

    by_test : (b : Bool) → leb (faults n) (votes i n places (suc (length l))) ≡ b →
        LacksQuorum n i v l e places taken (commit_acknowledged i n (normal_in v log c) places taken)
        ⊎ Commits v c l e (commit_acknowledged i n (normal_in v log c) places taken)
    by_test true t =
        let here : acknowledged_place i n places (suc (length l)) ≡ suc (length l) = rw t refl in
        let top : a ≡ suc (length l) = ap (acknowledged_place i n places) long ∙ here in
        let commit : max c (min a (length log)) ≡ length l + 1 = omega (arith, top, long, within) in
        inr (record {
          saved = ap (normal_in v log) commit;
          answers_are = ap (answers.Replies c) commit;
        })
    by_test false t =
        let here : acknowledged_place i n places (suc (length l)) ≡ acknowledged_place i n places (length l) =
        rw t refl in
        let top : a ≡ acknowledged_place i n places (length l) = ap (acknowledged_place i n places) long ∙ here in
        inl (record {
          few = rw one (leb-false (faults n) (votes i n places (suc (length l))) t);
          commit = max c (min a (length log));
          within = omega (arith, top, acknowledged_below i n places (length l), within);
          saved = refl;
          taken_is = refl;
        })

ok_counts : (n i v c j : ℕ) (l : List Entry) (e : Entry) (rs : List Message) → j < n → i ≡ primary n v → j ≢ i →
    c ≤ length l →
    Counts n i v c l e (heard_of n v (rs ++ PrepareOk j v (length l + 1) ∷ [])).places
    (PrepareOk j v (length l + 1) ∷ [])
    (on_packet i n (normal_in v (l ++ e ∷ []) c) (heard_of n (max v v) rs) (PrepareOk j v (length l + 1)))
unfolding on_packet on_packet_within on_prepare_ok
ok_counts n i v c j l e rs from lead ne within =
    let p : Message = PrepareOk j v (length l + 1) in
    let known : ltb j n ≡ true = lt-ltb j n from in
    let here : eqb v v ≡ true = eq-eqb v v refl in
    let own : eqb i (primary n v) ≡ true = eq-eqb i (primary n v) lead in
    let apart : eqb j i ≡ false = ne_eqb j i ne in
    let view : max v v ≡ v = omega arith in
    let places : List ℕ = (heard_of n v (rs ++ p ∷ [])).places in
    let said : places_with j (length l + 1) (heard_of n v rs).places ≡ places = places_said n j v (length l + 1) rs in
    rw (known, here, own, apart, view)
    (subst (λ (x : List ℕ). Counts n i v c l e places (p ∷ [])
    (commit_acknowledged i n (normal_in v (l ++ e ∷ []) c) x (p ∷ []))) (sym said)
    (counts n i v c l e places (p ∷ []) within))

-- the answer to the entry

abbrev reply_to : List ℕ → List Entry → ℕ → Entry → Reply
reply_to domain log place e = (execute (board_before domain log place) place e).1

answers_have : (domain : List ℕ) (log : List Entry) (c m : ℕ) (e : Entry) → c < m → entry_at log m ≡ Some e →
    Contains (answers_after domain log c (m - c)) (Command e.client e.number (reply_to domain log m e))
answers_have domain log c m e lt h =
    let d : ℕ = m - c - 1 in
    let count : m - c ≡ suc d = omega (arith, lt) in
    let place : c + suc d ≡ m = omega (arith, lt) in
    let answer : Outcome = Command e.client e.number (reply_to domain log m e) in
    let is : answer_at domain log m ≡ answer ∷ [] = rw h refl in
    let there : answer_at domain log (c + suc d) ≡ answer ∷ [] = ap (answer_at domain log) place ∙ is in
    rw (count, there) (Contains-append_right (answers_after domain log c d) (answer ∷ []) answer
    (Contains-here answer []))

Contains-map : (i : ℕ) (xs : List Outcome) (x : Outcome) → Contains xs x →
    Contains {X = ℕ × Outcome} (map (λ a. (i, a)) xs) (i, x)
Contains-map i [] x c = absurd (Contains-none x c)
Contains-map i (y ∷ ys) x c = ⊎_elim
    (λ e. rw (← e) (Contains-here (i, y) (map (λ a. (i, a)) ys)))
    (λ r. Contains-there (i, y) (map (λ a. (i, a)) ys) (i, x) (Contains-map i ys x r))
    (Contains-cases y ys x c)

-- in the world

-- The primary received the acknowledgements of the nodes below k that are up, and has not committed the entry.
pub record AwaitsCommit (n : ℕ) (up : ℕ → Bool) (v : ℕ) (l : List Entry) (e : Entry) (k : ℕ) (t : World) : Type 0 where
  pub commit : ℕ
  pub within : commit ≤ length l
  pub saved : (node_of_world t (primary n v)).saved ≡ normal_in v (l ++ e ∷ []) commit
  pub heard : (j : ℕ) → j < k → j < n → up j ≡ true → j ≢ primary n v →
      Contains (node_of_world t (primary n v)).received
      (PrepareOk j v (length l + 1))

-- The entry is served by the primary, which has committed its log.
pub record IsServedIn (n : ℕ) (up : ℕ → Bool) (v : ℕ) (l : List Entry) (e : Entry) (base t : World) : Type 0 where
  pub served : IsServed n up base t e
  pub node_is : served.node ≡ primary n v
  pub place_is : served.place ≡ length l + 1
  pub saved : (node_of_world t (primary n v)).saved ≡ normal_in v (l ++ e ∷ []) (length l + 1)

-- With these packets received too few acknowledged the entry, or it is served.
pub record HasCounted (n : ℕ) (up : ℕ → Bool) (v : ℕ) (l : List Entry) (e : Entry) (base : World) (rs : List Message)
    (t : World) : Type 0
  where
    pub result : ((votes (primary n v) n (heard_of n v rs).places (length l + 1) < faults n)
        × ((node_of_world t (primary n v)).received ≡ rs) × ((d : ℕ) × (d ≤ length l)
        × ((node_of_world t (primary n v)).saved ≡ normal_in v (l ++ e ∷ []) d))) ⊎ IsServedIn n up v l e base t

commit_serves : (domain : List ℕ) (n : ℕ) (up : ℕ → Bool) (v : ℕ) (l : List Entry) (e : Entry) (base t later : World)
    (c : ℕ) (change : Change) → IsGroup n → up (primary n v) ≡ true → LeadsTo domain n up base t → c ≤ length l →
    ChangesNode domain t (primary n v) change later → Commits v c l e change → IsServedIn n up v l e base later
commit_serves domain n up v l e base t later c change group lead goes within g commits = record {
  served = record {
    node = i;
    is_node = mod-lt v (omega (arith, group.least));
    is_up = lead;
    place = m;
    committed = rw saved (entry_at-take m log m (omega arith) ∙ last);
    added = goes.added ++ map (λ a. (i, a)) (outcomes_of domain change.saved.log change.answers);
    answers_are = g.answered
        ∙ (ap (λ x. x ++ map (λ a. (i, a)) (outcomes_of domain change.saved.log change.answers)) goes.answers
        ∙ append_assoc base.answers goes.added
        (map (λ a. (i, a)) (outcomes_of domain change.saved.log change.answers)));
    reply = reply_to domain log m e;
    answered = Contains-append_right goes.added
        (map (λ a. (i, a)) (outcomes_of domain change.saved.log change.answers)) (i, answer)
        (Contains-map i (outcomes_of domain change.saved.log change.answers) answer announced);
  };
  node_is = refl;
  place_is = refl;
  saved = saved;
}
  where
    i : ℕ
    i = primary n v

    m : ℕ
    m = length l + 1

    log : List Entry
    log = l ++ e ∷ []

    answer : Outcome
    answer = Command e.client e.number (reply_to domain log m e)

    saved : (node_of_world later i).saved ≡ normal_in v log m
    saved = g.saved ∙ commits.saved

    last : entry_at log m ≡ Some e
    last = entry_at-last l e

    announced : Contains (outcomes_of domain change.saved.log change.answers) answer
    announced = rw (commits.saved, commits.answers_are) (answers_have domain log c m e (omega (arith, within)) last)

count_one : (domain : List ℕ) (n : ℕ) (up : ℕ → Bool) (v : ℕ) (l : List Entry) (e : Entry) (base : World) → IsGroup n →
    up (primary n v) ≡ true → (j : ℕ) → j < n → j ≢ primary n v → (t : World) → LeadsTo domain n up base t → (c : ℕ) →
    c ≤ length l →
    (node_of_world t (primary n v)).saved ≡ normal_in v (l ++ e ∷ []) c →
    Contains t.packets (primary n v, PrepareOk j v (length l + 1)) →
    Reach domain n up t (HasCounted n up v l e base
    ((node_of_world t (primary n v)).received ++ PrepareOk j v (length l + 1) ∷ []))
count_one domain n up v l e base group lead j from ne t goes c within saved sent =
    let i : ℕ = primary n v in
    let small : i < n = mod-lt v (omega (arith, group.least)) in
    let rs : List Message = (node_of_world t i).received in
    let p : Message = PrepareOk j v (length l + 1) in
    let change : Change = on_packet i n (normal_in v (l ++ e ∷ []) c) (heard_of n (max v v) rs) p in
    let counted : Counts n i v c l e (heard_of n v (rs ++ p ∷ [])).places (p ∷ []) change =
    ok_counts n i v c j l e rs from refl ne within in
    let r : Reach domain n up t (ChangesNode domain t i change) =
    reach_packet domain n up t group goes.preserved i small lead p sent (normal_in v (l ++ e ∷ []) c) saved in
    record {
      later = r.later;
      goes = r.goes;
      quiet = r.quiet;
      holds = record {
        result = ⊎_elim
            (λ x. inl (
              x.few,
              r.holds.received ∙ ap (λ y. rs ++ y) x.taken_is,
              (x.commit, x.within, r.holds.saved ∙ x.saved),
            ))
            (λ x. inr (commit_serves domain n up v l e base t r.later c change group lead goes within r.holds x))
            counted.result;
      };
    }

-- The acknowledgements of the nodes below k came, or the entry is served.
pub record HasAwaited (n : ℕ) (up : ℕ → Bool) (v : ℕ) (l : List Entry) (e : Entry) (base : World) (k : ℕ)
    (t : World) : Type 0 where
  pub result : AwaitsCommit n up v l e k t ⊎ IsServedIn n up v l e base t

await_one : (domain : List ℕ) (n : ℕ) (up : ℕ → Bool) (v : ℕ) (l : List Entry) (e : Entry) (base : World) → IsGroup n →
    up (primary n v) ≡ true → (k : ℕ) (t : World) → k < n → k ≢ primary n v → LeadsTo domain n up base t →
    Contains t.packets (primary n v, PrepareOk k v (length l + 1)) → AwaitsCommit n up v l e k t →
    Reach domain n up t (HasAwaited n up v l e base (suc k))
await_one domain n up v l e base group lead k t small ne goes sent w =
    record {
      later = r.later;
      goes = r.goes;
      quiet = r.quiet;
      holds = record {
        result = ⊎_elim
            (λ x. inl (record {
              commit = x.2.0;
              within = x.2.1;
              saved = x.2.2;
              heard = λ j lt low on other. rw x.1 (heard j lt low on other (cases_eq j k));
            }))
            (λ x. inr x)
            r.holds.result;
      };
    }
  where
    i : ℕ
    i = primary n v

    rs : List Message
    rs = (node_of_world t i).received

    p : Message
    p = PrepareOk k v (length l + 1)

    r : Reach domain n up t (HasCounted n up v l e base (rs ++ p ∷ []))
    r = count_one domain n up v l e base group lead k small ne t goes w.commit w.within w.saved sent

    heard : (j : ℕ) → j < suc k → j < n → up j ≡ true → j ≢ i → (j ≡ k) ⊎ (j ≢ k) →
        Contains (rs ++ p ∷ []) (PrepareOk j v (length l + 1))
    heard j lt low on other (inl q) =
        rw q (Contains-append_right rs (p ∷ []) (PrepareOk k v (length l + 1)) (Contains-here p []))
    heard j lt low on other (inr d) =
        Contains-append_left rs (p ∷ []) (PrepareOk j v (length l + 1))
        (w.heard j (omega (arith, lt, d)) low on other)

await_next : (domain : List ℕ) (n : ℕ) (up : ℕ → Bool) (v : ℕ) (l : List Entry) (e : Entry) (base : World) → IsGroup n →
    up (primary n v) ≡ true → (k : ℕ) (t : World) → k < n → up k ≡ true → LeadsTo domain n up base t →
    ((j : ℕ) → j < n → up j ≡ true → j ≢ primary n v → Contains t.packets (primary n v, PrepareOk j v (length l + 1))) →
    HasAwaited n up v l e base k t → Reach domain n up t (HasAwaited n up v l e base (suc k))
await_next domain n up v l e base group lead k t small on goes sent p = by_result p.result
  where
    by_node : AwaitsCommit n up v l e k t → (k ≡ primary n v) ⊎ (k ≢ primary n v) →
        Reach domain n up t (HasAwaited n up v l e base (suc k))
    by_node w (inl q) = reach_here domain n up t (HasAwaited n up v l e base (suc k)) goes.preserved (record {
      result = inl (record {
        commit = w.commit;
        within = w.within;
        saved = w.saved;
        heard = λ j lt low on_j other. w.heard j (omega (arith, lt, q, other)) low on_j other;
      });
    })
    by_node w (inr ne) = await_one domain n up v l e base group lead k t small ne goes (sent k small on ne) w

    by_result : AwaitsCommit n up v l e k t ⊎ IsServedIn n up v l e base t →
        Reach domain n up t (HasAwaited n up v l e base (suc k))
    by_result (inl w) = by_node w (cases_eq k (primary n v))
    by_result (inr s) = reach_here domain n up t (HasAwaited n up v l e base (suc k)) goes.preserved
        (record { result = inr s })

-- Nothing is wanted of a node that is not up.
await_skip : (n : ℕ) (up : ℕ → Bool) (v : ℕ) (l : List Entry) (e : Entry) (base : World) (k : ℕ) (t : World) →
    up k ≡ false → HasAwaited n up v l e base k t → HasAwaited n up v l e base (suc k) t
await_skip n up v l e base k t off p = record {
  result = ⊎_elim
      (λ w. inl (record {
        commit = w.commit;
        within = w.within;
        saved = w.saved;
        heard = λ j lt low on ne. w.heard j (omega (arith, lt, not_down up k j off on)) low on ne;
      }))
      (λ s. inr s)
      p.result;
}

-- One of the acknowledgements may come again.
await_last : (domain : List ℕ) (n : ℕ) (up : ℕ → Bool) (v : ℕ) (l : List Entry) (e : Entry) (base : World) → IsGroup n →
    faults n < tally n up → up (primary n v) ≡ true → (j : ℕ) → j < n → j ≢ primary n v → (t : World) →
    LeadsTo domain n up base t → Contains t.packets (primary n v, PrepareOk j v (length l + 1)) →
    HasAwaited n up v l e base n t → Reach domain n up t (IsServedIn n up v l e base)
await_last domain n up v l e base group most lead j from ne t goes sent p = by_result p.result
  where
    i : ℕ
    i = primary n v

    rs : List Message
    rs = (node_of_world t i).received

    ok : Message
    ok = PrepareOk j v (length l + 1)

    by_result : AwaitsCommit n up v l e n t ⊎ IsServedIn n up v l e base t →
        Reach domain n up t (IsServedIn n up v l e base)
    by_result (inr s) = reach_here domain n up t (IsServedIn n up v l e base) goes.preserved s
    by_result (inl w) =
        let small : i < n = mod-lt v (omega (arith, group.least)) in
        let r : Reach domain n up t (HasCounted n up v l e base (rs ++ ok ∷ [])) =
        count_one domain n up v l e base group lead j from ne t goes w.commit w.within w.saved sent in
        let all : tally n up ≤ votes i n (heard_of n v (rs ++ ok ∷ [])).places (length l + 1) + 1 =
        votes_all n i v (length l + 1) up (rs ++ ok ∷ []) small (omega arith)
        (λ k low on other. Contains-append_left rs (ok ∷ []) (PrepareOk k v (length l + 1))
        (w.heard k low low on other)) in
        record {
          later = r.later;
          goes = r.goes;
          quiet = r.quiet;
          holds = ⊎_elim (λ x. absurd (omega (arith, x.0, all, most))) (λ s. s) r.holds.result;
        }

-- From others that acknowledged the entry.
pub serve : (domain : List ℕ) (n : ℕ) (up : ℕ → Bool) (v : ℕ) (l : List Entry) (e : Entry) (c : ℕ) (base : World) →
    IsGroup n → IsAhead n up base v → (t : World) → LeadsTo domain n up base t → c ≤ length l →
    (node_of_world t (primary n v)).saved ≡ normal_in v (l ++ e ∷ []) c →
    ((j : ℕ) → j < n → up j ≡ true → j ≢ primary n v → Contains t.packets
    (primary n v, PrepareOk j v (length l + 1))) →
    Reach domain n up t (IsServedIn n up v l e base)
serve domain n up v l e c base group ahead t goes within saved sent =
    let lead : up (primary n v) ≡ true = ahead.primary_up in
    let j : (j : ℕ) × (j < n) × (up j ≡ true) × (j ≢ primary n v) =
    another_up n (primary n v) up group ahead.majority (mod-lt v (omega (arith, group.least))) in
    reach_then domain n up t (HasAwaited n up v l e base n) (IsServedIn n up v l e base)
    (reach_all domain n up t (HasAwaited n up v l e base)
    (λ k u small on g q. await_next domain n up v l e base group lead k u small on (goes_on domain n up base t u goes g)
    (λ m low on_m ne. g.packets (primary n v, PrepareOk m v (length l + 1)) (sent m low on_m ne)) q)
    (λ k u off q. await_skip n up v l e base k u off q) goes.preserved
    (record {
      result = inl (record {
        commit = c;
        within = within;
        saved = saved;
        heard = λ k lt low on ne. absurd (omega (arith, lt));
      });
    }) n (omega arith))
    (λ u g q. await_last domain n up v l e base group ahead.majority lead j.0 j.1 j.3 u
    (goes_on domain n up base t u goes g)
    (g.packets (primary n v, PrepareOk j.0 v (length l + 1)) (sent j.0 j.1 j.2 j.3)) q)
