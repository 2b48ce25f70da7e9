-- What keepers publish is what a world's nodes commit, and so agrees.
use Rattle.std.proofs.Common.{◌≡◌, ℕ, ◌≤◌, ◌⊎◌, zero, suc, ◌<◌, List, [], ◌∷◌, ◌++◌, length, take, drop, refl, sym, ap}
use Rattle.std.proofs.Common.{◌∙◌, ⊎_elim, subst, arith, Some}
use Rattle.std.specs.List.{slice_get}
use Rattle.std.proofs.lemmas.List.{take-append-drop}
use Rattle.std.proofs.lemmas.Option.{same_Some, none-some}
use Rattle.desk_types.specs.Group.{IsGroup}
use Rattle.desk_types.specs.declared.command.Entry.{Entry}
use Rattle.desk_types.specs.declared.reply.Reply.{Reply}
use Rattle.desk_log.specs.Entries.{IsLogPrefix, IsRising, entry_at}
use Rattle.desk_log.specs.SavedValue.{SavedValue, committed_entries}
use Rattle.desk_log.proofs.Places.{entry_at-prefix}
use mathlib.Core.List.{IsPrefix}
use Rattle.desk_log.proofs.Prefixes.{prefix_append, prefix_trans, take-prefix}
use Rattle.desk_log.proofs.Rising.{rising_prefix, numbers_stand_once}
use Rattle.desk_board.specs.Laws.{names}
use Rattle.desk_board.specs.Log.{board_of}
use Rattle.desk_board.proofs.IncidentNames.{names_stay}
use Rattle.desk_board.proofs.LogRows.{rows_are_latest}
use Rattle.desk_world.specs.declared.world_event.WorldEvent.{WorldEvent}
use Rattle.desk_world.specs.Agreement.{IsReplyAt}
use Rattle.desk_world.specs.World.{World, first_world, world, committed_log}
use Rattle.desk_world.proofs.Agree.{committed_stays, committed_agree, committed_is_rising, identifiers_differ}
use Rattle.desk_world.proofs.Agree.{units_once, units_stand_open}
use Rattle.desk_world.proofs.CommittedAnswers.{IsReplyAt-later, reply_at-prefix}
use Rattle.desk_world.proofs.FirstEntries.{one_prefix, take-same}
use Rattle.desk_world.proofs.WorldInvariants.{world_from-append}
use Rattle.desk_group.specs.Group.{Keepers, Act, Runs, started_group, committed, MayPublish}
use Rattle.desk_group.specs.Agreement.{IsOfWorld, TurnsMakeWorlds, SavedCommittedStays, OfTwoPublished}
use Rattle.desk_group.specs.Agreement.{PublishedAgree, PublishedBoardsAgree, PublishedIdentifiersStay}
use Rattle.desk_group.specs.Agreement.{PublishedRepliesAgree, PublishedRepliesStay, PublishedIsRising}
use Rattle.desk_group.specs.Agreement.{PublishedIdentifiersDiffer, PublishedUnitsOnce, PublishedUnitsAtOpen}
use Rattle.desk_group.specs.Agreement.{PublishedLatestReplyHeld}
use Rattle.desk_group.proofs.GroupWorlds.{StandsFor, GoesOn, run_goes_on, first_stands}

-- what is published, as a prefix of a log
pub front : (xs ys : List Entry) → IsPrefix xs ys → IsLogPrefix xs ys
front xs ys p = subst (λ (l : List Entry). IsLogPrefix xs l) p.1 (prefix_append xs p.0)

of_world : (domain : List ℕ) (n : ℕ) (g : Keepers) (events : List WorldEvent) →
    StandsFor domain n g (world domain n events) → IsOfWorld domain n g events
of_world domain n g events s = record { saved = λ i. (s.keepers i).saved_is; sent = s.sent }

pub turns_make_worlds : TurnsMakeWorlds
turns_make_worlds domain n first more early late l m =
    let a : GoesOn domain n (first_world n) early =
    run_goes_on domain n (started_group domain n) early (first_world n) first (first_stands domain n) l in
    let b : GoesOn domain n (world domain n a.events) late =
    run_goes_on domain n early late (world domain n a.events) more a.stands m in (
      a.events,
      b.events,
      of_world domain n early a.events a.stands,
      of_world domain n late (a.events ++ b.events)
          (subst (λ (w : World). StandsFor domain n late w)
          (sym (world_from-append domain n (first_world n) a.events b.events)) b.stands),
    )

committed_of : (domain : List ℕ) (n : ℕ) (g : Keepers) (events : List WorldEvent) (i : ℕ) →
    IsOfWorld domain n g events → committed g i ≡ committed_log (world domain n events) i
committed_of domain n g events i o = ap (λ (s : SavedValue). committed_entries s) (o.saved i)

pub stays : SavedCommittedStays
stays domain n first more early late i group l m =
    let (events, later, a, b) = turns_make_worlds domain n first more early late l m in
    rw (committed_of domain n early events i a, committed_of domain n late (events ++ later) i b)
    (committed_stays domain n events later i group)

pub committed_agrees : (domain : List ℕ) (n : ℕ) (first more : List Act) (early late : Keepers) (i j : ℕ) → IsGroup n →
    Runs domain n (started_group domain n) first early → Runs domain n early more late →
    IsLogPrefix (committed early i) (committed late j) ⊎ IsLogPrefix (committed late j) (committed early i)
committed_agrees domain n first more early late i j group l m =
    let (events, later, a, b) = turns_make_worlds domain n first more early late l m in
    rw (committed_of domain n early events i a, committed_of domain n late (events ++ later) j b)
    (committed_agree domain n events later i j group)

pub published_agree : PublishedAgree
published_agree domain n first more early late i j one other group l m p q = ⊎_elim
    (λ f. one_prefix one other (committed late j)
    (prefix_trans one (committed early i) (committed late j) (front one (committed early i) p) f)
    (front other (committed late j) q))
    (λ f. one_prefix one other (committed early i) (front one (committed early i) p)
    (prefix_trans other (committed late j) (committed early i) (front other (committed late j) q) f))
    (committed_agrees domain n first more early late i j group l m)

first_same : OfTwoPublished (λ domain one other. (k : ℕ) → k ≤ length one → k ≤ length other →
    take k one ≡ take k other)
first_same domain n first more early late i j one other group l m p q k a b =
    ⊎_elim
    (λ f. take-same k one other a f)
    (λ f. sym (take-same k other one b f))
    (published_agree domain n first more early late i j one other group l m p q)

pub boards_agree : PublishedBoardsAgree
boards_agree domain n first more early late i j one other group l m p q k a b =
    ap (board_of domain) (first_same domain n first more early late i j one other group l m p q k a b)

pub identifiers_stay : PublishedIdentifiersStay
identifiers_stay domain n first more early late i j one other group l m p q k a b =
    let stays = names_stay domain (take k other) (drop k other) in (
      stays.0,
      rw (first_same domain n first more early late i j one other group l m p q k a b)
          (ap (λ log. names (board_of domain log)) (sym (take-append-drop k other)) ∙ stays.1),
    )

committed_rising : (domain : List ℕ) (n : ℕ) (acts : List Act) (g : Keepers) (i : ℕ) → IsGroup n →
    Runs domain n (started_group domain n) acts g → IsRising (committed g i)
committed_rising domain n acts g i group l =
    let (events, later, a, b) = turns_make_worlds domain n acts [] g g l refl in
    rw (committed_of domain n g events i a) (committed_is_rising domain n events i group)

pub published_is_rising : PublishedIsRising
published_is_rising domain n acts g i list group l p =
    rising_prefix list (committed g i) (front list (committed g i) p) (committed_rising domain n acts g i group l)

one_reply : (domain : List ℕ) (log : List Entry) (client number p q : ℕ) (r t : Reply) → IsRising log →
    IsReplyAt domain log client number p r → IsReplyAt domain log client number q t → (p ≡ q) × (r ≡ t)
one_reply domain log client number p q r t rising a b =
    let place : p ≡ q =
    numbers_stand_once log p q a.entry b.entry rising a.stands b.stands (a.client_is ∙ sym b.client_is)
    (a.number_is ∙ sym b.number_is) in
    (place, same_Some r t (sym a.reply_is ∙ (rw place b.reply_is)))

pub runs_on : (domain : List ℕ) (n : ℕ) (first more : List Act) (a b c : Keepers) → Runs domain n a first b →
    Runs domain n b more c → Runs domain n a (first ++ more) c
runs_on domain n [] more a b c l m = subst (λ (g : Keepers). Runs domain n g more c) (sym l) m
runs_on domain n (act ∷ acts) more a b c (mid, one, rest) m = (mid, one, runs_on domain n acts more mid b c rest m)

pub replies_agree : PublishedRepliesAgree
replies_agree domain n first more early late i j one other group l m p q client number x y r t a b =
    let rises : IsRising one = published_is_rising domain n first early i one group l p in
    let later_rises : IsRising other =
    published_is_rising domain n (first ++ more) late j other group
    (runs_on domain n first more (started_group domain n) early late l m) q in
    ⊎_elim
    (λ f. one_reply domain other client number x y r t later_rises
    (IsReplyAt-later domain one other client number x r f a) b)
    (λ f. one_reply domain one client number x y r t rises a
    (IsReplyAt-later domain other one client number y t f b))
    (published_agree domain n first more early late i j one other group l m p q)

-- What is published is the front of what the world's node has committed.
front_of : (domain : List ℕ) (n : ℕ) (g : Keepers) (events : List WorldEvent) (i : ℕ) (list : List Entry) →
    IsOfWorld domain n g events → MayPublish g i list →
    take (length list) (committed_log (world domain n events) i) ≡ list
front_of domain n g events i list o p =
    ap (take (length list)) (sym (committed_of domain n g events i o))
    ∙ take-prefix list (committed g i) (front list (committed g i) p)

pub differ : PublishedIdentifiersDiffer
differ domain n acts g i list group l p lower =
    let (events, later, a, b) = turns_make_worlds domain n acts [] g g l refl in
    let front : take (length list) (committed_log (world domain n events) i) ≡ list =
    front_of domain n g events i list a p in
    rw (← front) (identifiers_differ domain n events i group (length list) lower)

pub units : PublishedUnitsOnce
units domain n acts g i list group l p lower =
    let (events, later, a, b) = turns_make_worlds domain n acts [] g g l refl in
    let front : take (length list) (committed_log (world domain n events) i) ≡ list =
    front_of domain n g events i list a p in
    rw (← front) (units_once domain n events i group (length list) lower)

pub units_open : PublishedUnitsAtOpen
units_open domain n acts g i list group l p lower =
    let (events, later, a, b) = turns_make_worlds domain n acts [] g g l refl in
    let front : take (length list) (committed_log (world domain n events) i) ≡ list =
    front_of domain n g events i list a p in
    rw (← front) (units_stand_open domain n events i group (length list) lower)

pub rows : PublishedLatestReplyHeld
rows domain n acts g i list group l p client = rows_are_latest domain list client

-- a place of a log has an entry

some_at : (xs : List Entry) (k : ℕ) → k < length xs → (e : Entry) × (slice_get xs k ≡ Some e)
some_at [] k l = absurd (omega (arith, l))
some_at (x ∷ xs) zero l = (x, refl)
some_at (x ∷ xs) (suc k) l = some_at xs k (omega (arith, l))

-- a reply of a log stands in a prefix that has its place
earlier_reply : (domain : List ℕ) (xs ys : List Entry) (client number place : ℕ) (reply : Reply) → IsLogPrefix xs ys →
    place ≤ length xs → IsReplyAt domain ys client number place reply → IsReplyAt domain xs client number place reply
earlier_reply domain xs ys client number zero reply f l r = absurd (none-some r.entry r.stands)
earlier_reply domain xs ys client number (suc k) reply f l r =
    let x : (e : Entry) × (slice_get xs k ≡ Some e) = some_at xs k (omega (arith, l)) in
    let there : entry_at xs (suc k) ≡ Some x.0 = x.1 in
    let same : x.0 ≡ r.entry =
    same_Some x.0 r.entry (sym (entry_at-prefix xs ys (suc k) x.0 f there) ∙ r.stands) in
    record {
      entry = r.entry;
      stands = there ∙ ap Some same;
      client_is = r.client_is;
      number_is = r.number_is;
      reply_is = reply_at-prefix domain xs ys (suc k) x.0 f there ∙ r.reply_is;
    }

pub replies_stay : PublishedRepliesStay
replies_stay domain n first more early late i j one other group l m p q client number place reply = (
  (λ within r. ⊎_elim
      (λ f. IsReplyAt-later domain one other client number place reply f r)
      (λ f. earlier_reply domain other one client number place reply f within r)
      (published_agree domain n first more early late i j one other group l m p q)),
  (λ within r. ⊎_elim
      (λ f. earlier_reply domain one other client number place reply f within r)
      (λ f. IsReplyAt-later domain other one client number place reply f r)
      (published_agree domain n first more early late i j one other group l m p q)),
)
