-- What nodes commit agrees, and so do their boards and their answers.
use Rattle.std.proofs.Common.{◌≡◌, ℕ, ◌≤◌, ◌⊎◌, true, List, [], ◌++◌, length, take, drop, refl, sym, ap, ◌∙◌}
use Rattle.std.proofs.Common.{arith, inl, inr, ⊎_elim, subst}
use Rattle.std.proofs.lemmas.Bool.{cases_lt}
use Rattle.std.proofs.lemmas.List.{length-take, take-append-drop}
use Rattle.std.proofs.lemmas.Option.{same_Some}
use Rattle.desk_types.specs.declared.command.Entry.{Entry}
use Rattle.desk_types.specs.declared.limits.TheConstants.{LOG_ENTRIES}
use Rattle.desk_types.specs.declared.outcome.Outcome.TheVariants.{Command}
use Rattle.desk_types.specs.declared.packet.Message.{Message}
use Rattle.desk_types.specs.declared.reply.Reply.{Reply}
use Rattle.desk_log.specs.Entries.{IsLogPrefix, IsRising}
use Rattle.desk_log.specs.SavedValue.{SavedValue}
use Rattle.desk_types.specs.Identifier.{IsLowerDomain}
use Rattle.desk_board.specs.Consistency.{IsConsistent}
use Rattle.desk_board.specs.Laws.{names}
use Rattle.desk_board.specs.Log.{board_of}
use Rattle.desk_board.proofs.LogBoards.{board_of-consistent}
use Rattle.desk_board.proofs.Consistency.{incidents_differ, units_differ}
use Rattle.desk_board.proofs.IncidentNames.{names_stay}
use Rattle.desk_board.proofs.LogRows.{rows_are_latest}
use Rattle.desk_world.specs.declared.world_event.WorldEvent.{WorldEvent}
use Rattle.desk_world.specs.World.{World, first_world, world, node_of_world, committed_log, messages}
use Rattle.desk_world.specs.Agreement.{CommittedStays, CommittedAgree, IsAcknowledged, CommittedIsChosen, BoardsAgree}
use Rattle.desk_world.specs.Agreement.{IdentifiersDiffer, UnitsOnce, UnitsAtOpen, IdentifiersStay, CommittedIsRising}
use Rattle.desk_world.specs.Agreement.{LatestReplyHeld, IsReplyAt, RepliesAgree}
use Rattle.desk_log.proofs.Prefixes.{prefix_trans, length-prefix, prefix_take}
use Rattle.desk_world.proofs.FirstEntries.{one_prefix, take-same}
use Rattle.desk_world.specs.Views.{IsChosen}
use Rattle.desk_world.proofs.ViewLog.{has_begun, announced_log}
use Rattle.desk_log.proofs.Rising.{rising_prefix, numbers_stand_once}
use Rattle.desk_world.proofs.CommittedAnswers.{IsReplyAt-later}
use Rattle.desk_world.proofs.NodeInvariants.{NodeInvariant}
use Rattle.desk_world.proofs.ViewLogPlaces.{log_is}
use Rattle.desk_world.proofs.ChosenPrefixes.{chosen_prefix, backed_prefix}
use Rattle.desk_world.proofs.WorldInvariants.{WorldInvariant, Next, next_run, start_invariant, world_from-append}
use Rattle.desk_types.specs.Group.{IsGroup}

pub world_invariant : (domain : List ℕ) (n : ℕ) (events : List WorldEvent) → IsGroup n →
    WorldInvariant domain n (world domain n events)
world_invariant domain n events group =
    (next_run domain n (first_world n) group (start_invariant domain n) events).preserved

pub world_next : (domain : List ℕ) (n : ℕ) (early late : List WorldEvent) → IsGroup n →
    Next domain n (world domain n early) (world domain n (early ++ late))
world_next domain n early late group =
    rw world_from-append (next_run domain n (world domain n early) group (world_invariant domain n early group) late)

-- What a node has committed stands in the log of its normal view, and of each later view that has started.
committed_prefix : (domain : List ℕ) (n : ℕ) (w : World) (i view : ℕ) → IsGroup n → WorldInvariant domain n w →
    (node_of_world w i).saved.normal ≤ view → has_begun (messages w.packets) view ≡ true →
    IsLogPrefix (committed_log w i) (announced_log (messages w.packets) view)
committed_prefix domain n w i view group k le b =
    let s : SavedValue = (node_of_world w i).saved in
    let own : NodeInvariant n (messages w.packets) i s = k.preserved.nodes i in
    backed_prefix n (messages w.packets) (node_of_world w) group k.preserved s.normal s.commit s.log own.begun
    own.within
    own.within_log own.backed view le b

-- in one world
agree_now : (domain : List ℕ) (n : ℕ) (w : World) (i j : ℕ) → IsGroup n → WorldInvariant domain n w →
    IsLogPrefix (committed_log w i) (committed_log w j) ⊎ IsLogPrefix (committed_log w j) (committed_log w i)
agree_now domain n w i j group k = ⊎_elim
    (λ l. one_prefix _ _ (announced_log (messages w.packets) (node_of_world w j).saved.normal)
    (committed_prefix domain n w i (node_of_world w j).saved.normal group k (omega arith) (k.preserved.nodes j).begun)
    (committed_prefix domain n w j (node_of_world w j).saved.normal group k (omega arith) (k.preserved.nodes j).begun))
    (λ l. one_prefix _ _ (announced_log (messages w.packets) (node_of_world w i).saved.normal)
    (committed_prefix domain n w i (node_of_world w i).saved.normal group k (omega arith) (k.preserved.nodes i).begun)
    (committed_prefix domain n w j (node_of_world w i).saved.normal group k l (k.preserved.nodes i).begun))
    (cases_lt (node_of_world w i).saved.normal (node_of_world w j).saved.normal)

pub committed_stays : CommittedStays
committed_stays domain n early late i group = ((world_next domain n early late group).grows i).committed

pub committed_agree : CommittedAgree
committed_agree domain n early late i j group =
    let now : World = world domain n early in
    let later : World = world domain n (early ++ late) in
    let stays : IsLogPrefix (committed_log now i) (committed_log later i) =
    committed_stays domain n early late i group in
    ⊎_elim
    (λ f. inl (prefix_trans (committed_log now i) (committed_log later i) (committed_log later j) stays f))
    (λ f. one_prefix (committed_log now i) (committed_log later j) (committed_log later i) stays f)
    (agree_now domain n later i j group (world_next domain n early late group).preserved)

pub committed_is_chosen : CommittedIsChosen
committed_is_chosen domain n events i group = by_commit own.backed.chosen
  where
    w : World
    w = world domain n events

    ps : List Message
    ps = messages w.packets

    s : SavedValue
    s = (node_of_world w i).saved

    k : WorldInvariant domain n w
    k = world_invariant domain n events group

    own : NodeInvariant n ps i s
    own = k.preserved.nodes i

    by_commit : (s.commit ≡ 0) ⊎ ((x : ℕ) × (x ≤ s.normal) × IsChosen n ps x s.commit) →
        (committed_log w i ≡ []) ⊎ IsAcknowledged n w i
    by_commit (inl z) = inl (rw z refl)
    by_commit (inr c) =
        let long : length (committed_log w i) ≡ s.commit = omega (arith, length-take s.commit s.log, own.within_log) in
        inr (record {
          view = c.0;
          within = c.1;
          chosen = rw long c.2;
          prefix = subst (λ (x : List Entry). IsLogPrefix (committed_log w i) x)
              (sym (log_is n ps (node_of_world w) k.preserved c.0))
              (chosen_prefix n ps (node_of_world w) group k.preserved s.normal s.commit s.log own.begun own.within
              own.within_log
              c.0 c.1 c.2);
        })

-- The first entries that both have are the same.
first_agree : (domain : List ℕ) (n : ℕ) (early late : List WorldEvent) (i j k : ℕ) → IsGroup n →
    k ≤ length (committed_log (world domain n early) i) →
    k ≤ length (committed_log (world domain n (early ++ late)) j) →
    take k (committed_log (world domain n early) i) ≡ take k (committed_log (world domain n (early ++ late)) j)
first_agree domain n early late i j k group a b =
    let one : List Entry = committed_log (world domain n early) i in
    let other : List Entry = committed_log (world domain n (early ++ late)) j in
    ⊎_elim
    (λ f. take-same k one other a f)
    (λ f. sym (take-same k other one b f))
    (committed_agree domain n early late i j group)

pub boards_agree : BoardsAgree
boards_agree domain n early late i j group k a b =
    ap (board_of domain) (first_agree domain n early late i j k group a b)

-- what a node has committed is within the limit of a log
committed_within : (domain : List ℕ) (n : ℕ) (w : World) (i : ℕ) → WorldInvariant domain n w →
    length (committed_log w i) ≤ LOG_ENTRIES
committed_within domain n w i k =
    let s : SavedValue = (node_of_world w i).saved in
    let own : NodeInvariant n (messages w.packets) i s = k.preserved.nodes i in
    omega (
      arith,
      length-prefix s.log (announced_log (messages w.packets) s.normal) own.within,
      (k.preserved.views s.normal own.begun).within,
      length-take s.commit s.log,
    )

-- the board of a prefix is consistent
prefix_consistent : (domain : List ℕ) (n : ℕ) (events : List WorldEvent) (i k : ℕ) → IsGroup n → IsLowerDomain domain →
    IsConsistent (board_of domain (take k (committed_log (world domain n events) i)))
prefix_consistent domain n events i k group lower =
    let log : List Entry = committed_log (world domain n events) i in
    let within : length log ≤ LOG_ENTRIES =
    committed_within domain n (world domain n events) i (world_invariant domain n events group) in
    board_of-consistent domain (take k log) lower (omega (arith, length-take k log, within))

pub identifiers_differ : IdentifiersDiffer
identifiers_differ domain n events i group k lower =
    incidents_differ _ (prefix_consistent domain n events i k group lower).incidents.differ

pub units_once : UnitsOnce
units_once domain n events i group k lower =
    units_differ _ (prefix_consistent domain n events i k group lower).committed.differ

pub units_stand_open : UnitsAtOpen
units_stand_open domain n events i group k lower = (prefix_consistent domain n events i k group lower).committed.at_open

pub identifiers_stay : IdentifiersStay
identifiers_stay domain n early late i j group k a b =
    let other : List Entry = committed_log (world domain n (early ++ late)) j in
    let stays = names_stay domain (take k other) (drop k other) in (
      stays.0,
      rw (first_agree domain n early late i j k group a b)
          (ap (λ log. names (board_of domain log)) (sym (take-append-drop k other)) ∙ stays.1),
    )

rising_now : (domain : List ℕ) (n : ℕ) (w : World) (i : ℕ) → WorldInvariant domain n w → IsRising (committed_log w i)
rising_now domain n w i k =
    let s : SavedValue = (node_of_world w i).saved in
    let own : NodeInvariant n (messages w.packets) i s = k.preserved.nodes i in
    rising_prefix (committed_log w i) (announced_log (messages w.packets) s.normal)
    (prefix_trans (committed_log w i) s.log (announced_log (messages w.packets) s.normal) (prefix_take s.commit s.log)
    own.within) (k.preserved.views s.normal own.begun).rising

pub committed_is_rising : CommittedIsRising
committed_is_rising domain n events i group =
    rising_now domain n (world domain n events) i (world_invariant domain n events group)

pub latest_reply_held : LatestReplyHeld
latest_reply_held domain n events i group k client =
    rows_are_latest domain (take k (committed_log (world domain n events) i)) client

-- In a rising log one client's number stands at one place, so two replies to it are one reply.
one_reply : (domain : List ℕ) (log : List Entry) (client number p q : ℕ) (r t : Reply) → IsRising log →
    IsReplyAt domain log client number p r → IsReplyAt domain log client number q t → (p ≡ q) × (r ≡ t)
one_reply domain log client number p q r t rising a b =
    let place : p ≡ q =
    numbers_stand_once log p q a.entry b.entry rising a.stands b.stands (a.client_is ∙ sym b.client_is)
    (a.number_is ∙ sym b.number_is) in
    (place, same_Some r t (sym a.reply_is ∙ (rw place b.reply_is)))

pub replies_agree : RepliesAgree
replies_agree domain n events i j client number one other group a b =
    let w : World = world domain n events in
    let k : WorldInvariant domain n w = world_invariant domain n events group in
    let x : (place : ℕ) × IsReplyAt domain (committed_log w i) client number place one =
    k.answered i (Command client number one) a in
    let y : (place : ℕ) × IsReplyAt domain (committed_log w j) client number place other =
    k.answered j (Command client number other) b in
    let same : (x.0 ≡ y.0) × (one ≡ other) = ⊎_elim
    (λ f. one_reply domain (committed_log w j) client number x.0 y.0 one other (rising_now domain n w j k)
    (IsReplyAt-later domain (committed_log w i) (committed_log w j) client number x.0 one f x.1) y.1)
    (λ f. one_reply domain (committed_log w i) client number x.0 y.0 one other (rising_now domain n w i k) x.1
    (IsReplyAt-later domain (committed_log w j) (committed_log w i) client number y.0 other f y.1))
    (agree_now domain n w i j group k) in
    (same.1, (x.0, x.1, rw same.0 y.1))
