-- What the items of a turn make of a replica, as acts of its node.
use Rattle.std.proofs.Common.{◌≡◌, ℕ, Bool, true, false, cond, List, [], ◌∷◌, ◌++◌, Option, Some, None, refl}
use Rattle.std.proofs.Common.{sym, ap, ◌∙◌, inl, inr, subst}
use Rattle.std.specs.List.{AllByRecursion, Contains}
use Rattle.std.proofs.lemmas.List.{append-nil}
use Rattle.desk_types.specs.declared.command.Entry.{Entry}
use Rattle.desk_types.specs.declared.epoch_packet.EpochPacket.{EpochPacket}
use Rattle.desk_types.specs.declared.packet.Message.{Message}
use Rattle.desk_types.specs.declared.packet.Message.TheVariants.{Prepare, PrepareOk, Commit, StartViewChange}
use Rattle.desk_types.specs.declared.packet.Message.TheVariants.{DoViewChange, StartView, GetState, NewState}
use Rattle.desk_log.specs.SavedValue.{SavedValue}
use Rattle.desk_mailbox.specs.declared.item.Item.{Item}
use Rattle.desk_mailbox.specs.declared.item.Item.TheVariants as mail
use Rattle.desk_replica.specs.declared.answer.Answer.{Answer}
use Rattle.desk_epoch_replica.specs.declared.deferring_replica.DeferringReplica.{DeferringReplica}
use Rattle.desk_epoch_replica.specs.DeferringSaves.{log_of_state, reported_of}
use Rattle.desk_epoch_replica.specs.Follows.{reported_after, unsaved_after}
use Rattle.desk_epoch_replica.specs.ReplicaValue.{ReplicaValue}
use Rattle.desk_epoch_replica.specs.MemberValue.{MemberValue}
use Rattle.desk_epoch_replica.specs.declared.item.EpochItem.TheVariants as items
use Rattle.desk_epoch_node.specs.EpochValue.{EpochValue}
use Rattle.desk_epoch_group.specs.Group.{EpochNodes, started_again}
use Rattle.desk_world.proofs.Packets.{Contains-none}
use Rattle.desk_threads.specs.EndingItems.{NoneEnds, ends_turn, may_carry_log}
use Rattle.desk_threads.specs.Replicas.{MeetsItem, MeetsItems}
use Rattle.desk_epoch_keepers.specs.Group.{TellsLogs, logs_after_turn, replica_node, replica_ghosts}
use Rattle.desk_epoch_keepers.proofs.Deeds.{tells_log}
use Rattle.desk_epoch_keepers.proofs.Moves.{Moved, Stands, moved_as, moved_then}
use Rattle.desk_epoch_keepers.proofs.ReplicaMoves.{CameMail, ItemMoved, Took, WasSentMail, does_moves, logs_with}
use Rattle.desk_epoch_keepers.proofs.ReplicaMoves.{mail_tells, refused_moves, stands_then, tells_first, tells_last}
use Rattle.desk_epoch_keepers.proofs.ReplicaMoves.{sends_as, then_moves}
use Rattle.desk_epoch_keepers.proofs.Reported.{end_moves}

-- A message that may carry no log tells none.
carries_none : (message : Message) → may_carry_log message ≡ false → tells_log message ≡ false
carries_none (Prepare from view place commit entry) h = refl
carries_none (PrepareOk from view place) h = refl
carries_none (Commit from view commit) h = refl
carries_none (StartViewChange from view) h = refl
carries_none (DoViewChange from view normal commit log) h = refl
carries_none (StartView from view commit log) h = refl
carries_none (GetState from view base) h = refl
carries_none (NewState from view base commit entries) h = h

-- An item that ends no turn tells no log.
ends_none : (item : Item) → ends_turn item ≡ false → mail_tells item ≡ false
ends_none (mail.Request session entry) h = refl
ends_none (mail.Packet p) h = carries_none p.packet h
ends_none mail.Tick h = refl
ends_none mail.Stop h = refl

-- what was sent stays sent
mail_later : (sent later : List (ℕ × EpochPacket)) (i : ℕ) (item : Item) →
    ((x : ℕ × EpochPacket) → Contains sent x → Contains later x) → WasSentMail sent i item → WasSentMail later i item
mail_later sent later i (mail.Request session entry) f h = tt
mail_later sent later i (mail.Packet p) f h = f (i, p) h
mail_later sent later i mail.Tick f h = tt
mail_later sent later i mail.Stop f h = tt

all_later : (sent later : List (ℕ × EpochPacket)) (i : ℕ) (turn : List Item) →
    ((x : ℕ × EpochPacket) → Contains sent x → Contains later x) → AllByRecursion (WasSentMail sent i) turn →
    AllByRecursion (WasSentMail later i) turn
all_later sent later i [] f h = tt
all_later sent later i (item ∷ more) f h = (mail_later sent later i item f h.0, all_later sent later i more f h.1)

-- an item, done or refused
meets_moves : {T S : Type 0} (may_hold : T → ℕ → SavedValue → Type 0) (Came : Entry → Type 0) (n most i : ℕ)
    (g : EpochNodes) (old new : DeferringReplica T S) (logs : List (List Entry)) (item : Item)
    (packets : List (ℕ × EpochPacket)) (given : List Answer) → Stands n most i g (replica_node old) logs →
    WasSentMail g.sent i item → CameMail Came item → AllByRecursion Came old.deferred.items →
    TellsLogs i logs packets → MeetsItem (replica_ghosts may_hold) old item packets given new →
    ItemMoved Came n most i g old.replica new.replica logs packets (mail_tells item)
meets_moves may_hold Came n most i g old new logs item packets given stands sent came held tells (inl does) =
    does_moves may_hold Came n most i g old new logs item packets given stands sent came held tells does
meets_moves may_hold Came n most i g old new logs item packets given stands sent came held tells
    (inr (none, no_answers, refused)) =
    refused_moves Came n most i g old.replica new.replica logs packets (mail_tells item) stands refused.0 none

-- What comes by a turn, and what is held, is of such requests, after each of its items.
abbrev pub HeldCome : (T S : Type 0) → (T → ℕ → SavedValue → Type 0) → (Entry → Type 0) → Type 0
HeldCome T S may_hold Came = (old new : DeferringReplica T S) (item : Item) (packets : List (ℕ × EpochPacket))
    (given : List Answer) → MeetsItem (replica_ghosts may_hold) old item packets given new → CameMail Came item →
    AllByRecursion Came old.deferred.items → AllByRecursion Came new.deferred.items

-- The items of a turn, one after the other: none but the last may tell a log.
pub turn_moves : {T S : Type 0} (may_hold : T → ℕ → SavedValue → Type 0) (Came : Entry → Type 0) (n most i : ℕ)
    (g : EpochNodes) (old new : DeferringReplica T S) (logs : List (List Entry)) (before : List Item) (last : Item)
    (packets : List (ℕ × EpochPacket)) (given : List Answer) → HeldCome T S may_hold Came →
    Stands n most i g (replica_node old) logs → AllByRecursion (WasSentMail g.sent i) (before ++ last ∷ []) →
    AllByRecursion (CameMail Came) (before ++ last ∷ []) → AllByRecursion Came old.deferred.items →
    TellsLogs i logs packets → NoneEnds before →
    MeetsItems (replica_ghosts may_hold) old (before ++ last ∷ []) packets given new →
    ItemMoved Came n most i g old.replica new.replica logs packets (mail_tells last)
turn_moves {T} {S} may_hold Came n most i g old new logs [] last packets given comes stands sent came held tells none
    (mid, first, rest, early, late, packets_are, given_are, one, (rest_none, late_none, same)) =
    let m =
    meets_moves may_hold Came n most i g old mid logs last first early stands sent.0 came.0 held
    (tells_first i logs packets first rest packets_are tells) one in
    subst (λ (ps : List (ℕ × EpochPacket)). ItemMoved Came n most i g old.replica new.replica logs ps
    (mail_tells last))
    (sym (packets_are ∙ (ap (λ (ps : List (ℕ × EpochPacket)). first ++ ps) rest_none ∙ append-nil first)))
    (subst (λ (r : DeferringReplica T S). ItemMoved Came n most i g old.replica r.replica logs first
    (mail_tells last)) (sym same) m)
turn_moves {T} {S} may_hold Came n most i g old new logs (item ∷ more) last packets given comes stands sent came held
    tells none (mid, first, rest, early, late, packets_are, given_are, one, others) =
    let m : ItemMoved Came n most i g old.replica mid.replica logs first false =
    subst (λ (b : Bool). ItemMoved Came n most i g old.replica mid.replica logs first b)
    (ends_none item none.0)
    (meets_moves may_hold Came n most i g old mid logs item first early stands sent.0 came.0 held
    (tells_first i logs packets first rest packets_are tells) one) in
    let all =
    turn_moves may_hold Came n most i m.moved.later mid new logs more last rest late comes
    (stands_then Came n most i g old.replica mid.replica logs first stands m)
    (all_later g.sent m.moved.later.sent i (more ++ last ∷ []) (λ x c. m.moved.sent x (inl c)) sent.1) came.1
    (comes old mid item first early one came.0 held)
    (tells_last i logs packets first rest packets_are tells) none.1 others in
    subst (λ (ps : List (ℕ × EpochPacket)). ItemMoved Came n most i g old.replica new.replica logs ps
    (mail_tells last)) (sym packets_are)
    (then_moves Came n most i g old.replica mid.replica new.replica logs first rest (mail_tells last) m all)

-- The logs behind a replica after a turn are those that its past is of.
pub logs_of_turn : {T S : Type 0} (logs : List (List Entry)) (log : Option (List Entry)) (old : ReplicaValue T S)
    (made : DeferringReplica T S) → old.unsaved ≡ false → made.replica.reported ≡ reported_after old.reported log →
    made.replica.unsaved ≡ unsaved_after old.unsaved log → logs_with logs log ≡ logs_after_turn logs made
logs_of_turn logs None old made saved reported unsaved =
    sym (ap (λ (b : Bool). cond b (logs ++ reported_of made.replica ∷ []) logs) (unsaved ∙ saved))
logs_of_turn logs (Some log) old made saved reported unsaved =
    let is : reported_of made.replica ≡ log = ap (λ (o : Option SavedValue). log_of_state o) reported in
    sym (ap (λ (b : Bool). cond b (logs ++ reported_of made.replica ∷ []) logs) unsaved
    ∙ ap (λ (es : List Entry). logs ++ es ∷ []) is)

-- no log was reported, so none is yet to be saved
still_saved : {T S : Type 0} (Came : Entry → Type 0) (n most i : ℕ) (g : EpochNodes)
    (old new : DeferringReplica T S) (logs : List (List Entry)) (packets : List (ℕ × EpochPacket)) →
    old.replica.unsaved ≡ false → ItemMoved Came n most i g old.replica new.replica logs packets false →
    new.replica.unsaved ≡ false
still_saved Came n most i g old new logs packets saved m = by_log m.log m.took m.unsaved
  where
    by_log : (log : Option (List Entry)) → Took false log →
        new.replica.unsaved ≡ unsaved_after old.replica.unsaved log → new.replica.unsaved ≡ false
    by_log None t now = now ∙ saved
    by_log (Some log) t now = let no : false ≡ true = t in cc

-- the last item, by which a log was reported
last_moves : {T S : Type 0} (may_hold : T → ℕ → SavedValue → Type 0) (Came : Entry → Type 0) (n most i : ℕ)
    (g : EpochNodes) (old new : DeferringReplica T S) (logs : List (List Entry)) (item : Item)
    (packets : List (ℕ × EpochPacket)) (given : List Answer) → Stands n most i g (replica_node old) logs →
    WasSentMail g.sent i item → CameMail Came item → AllByRecursion Came old.deferred.items →
    TellsLogs i logs packets → old.replica.unsaved ≡ false →
    MeetsItem (replica_ghosts may_hold) old item packets given new → new.replica.unsaved ≡ true →
    Moved Came n most i g (started_again (replica_node new)) (logs ++ reported_of new.replica ∷ []) []
last_moves may_hold Came n most i g old new logs item packets given stands sent came held tells saved one unsaved =
    by_item item sent came one
  where
    quiet : (x : Item) → mail_tells x ≡ false →
        ItemMoved Came n most i g old.replica new.replica logs packets (mail_tells x) →
        Moved Came n most i g (started_again (replica_node new)) (logs ++ reported_of new.replica ∷ []) []
    quiet x h m =
        let no : true ≡ false =
        sym unsaved
        ∙ still_saved Came n most i g old new logs packets saved
        (subst (λ (b : Bool). ItemMoved Came n most i g old.replica new.replica logs packets b) h m) in cc

    by_item : (x : Item) → WasSentMail g.sent i x → CameMail Came x →
        MeetsItem (replica_ghosts may_hold) old x packets given new →
        Moved Came n most i g (started_again (replica_node new)) (logs ++ reported_of new.replica ∷ []) []
    by_item (mail.Packet p) sent came (inl (step, mid, does, sends, given_is, deferred_is)) =
        let s = sends_as may_hold mid new.replica step packets sends in
        let e =
        end_moves Came n most i g old.replica mid step logs (items.Packet p) stands sent saved does
        (sym s.unsaved_is ∙ unsaved) in
        let log : reported_of new.replica ≡ e.0 =
        ap (λ (o : Option SavedValue). log_of_state o) (s.reported_is ∙ e.1) in
        subst (λ (v : EpochValue). Moved Came n most i g (started_again v) (logs ++ reported_of new.replica ∷ []) [])
        (ap (λ (m : MemberValue). m.node) (sym s.member_is))
        (subst (λ (es : List Entry). Moved Came n most i g (started_again mid.member.node) (logs ++ es ∷ []) [])
        (sym log) e.2)
    by_item (mail.Packet p) sent came (inr (none, no_answers, refused)) =
        let no : true ≡ false = sym unsaved ∙ (refused.0.unsaved_is ∙ saved) in cc
    by_item (mail.Request session entry) sent came one =
        quiet (mail.Request session entry) refl
        (meets_moves may_hold Came n most i g old new logs (mail.Request session entry) packets given stands sent came
        held tells one)
    by_item mail.Tick sent came one =
        quiet mail.Tick refl
        (meets_moves may_hold Came n most i g old new logs mail.Tick packets given stands sent came held tells one)
    by_item mail.Stop sent came one =
        quiet mail.Stop refl
        (meets_moves may_hold Came n most i g old new logs mail.Stop packets given stands sent came held tells one)

-- A turn in which a log was reported by its last item: the node ends before the first state after it was saved.
pub broken_moves : {T S : Type 0} (may_hold : T → ℕ → SavedValue → Type 0) (Came : Entry → Type 0) (n most i : ℕ)
    (g : EpochNodes) (old new : DeferringReplica T S) (logs : List (List Entry)) (before : List Item) (last : Item)
    (packets : List (ℕ × EpochPacket)) (given : List Answer) → HeldCome T S may_hold Came →
    Stands n most i g (replica_node old) logs → AllByRecursion (WasSentMail g.sent i) (before ++ last ∷ []) →
    AllByRecursion (CameMail Came) (before ++ last ∷ []) → AllByRecursion Came old.deferred.items →
    TellsLogs i logs packets → NoneEnds before → old.replica.unsaved ≡ false →
    MeetsItems (replica_ghosts may_hold) old (before ++ last ∷ []) packets given new → new.replica.unsaved ≡ true →
    Moved Came n most i g (started_again (replica_node new)) (logs ++ reported_of new.replica ∷ []) []
broken_moves {T} {S} may_hold Came n most i g old new logs [] last packets given comes stands sent came held tells none
    saved (mid, first, rest, early, late, packets_are, given_are, one, (rest_none, late_none, same)) unsaved =
    let now : mid.replica.unsaved ≡ true =
    ap (λ (r : DeferringReplica T S). r.replica.unsaved) (sym same) ∙ unsaved in
    subst (λ (r : DeferringReplica T S). Moved Came n most i g (started_again (replica_node r))
    (logs ++ reported_of r.replica ∷ []) []) (sym same)
    (last_moves may_hold Came n most i g old mid logs last first early stands sent.0 came.0 held
    (tells_first i logs packets first rest packets_are tells) saved one now)
broken_moves {T} {S} may_hold Came n most i g old new logs (item ∷ more) last packets given comes stands sent came held
    tells none saved (mid, first, rest, early, late, packets_are, given_are, one, others) unsaved =
    let m : ItemMoved Came n most i g old.replica mid.replica logs first false =
    subst (λ (b : Bool). ItemMoved Came n most i g old.replica mid.replica logs first b)
    (ends_none item none.0)
    (meets_moves may_hold Came n most i g old mid logs item first early stands sent.0 came.0 held
    (tells_first i logs packets first rest packets_are tells) one) in
    let all =
    broken_moves may_hold Came n most i m.moved.later mid new logs more last rest late comes
    (stands_then Came n most i g old.replica mid.replica logs first stands m)
    (all_later g.sent m.moved.later.sent i (more ++ last ∷ []) (λ x c. m.moved.sent x (inl c)) sent.1) came.1
    (comes old mid item first early one came.0 held)
    (tells_last i logs packets first rest packets_are tells) none.1
    (still_saved Came n most i g old mid logs first saved m) others unsaved in
    moved_as Came n most i g _ _ _ _ (first ++ []) [] refl refl (λ x c. absurd (Contains-none x c))
    (moved_then Came n most i g (replica_node mid) (started_again (replica_node new)) (logs_with logs m.log)
    (logs ++ reported_of new.replica ∷ []) first [] m.moved all)

-- what is held after the items of a turn
pub turn_held : {T S : Type 0} (may_hold : T → ℕ → SavedValue → Type 0) (Came : Entry → Type 0)
    (old new : DeferringReplica T S) (turn : List Item) (packets : List (ℕ × EpochPacket)) (given : List Answer) →
    HeldCome T S may_hold Came → AllByRecursion (CameMail Came) turn → AllByRecursion Came old.deferred.items →
    MeetsItems (replica_ghosts may_hold) old turn packets given new → AllByRecursion Came new.deferred.items
turn_held {T} {S} may_hold Came old new [] packets given comes came held (none, no_answers, same) =
    subst (λ (r : DeferringReplica T S). AllByRecursion Came r.deferred.items) (sym same) held
turn_held may_hold Came old new (item ∷ more) packets given comes came held
    (mid, first, rest, early, late, packets_are, given_are, one, others) =
    turn_held may_hold Came mid new more rest late comes came.1 (comes old mid item first early one came.0 held) others
