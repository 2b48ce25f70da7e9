-- What a keeper's clauses say of a node with its store, from what they say of any replica.
use Rattle.std.proofs.Common.{◌≡◌, ◌≢◌, ◌++◌, ℕ, List, [], ◌∷◌, refl, sym, ◌∙◌, ap, subst, inl, inr}
use Rattle.std.proofs.Common.{MatchBool, length, take, zero, suc, ◌≤◌, arith}
use Rattle.std.proofs.lemmas.List.{length-take}
use mathlib.Core.List.{IsPrefix}
use Rattle.desk_types.specs.declared.command.Entry.{Entry}
use Rattle.desk_types.specs.declared.owner.Owner.{Owner}
use Rattle.desk_types.specs.declared.epoch_packet.EpochPacket.{EpochPacket}
use Rattle.desk_types.specs.declared.refusal.Refusal.{Refusal}
use Rattle.desk_log.specs.Entries.{IsLogPrefix}
use Rattle.desk_log.specs.SavedValue.{SavedValue, committed_entries}
use Rattle.desk_log.specs.declared.state_store.StateStore.{Ghosts as StoreGhosts}
use Rattle.desk_log.proofs.KnownPrefix.{front_after}
use Rattle.desk_mailbox.specs.declared.item.Item.{Item}
use Rattle.desk_mailbox.specs.declared.rule.SentItem.{SentItem}
use Rattle.desk_node.specs.NodeValue.{IsSameNode}
use Rattle.desk_replica.specs.declared.answer.Answer.{Answer}
use Rattle.desk_threads.specs.declared.handing.Out.{Ghosts as OutGhosts}
use Rattle.desk_threads.specs.declared.saved_node.SavedNode.{SavedNode}
use Rattle.desk_threads.specs.Filed.{IsFiled, IsUnfiled}
use Rattle.desk_threads.specs.ItemAnswers.{AnswersSessions}
use Rattle.desk_threads.specs.OwnedValue.{OwnedValue, DoesItem, DoesItems}
use Rattle.desk_threads.specs.Replicas.{MeetsItem, MeetsItems}
use Rattle.desk_threads.specs.Runs.{items_in, Ran, RanInTurns, RanToLast, RanToTurn, Stand, TakesLast, TakesLastItem}
use Rattle.desk_threads.specs.Runs.{TakesTurn}
use Rattle.desk_threads.specs.SavedItems.{DoesAndForgets, DoesAndFails, MeetsAndSaves, MeetsAndFails}
use Rattle.desk_threads.specs.SavedItems.{MaySave, RefusesAndForgets}
use Rattle.desk_threads.specs.SavedNodes.{saved_node_replica, node_saving, SavedNodeRefuses, SavesNode}
use Rattle.desk_replica.specs.Saving.{Advances, MayForget, MayPrepare, GoesOnAndForgets, LogsGoOn, StaysSaved}
use Rattle.desk_threads.specs.Telling.{AnswersItems}
use Rattle.desk_threads.proofs.ReplicaItems.{node_replica, node_items}

-- Nothing is reported to a node, so it stays as it is.
pub node_forgets_nothing : {S : Type 0} (g : StoreGhosts S) (old new : SavedNode S) →
    MayForget (node_saving g) old new → new ≡ old
node_forgets_nothing g old new (inl same) = same
node_forgets_nothing g old new (inr same) = same

-- It has nothing to prepare,
pub node_prepares_nothing : {S : Type 0} (g : StoreGhosts S) (old new : SavedNode S) →
    MayPrepare (node_saving g) old new → new ≡ old
node_prepares_nothing g old new (inl same) = same
node_prepares_nothing g old new (inr same) = same

-- and no next epoch, so nothing is done between two turns.
pub node_advances_nothing : {S : Type 0} (g : StoreGhosts S) (old new : SavedNode S)
    (packets : List (ℕ × EpochPacket)) → Advances (node_saving g) old packets new → (packets ≡ []) × (new ≡ old)
node_advances_nothing g old new packets (begun, inl (none, same), prepares) =
    (none, node_prepares_nothing g begun new prepares ∙ same)
node_advances_nothing g old new packets (begun, inr begins, prepares) = absurd begins

-- And where items of it may have been saved, nothing goes out for that.
node_may_save : {S : Type 0} (g : StoreGhosts S) (made new : SavedNode S) (packets : List (ℕ × EpochPacket)) →
    MaySave (node_saving g) made packets new → (packets ≡ []) × (new.owned ≡ made.owned)
node_may_save {S} g made new packets (inl (none, same)) = (none, ap (λ (r : SavedNode S). r.owned) same)
node_may_save {S} g made new packets (inr (end, (stored, saves, forgets), on)) =
    let a = node_advances_nothing g end new packets on in (
      a.0,
      ap (λ (r : SavedNode S). r.owned) (a.1 ∙ node_forgets_nothing g stored end forgets) ∙ saves.0,
    )

-- Nor can a beginning of it fail: turns that failed end with one that was not saved,
pub node_ran_to_turn : {O S : Type 0} (out : OutGhosts O) (g : StoreGhosts S) (most : ℕ) (fault : Refusal)
    (taken taken_now : List (SentItem Item)) (old new : Stand O (SavedNode S)) →
    RanToTurn out saved_node_replica (node_saving g) most fault taken old taken_now new →
    (before : List (SentItem Item)) × (end : Stand O (SavedNode S))
    × RanInTurns out saved_node_replica (node_saving g) most taken old before end
    × TakesLast saved_node_replica (node_saving g) most fault before end taken_now new
node_ran_to_turn out g most fault taken taken_now old new (before, end, ran, inl last) = (before, end, ran, last)
node_ran_to_turn out g most fault taken taken_now old new (before, end, ran, inr (same, stopped)) = absurd stopped.stops

-- and items that failed with one that was not.
pub node_ran_to_last : {O S : Type 0} (out : OutGhosts O) (g : StoreGhosts S) (fault : Refusal)
    (taken taken_now : List (SentItem Item)) (old new : Stand O (SavedNode S)) →
    RanToLast out saved_node_replica (node_saving g) fault taken old taken_now new →
    (before : List (SentItem Item)) × (end : Stand O (SavedNode S))
    × Ran out saved_node_replica (node_saving g) taken old.replica old.out before end.replica new.out
    × g.keeps old.replica.store end.replica.store
    × TakesLastItem saved_node_replica (node_saving g) fault before end taken_now new
node_ran_to_last out g fault taken taken_now old new (before, end, ran, keeps, inl last) =
    (before, end, ran, keeps, last)
node_ran_to_last out g fault taken taken_now old new (before, end, ran, keeps, inr (same, stops)) = absurd stops

saved_item : {S : Type 0} (k new : SavedNode S) (item : Item) (packets : List (ℕ × EpochPacket))
    (answers : List Answer) → MeetsItem saved_node_replica k item packets answers new →
    MeetsItem node_replica k.owned item packets answers new.owned × (new.store ≡ k.store)
saved_item k new item packets answers (inl (does, same)) = (inl does, same)
saved_item k new item packets answers (inr (none, silent, (refused, same))) = (inr (none, silent, refused), same)

-- what items make of the node, and that they leave the store
pub saved_items : {S : Type 0} (k new : SavedNode S) (items : List Item) (packets : List (ℕ × EpochPacket))
    (answers : List Answer) → MeetsItems saved_node_replica k items packets answers new →
    MeetsItems node_replica k.owned items packets answers new.owned × (new.store ≡ k.store)
saved_items {S} k new [] packets answers (none, silent, same) =
    ((none, silent, ap (λ (r : SavedNode S). r.owned) same), ap (λ (r : SavedNode S). r.store) same)
saved_items k new (item ∷ more) packets answers (mid, first, last, early, late, e, f, one, rest) =
    let o = saved_item k mid item first early one in
    let r = saved_items mid new more last late rest in
    ((mid.owned, first, last, early, late, e, f, o.0, r.0), r.1 ∙ o.1)

-- Items of the node with saves between them are its items.
saves_items : {S : Type 0} (g : StoreGhosts S) (k new : SavedNode S) (items : List Item)
    (packets : List (ℕ × EpochPacket)) (answers : List Answer) →
    MeetsAndSaves saved_node_replica (node_saving g) k items packets answers new →
    MeetsItems node_replica k.owned items packets answers new.owned
saves_items {S} g k new [] packets answers (none, silent, same) =
    (none, silent, ap (λ (r : SavedNode S). r.owned) same)
saves_items {S} g k new (item ∷ more) packets answers
    (made, mid, first, between, last, early, late, e, f, one, saved, rest) =
    let o = saved_item k made item first early one in
    let is = node_may_save g made mid between saved in (
      made.owned,
      first,
      last,
      early,
      late,
      e ∙ ap (λ (w : List (ℕ × EpochPacket)). first ++ (w ++ last)) is.0,
      f,
      o.0,
      subst (λ (k : OwnedValue). MeetsItems node_replica k more last late new.owned) is.1
          (saves_items g mid new more last late rest),
    )

-- A turn of the node: its items were done or refused, and its state was saved.
pub node_turn : {O S : Type 0} (out : OutGhosts O) (g : StoreGhosts S) (most : ℕ) (turn : List Item)
    (old new : Stand O (SavedNode S)) (took : TakesTurn out saved_node_replica (node_saving g) most turn old new) →
    DoesItems old.replica.owned turn took.packets new.replica.owned
    × AnswersItems old.replica.owned turn took.answers new.replica.owned
    × IsFiled g old.replica.store new.replica.store new.replica.owned.node.saved
node_turn {O} {S} out g most turn old new took =
    let m = saved_items old.replica took.made turn took.packets took.answers took.does in
    let d = node_items old.replica.owned took.made.owned turn took.packets took.answers m.0 in
    let saved = subst (λ (r : SavedNode S). SavesNode g took.made r)
    (sym (node_forgets_nothing g took.stored new.replica took.forgets)) took.saved in
    let same = sym saved.0 in (
      subst (λ (k : OwnedValue). DoesItems old.replica.owned turn took.packets k) same d.0,
      subst (λ (k : OwnedValue). AnswersItems old.replica.owned turn took.answers k) same d.1,
      subst (λ (t : S). IsFiled g t new.replica.store new.replica.owned.node.saved) m.1 saved.1,
    )

-- And what it published is committed at the node.
pub node_turn_shown : {O S : Type 0} (out : OutGhosts O) (g : StoreGhosts S) (most : ℕ) (turn : List Item)
    (old new : Stand O (SavedNode S)) → TakesTurn out saved_node_replica (node_saving g) most turn old new →
    IsPrefix new.published (committed_entries new.replica.owned.node.saved)
    × MatchBool new.all_published (new.published ≡ committed_entries new.replica.owned.node.saved)
    (new.published ≢ committed_entries new.replica.owned.node.saved)
node_turn_shown {O} {S} out g most turn old new took =
    let cut : committed_entries took.stored.owned.node.saved ≡ committed_entries new.replica.owned.node.saved =
    ap (λ (r : SavedNode S). committed_entries r.owned.node.saved)
    (sym (node_forgets_nothing g took.stored new.replica took.forgets)) in (
      subst (λ (w : List Entry). IsPrefix new.published w) cut took.publishes.shown,
      subst (λ (w : List Entry). MatchBool new.all_published (new.published ≡ w) (new.published ≢ w)) cut took.whole,
    )

-- What a run did with all that it took.
pub node_ran : {O S : Type 0} (out : OutGhosts O) (g : StoreGhosts S) (taken taken_now : List (SentItem Item))
    (old new : SavedNode S) (was now : O) →
    Ran out saved_node_replica (node_saving g) taken old was taken_now new now →
    (sent : List (SentItem Item)) × (packets : List (ℕ × EpochPacket)) × (taken_now ≡ taken ++ sent)
    × DoesItems old.owned (items_in sent) packets new.owned × out.takes was packets now
node_ran out g taken taken_now old new was now (sent, packets, answers, e, met, gave) = (
  sent,
  packets,
  e,
  (node_items old.owned new.owned (items_in sent) packets answers
      (saves_items g old new (items_in sent) packets answers met)).0,
  gave,
)

-- A turn that was not saved: its items were done or refused, and the store is what it promises of that.
pub node_fails : {S : Type 0} (g : StoreGhosts S) (old new : SavedNode S) (turn : List Item) →
    MeetsAndFails saved_node_replica (node_saving g) old turn new →
    ((packets : List (ℕ × EpochPacket)) × DoesItems old.owned turn packets new.owned)
    × IsUnfiled g old.store new.store old.owned.node.saved new.owned.node.saved
node_fails {S} g old new turn (packets, answers, made, met, was, failed) =
    let m = saved_items old made turn packets answers met in
    let d = node_items old.owned made.owned turn packets answers m.0 in (
      (packets, subst (λ (k : OwnedValue). DoesItems old.owned turn packets k) (sym failed.0) d.0),
      record {
        last = was.0;
        left = subst (λ (k : OwnedValue). g.leaves old.store k.node.saved new.store) (sym failed.0)
            (subst (λ (t : S). g.leaves t made.owned.node.saved new.store) m.1 failed.1);
      },
    )

-- An item that was done and saved, as `Keeper::handle` promises it.
pub node_did : {S : Type 0} (g : StoreGhosts S) (old new : SavedNode S) (item : Item) (packets : List (ℕ × EpochPacket))
    (answers : List Answer) → DoesAndForgets saved_node_replica (node_saving g) old item packets answers new →
    DoesItem old.owned item packets new.owned × AnswersSessions old.owned item answers
    × IsSameNode old.owned.node new.owned.node
node_did {S} g old new item packets answers (stored, (made, does, saved), forgets) =
    let same : made.owned ≡ new.owned =
    sym (ap (λ (r : SavedNode S). r.owned) (node_forgets_nothing g stored new forgets) ∙ saved.0) in (
      subst (λ (k : OwnedValue). DoesItem old.owned item packets k) same does.0.0,
      does.0.1,
      subst (λ (k : OwnedValue). IsSameNode old.owned.node k.node) same does.0.2,
    )

-- One that was refused and counted.
pub node_counted : {S : Type 0} (g : StoreGhosts S) (old new : SavedNode S) →
    RefusesAndForgets saved_node_replica (node_saving g) old new → SavedNodeRefuses old new
node_counted {S} g old new (counted, refused, forgets) =
    subst (λ (r : SavedNode S). SavedNodeRefuses old r) (sym (node_forgets_nothing g counted new forgets)) refused

-- And one whose save failed.
pub node_made : {S : Type 0} (g : StoreGhosts S) (old new : SavedNode S) (item : Item)
    (packets : List (ℕ × EpochPacket)) (answers : List Answer) →
    DoesAndFails saved_node_replica (node_saving g) old item packets answers new →
    DoesItem old.owned item packets new.owned
    × IsUnfiled g old.store new.store old.owned.node.saved new.owned.node.saved
node_made {S} g old new item packets answers (made, does, was, failed) = (
  subst (λ (k : OwnedValue). DoesItem old.owned item packets k) (sym failed.0) does.0.0,
  record {
    last = was.0;
    left = subst (λ (k : OwnedValue). g.leaves old.store k.node.saved new.store) (sym failed.0)
        (subst (λ (t : S). g.leaves t made.owned.node.saved new.store) does.1 failed.1);
  },
)

-- Its log goes on, and nothing else happens to it.
pub node_goes_on : {S : Type 0} (g : StoreGhosts S) (old new : SavedNode S) → GoesOnAndForgets (node_saving g) old new →
    LogsGoOn (node_saving g) old new
node_goes_on {S} g old new (end, on, forgets) =
    subst (λ (r : SavedNode S). LogsGoOn (node_saving g) old r) (sym (node_forgets_nothing g end new forgets)) on

-- It is the same node, and its state is the one that its store saved last.
pub node_on : {S : Type 0} (g : StoreGhosts S) (old new : SavedNode S) → LogsGoOn (node_saving g) old new →
    IsSameNode old.owned.node new.owned.node
node_on g old new on = record {
  domain_is = ap (λ (o : Owner). o.domain) on.owner;
  id_is = ap (λ (o : Owner). o.id) on.owner;
  n_is = ap (λ (o : Owner). o.n) on.owner;
}

pub node_stays : {S : Type 0} (g : StoreGhosts S) (old new : SavedNode S) → StaysSaved (node_saving g) old new →
    IsFiled g old.store new.store new.owned.node.saved
node_stays g old new stays = record { running = stays.0.1; last = stays.0.0; keeps = stays.1 }

take_known : (n : ℕ) (xs : List Entry) → take (length (take n xs)) xs ≡ take n xs
take_known zero xs = refl
take_known (suc n) [] = refl
take_known (suc n) (x ∷ xs) = ap (λ w. x ∷ w) (take_known n xs)

-- So many entries as were committed stand in both logs, where they stay committed.
pub known_front : (known : ℕ) (old new : SavedValue) → known ≡ length (committed_entries old) →
    IsLogPrefix (committed_entries old) (committed_entries new) →
    ((known ≤ length old.log) × (known ≤ length new.log)) × (take known old.log ≡ take known new.log)
known_front known old new is h =
    let within : known ≤ length old.log = omega (arith, is, length-take old.commit old.log) in
    let same : committed_entries old ≡ take known old.log =
    sym (take_known old.commit old.log) ∙ ap (λ n. take n old.log) (sym is) in
    let known_old : SavedValue = record { view = old.view; normal = old.normal; log = old.log; commit = known } in
    front_after known known_old known_old known_old new new refl within refl refl refl
    (subst (λ w. IsLogPrefix w (committed_entries new)) same h)

-- And so in the state that was saved last, and the one that is given.
pub known_stands : (known : ℕ) (before now last given : SavedValue) → last ≡ before → given ≡ now →
    known ≡ length (committed_entries before) → IsLogPrefix (committed_entries before) (committed_entries now) →
    ((known ≤ length last.log) × (known ≤ length given.log)) × (take known last.log ≡ take known given.log)
known_stands known before now last given is_last is_given is h =
    rw (is_last, is_given) (known_front known before now is h)
