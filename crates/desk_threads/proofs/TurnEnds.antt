-- Turns at their end: what the parts of one make of a keeper.
use Rattle.std.proofs.Common.{◌≡◌, ◌<◌, ◌++◌, ℕ, suc, List, [], ◌∷◌, ◌∙◌, ap, subst, length, map, arith, refl}
use Rattle.std.proofs.Common.{Option, option_to_list, ◌≢◌, MatchBool}
use Rattle.std.specs.List.{AllZip}
use mathlib.Core.List.{IsPrefix}
use Rattle.desk_types.specs.declared.command.Entry.{Entry}
use Rattle.desk_mailbox.specs.declared.item.Item.{Item}
use Rattle.desk_mailbox.specs.declared.rule.SentItem.{SentItem}
use Rattle.desk_replica.specs.declared.answer.Answer.{Answer}
use Rattle.desk_replica.specs.declared.item_step.ItemStep.{ItemStep}
use Rattle.desk_threads.specs.declared.handing.Out.{Ghosts}
use Rattle.desk_replica.specs.declared.replica.Replica.{Ghosts as ReplicaGhosts}
use Rattle.desk_replica.specs.Saving.{Saving, MayForget}
use Rattle.desk_threads.specs.Noted.{PublishesOn, replica_history}
use Rattle.desk_threads.specs.Waiting.{SessionValue, HearsAll, Tells, after_stop}
use Rattle.desk_threads.specs.EndingItems.{OnlyLastEnds}
use Rattle.desk_threads.specs.Telling.{after_items, NotesItems, TellsOfStop, TellsRoundLate}
use Rattle.desk_threads.specs.Turns.{packets_of_steps, answers_of_steps, MetMore}
use Rattle.desk_threads.specs.Runs.{items_in, Stand, TakesTurn}
use Rattle.desk_threads.proofs.KeeperTurns.{some_few}
use Rattle.desk_threads.proofs.TurnTelling.{notes_all}

items_few : (sent : List (SentItem Item)) → length (items_in sent) ≡ length sent
items_few [] = refl
items_few (x ∷ xs) = ap suc (items_few xs)

fewer : (n m most : ℕ) → n ≡ m → m < most → n < most
fewer n m most e less = omega (arith, e, less)

-- the sessions of a turn, whose answers are those of its steps
reported_by : (list : List Entry) (xs ys : List Answer) (noted new : List SessionValue) (late : Option Item) →
    xs ≡ ys →
    (heard : List SessionValue) × AllZip (HearsAll xs) noted heard × TellsRoundLate list late heard new →
    (heard : List SessionValue) × AllZip (HearsAll ys) noted heard × TellsRoundLate list late heard new
reported_by list xs ys noted new late e (heard, a, b) = (heard, subst (λ w. AllZip (HearsAll w) noted heard) e a, b)

-- a turn that was saved
pub saved_turn : {O R : Type 0} (g : Ghosts O) (h : ReplicaGhosts R) (s : Saving R) (most : ℕ) (item : Item)
    (sent : List (SentItem Item)) (first last : List ItemStep) (old new : Stand O R) (made stored : R)
    (noted : List SessionValue) (late : Option Item) → length sent < most →
    OnlyLastEnds (item ∷ items_in sent) → first ≡ [] → MetMore h old.replica first (item ∷ items_in sent) made last →
    h.follows old.replica made → s.saves made stored → MayForget s stored new.replica →
    NotesItems (item ∷ items_in sent) old.waiting noted late →
    g.takes old.out (packets_of_steps last) new.out → IsPrefix old.published new.published →
    PublishesOn s stored old.published new.published →
    MatchBool new.all_published (new.published ≡ replica_history s stored old.published)
    (new.published ≢ replica_history s stored old.published) →
    (heard : List SessionValue) × AllZip (HearsAll (answers_of_steps last)) noted heard
    × TellsRoundLate new.published late heard new.waiting →
    TakesTurn g h s most (item ∷ items_in sent) old new
saved_turn g h s most item sent first last old new made stored noted late few early none (p, b, e, i, does) follows
    saved forgets notes gave grows publishes whole reported =
    let size = some_few item (items_in sent) most (fewer _ _ most (items_few sent) few) in
    let heard = reported_by new.published (answers_of_steps last) b noted new.waiting late
    (i ∙ ap (λ w. answers_of_steps w ++ b) none) reported in
    record {
      some = size.0;
      few = size.1;
      early = early;
      packets = p;
      answers = b;
      made = made;
      does = does;
      follows = follows;
      stored = stored;
      saved = saved;
      forgets = forgets;
      gave = subst (λ w. g.takes old.out w new.out) (e ∙ ap (λ w. packets_of_steps w ++ p) none) gave;
      grows = grows;
      publishes = publishes;
      whole = whole;
      reported = (noted, late, heard.0, notes, heard.1, heard.2);
    }

-- and the sessions of one that was not saved
pub unsaved_turn : (list : List Entry) (turn : List Item) (old noted new : List SessionValue) (late : Option Item) →
    NotesItems turn old noted late →
    AllZip (Tells list) (map after_stop (after_items (option_to_list late) noted)) new → TellsOfStop list turn old new
unsaved_turn list turn old noted new late notes reported =
    subst (λ w. AllZip (Tells list) (map after_stop w) new) (notes_all turn old noted late notes) reported
