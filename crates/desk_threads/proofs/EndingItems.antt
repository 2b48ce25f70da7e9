-- Turns whose items so far do not end them: of one item, and with more after.
use Rattle.std.proofs.Common.{◌≡◌, ◌++◌, Bool, false, List, [], ◌∷◌, refl, sym, ◌∙◌, ap, subst, append_assoc}
use Rattle.std.proofs.Common.{append-nil}
use Rattle.desk_mailbox.specs.declared.item.Item.{Item}
use Rattle.desk_mailbox.specs.declared.rule.SentItem.{SentItem}
use Rattle.desk_threads.specs.EndingItems.{ends_turn, NoneEnds, OnlyLastEnds}
use Rattle.desk_threads.specs.Runs.{items_in}
use Rattle.desk_threads.specs.Turns.{IsTurnSoFar, AddsToTurn}
use Rattle.desk_threads.proofs.KeeperRuns.{items_then}

none_more : (list : List Item) (item : Item) → NoneEnds list → ends_turn item ≡ false → NoneEnds (list ++ item ∷ [])
none_more [] item all last = (last, tt)
none_more (x ∷ list) item all last = (all.0, none_more list item all.1 last)

pub last_alone : (item : Item) → OnlyLastEnds (item ∷ [])
last_alone item = ([], item, refl, tt)

pub turn_of_one : (item : Item) (over : Bool) → over ≡ ends_turn item → IsTurnSoFar (item ∷ []) over
turn_of_one item over is = (last_alone item, λ goes_on. (sym is ∙ goes_on, tt))

pub adds_none : (over : Bool) → AddsToTurn [] over over
adds_none over = λ turn so_far. subst (λ t. IsTurnSoFar t over) (sym (append-nil turn)) so_far

pub adds_one : (sent : SentItem Item) (over over_now : Bool) → over ≡ false → over_now ≡ ends_turn sent.item →
    AddsToTurn (sent ∷ []) over over_now
adds_one sent over over_now goes_on is = λ turn so_far.
    let none : NoneEnds turn = so_far.1 goes_on in
    ((turn, sent.item, refl, none), λ still. none_more turn sent.item none (sym is ∙ still))

pub adds_then : (xs ys : List (SentItem Item)) (over mid now : Bool) → AddsToTurn xs over mid →
    AddsToTurn ys mid now → AddsToTurn (xs ++ ys) over now
adds_then xs ys over mid now a b = λ turn so_far.
    subst (λ t. IsTurnSoFar t now)
    (append_assoc turn (items_in xs) (items_in ys) ∙ ap (λ t. turn ++ t) (sym (items_then xs ys)))
    (b (turn ++ items_in xs) (a turn so_far))
