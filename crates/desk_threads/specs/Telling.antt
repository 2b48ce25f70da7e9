-- What the sessions that wait hear of a turn.
use Rattle.std.specs.Prelude.{◌≡◌, ◌⊎◌, ◌++◌, ℕ, List, [], ◌∷◌, map, Option, Some, None, option_to_list}
use Rattle.std.specs.List.{AllZip}
use Rattle.desk_types.specs.declared.command.Entry.{Entry}
use Rattle.desk_types.specs.declared.epoch_packet.EpochPacket.{EpochPacket}
use Rattle.desk_mailbox.specs.declared.item.Item.{Item}
use Rattle.desk_mailbox.specs.declared.item.Item.TheVariants as items
use Rattle.desk_replica.specs.declared.answer.Answer.{Answer}
use Rattle.desk_threads.specs.OwnedValue.{OwnedValue, DoesItem, with_one_refused}
use Rattle.desk_threads.specs.ItemAnswers.{AnswersSessions}
use Rattle.desk_threads.specs.Waiting.{SessionValue, after_item, after_stop, HearsAll, Tells}

-- The item was done, and this is what the node answered; or it was refused, and there is no answer.
abbrev pub AnswersItem : OwnedValue → Item → List Answer → OwnedValue → Type 0
AnswersItem old item answers new =
    ((packets : List (ℕ × EpochPacket)) × DoesItem old item packets new × AnswersSessions old item answers)
    ⊎ ((answers ≡ []) × (new ≡ with_one_refused old))

-- So it is with items one after the other, and these are all answers, in order.
abbrev pub AnswersItems : OwnedValue → List Item → List Answer → OwnedValue → Type 0
AnswersItems old [] answers new = (answers ≡ []) × (new ≡ old)
AnswersItems old (item ∷ more) answers new =
    (mid : OwnedValue) × (first : List Answer) × (rest : List Answer) × (answers ≡ first ++ rest)
    × AnswersItem old item first mid × AnswersItems mid more rest new

-- what items make of the sessions, one after the other
abbrev pub after_items : List Item → List SessionValue → List SessionValue
after_items [] sessions = sessions
after_items (item ∷ more) sessions = after_items more (after_item item sessions)

-- a tick or a stop, of which sessions hear after all else of its turn
abbrev pub late_of : Item → Option Item
late_of (items.Request session entry) = None
late_of (items.Packet packet) = None
late_of items.Tick = Some items.Tick
late_of items.Stop = Some items.Stop

-- The items of a turn so far made this of the sessions, but for the late one, which is the last of them.
abbrev pub NotesItems : List Item → List SessionValue → List SessionValue → Option Item → Type 0
NotesItems turn old new late =
    (early : List Item) × (turn ≡ early ++ option_to_list late) × (new ≡ after_items early old)

-- The sessions heard of the late item, where there is one, and got before it and after it what can be reported of
-- these published entries.
abbrev pub TellsRoundLate : List Entry → Option Item → List SessionValue → List SessionValue → Type 0
TellsRoundLate list late heard new =
    (reported : List SessionValue) × AllZip (Tells list) heard reported
    × AllZip (Tells list) (after_items (option_to_list late) reported) new

-- The sessions of a turn that was saved: they heard of its items, then these answers, and got what can be reported of
-- these published entries; then so of the late item.
abbrev pub TellsOfTurn : List Entry → List Item → List Answer → List SessionValue → List SessionValue → Type 0
TellsOfTurn list turn answers old new =
    (noted : List SessionValue) × (late : Option Item) × (heard : List SessionValue)
    × NotesItems turn old noted late × AllZip (HearsAll answers) noted heard × TellsRoundLate list late heard new

-- The sessions of a turn that was not saved: no answer was heard, all that waited were refused, and that was reported.
abbrev pub TellsOfStop : List Entry → List Item → List SessionValue → List SessionValue → Type 0
TellsOfStop list turn old new = AllZip (Tells list) (map after_stop (after_items turn old)) new
