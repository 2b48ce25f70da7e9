-- What a clause reads of the ends of a mailbox.
use Rattle.std.specs.Prelude.{◌≡◌, ℕ, zero, suc, ◌+◌, ◌%◌, ◌^◌, Bool, List, [], ◌∷◌, ◌++◌, map}
use Rattle.crossbeam_channel.specs.Claims.{view}
use Rattle.crossbeam_channel.specs.Ends.{sends_on, receives_on, ruled_capacity}
use Rattle.desk_mailbox.specs.declared.rule.SentItem.{SentItem}
use Rattle.desk_mailbox.specs.declared.sender.Sender.{Sender}
use Rattle.desk_mailbox.specs.declared.taker.Taker.{Taker}

-- the numbers below this one, in order
abbrev pub first_numbers : ℕ → List ℕ
first_numbers zero = []
first_numbers (suc n) = first_numbers n ++ n ∷ []

module _ {T : Type 0} where
  -- the numbers of senders, in order
  abbrev pub numbers_of : List (Sender T) → List ℕ
  numbers_of senders = map (λ (s : Sender T). s.number) senders

  -- the items that a sender put
  abbrev pub put_by : Sender T → List T
  put_by sender = (view sender.pass).put

  -- how many of a sender's puts were refused
  abbrev pub refused_puts : Sender T → ℕ
  refused_puts sender = sender.refused_puts

  -- One put more of the sender was refused. The count begins again after its greatest value.
  abbrev pub HasRefusedOnce : Sender T → Sender T → Type 0
  HasRefusedOnce old new = refused_puts new ≡ (refused_puts old + 1) % 2 ^ 64

  -- what the taker took, each item with its sender
  abbrev pub taken_by : Taker T → List (SentItem T)
  taken_by taker = (view taker.pass).taken

  -- whether the taker's last wait for an item found that no sender is left
  abbrev pub no_sender_left : Taker T → Bool
  no_sender_left taker = taker.no_sender_left

  -- the items that the taker's mailbox holds at most
  abbrev pub capacity_of : Taker T → ℕ
  capacity_of taker = ruled_capacity (receives_on taker.channel)

  -- The sender puts into the taker's mailbox.
  abbrev pub SendsTo : Taker T → Sender T → Type 0
  SendsTo taker sender = sends_on sender.channel ≡ receives_on taker.channel

  -- The sender puts into the taker's mailbox, and put nothing so far.
  abbrev pub IsNewSender : Taker T → Sender T → Type 0
  IsNewSender taker sender = SendsTo taker sender × (put_by sender ≡ [])

  -- It is the same sender of the same mailbox.
  abbrev pub IsSameSender : Sender T → Sender T → Type 0
  IsSameSender old new = (sends_on new.channel ≡ sends_on old.channel) × (new.number ≡ old.number)

  -- It is the taker of the same mailbox.
  abbrev pub IsSameTaker : Taker T → Taker T → Type 0
  IsSameTaker old new = receives_on new.channel ≡ receives_on old.channel
