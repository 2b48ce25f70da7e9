-- The rule of a mailbox.
use Rattle.std.specs.Prelude.{◌≡◌, ◌==◌, ℕ, ◌+◌, ◌<◌, ◌≤◌, Bool, true, false, List, [], ◌∷◌, ◌++◌}
use mathlib.Core.Option.{some}
use lib.ListN.{get_elem?}
use Rattle.desk_mailbox.specs.declared.rule.SentItem.{SentItem}
use Rattle.desk_mailbox.specs.declared.rule.PassView.{PassView}

module _ {T : Type 0} where
  -- the items with one put before them where that is asked
  abbrev pub prepend_if : Bool → T → List T → List T
  prepend_if true x xs = x ∷ xs
  prepend_if false x xs = xs

  -- the items of the sender with this number, in order
  abbrev pub items_of : ℕ → List (SentItem T) → List T
  items_of number [] = []
  items_of number (s ∷ sent) = prepend_if (s.sender == number) s.item (items_of number sent)

  -- the first list is what the second begins with
  abbrev pub IsFirstOf : List T → List T → Type 0
  IsFirstOf first whole = (rest : List T) × (whole ≡ first ++ rest)

  -- A view that sends belongs to the one pass of its number, and has what was sent by that number.
  abbrev pub IsSenderView : (ℕ → ℕ) → ℕ → List (SentItem T) → ℕ → PassView T → Type 0
  IsSenderView owner senders sent pass v =
      v.sends ≡ true → (owner v.number ≡ pass) × (v.number < senders) × (items_of v.number sent ≡ v.put)

  -- A view that takes belongs to the one pass that does, and has the number of senders and what was taken.
  abbrev pub IsTakerView : ℕ → ℕ → List (SentItem T) → ℕ → PassView T → Type 0
  IsTakerView taker senders taken pass v =
      v.takes ≡ true → (taker ≡ pass) × (v.senders ≡ senders) × (v.taken ≡ taken)

  -- What each sender put is what was taken of it, and then what the mailbox holds of it.
  abbrev pub Delivers : List (SentItem T) → List (PassView T) → Type 0
  Delivers held views =
      (owner : ℕ → ℕ) × (taker : ℕ) × (senders : ℕ) × (taken : List (SentItem T))
      × ((number : ℕ) → senders ≤ number → items_of number (taken ++ held) ≡ [])
      × ((pass : ℕ) (v : PassView T) → get_elem? views pass ≡ some v →
      IsSenderView owner senders (taken ++ held) pass v × IsTakerView taker senders taken pass v)

  -- the view of a pass that was lent away
  abbrev pub nobody : PassView T
  nobody = record { sends = false; number = 0; put = []; takes = false; senders = 0; taken = [] }

  -- the view of the first pass, which takes
  abbrev pub first_view : PassView T
  first_view = record { sends = false; number = 0; put = []; takes = true; senders = 0; taken = [] }

  -- a sender's view after a put
  abbrev pub after_put : PassView T → SentItem T → PassView T
  after_put v sent = record v { put = v.put ++ sent.item ∷ [] }

  -- the taker's view after a take
  abbrev pub after_take : PassView T → SentItem T → PassView T
  after_take v sent = record v { taken = v.taken ++ sent ∷ [] }

  -- the taker's view once it has made one more sender
  abbrev pub with_one_sender_more : PassView T → PassView T
  with_one_sender_more v = record v { senders = v.senders + 1 }

  -- the view of that sender
  abbrev pub new_sender : PassView T → PassView T
  new_sender v = record { sends = true; number = v.senders; put = []; takes = false; senders = 0; taken = [] }

  -- the taker's view with a sender's that was lent to it
  abbrev pub with_sender : PassView T → PassView T → PassView T
  with_sender v w = record {
    sends = true;
    number = w.number;
    put = w.put;
    takes = true;
    senders = v.senders;
    taken = v.taken;
  }

  -- the taker's view once it has given the sender's back
  abbrev pub without_sender : PassView T → PassView T
  without_sender v = record {
    sends = false;
    number = 0;
    put = [];
    takes = true;
    senders = v.senders;
    taken = v.taken;
  }

  -- the sender's view once it has its own again
  abbrev pub sender_alone : PassView T → PassView T
  sender_alone v = record { sends = true; number = v.number; put = v.put; takes = false; senders = 0; taken = [] }

  -- What was taken of a sender, followed by what the mailbox holds of it, is what it put; for a pass that does both.
  abbrev pub Balances : PassView T → List (SentItem T) → Type 0
  Balances v held = v.sends ≡ true → v.takes ≡ true → items_of v.number (v.taken ++ held) ≡ v.put
