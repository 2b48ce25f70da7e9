-- What becomes of the sessions that wait for an answer.
use Rattle.std.specs.Prelude.{◌≡◌, ◌⊎◌, ℕ, ◌==◌, ◌&&◌, Bool, true, false, if◌then◌else◌, List, map, length}
use Rattle.std.specs.Prelude.{Option, Some, None, Result, Ok, Err, slice_set, MatchOption}
use Rattle.std.specs.List.{FoldsTo}
use Rattle.std.specs.Option.{option_or}
use Rattle.crossbeam_channel.specs.declared.err.TrySendError.{TrySendError}
use Rattle.crossbeam_channel.specs.declared.err.TrySendError.TheVariants as sends
use Rattle.desk_types.specs.declared.command.Entry.{Entry}
use Rattle.desk_types.specs.declared.refusal.Refusal.{Refusal}
use Rattle.desk_types.specs.declared.refusal.Refusal.TheVariants as refusals
use Rattle.desk_mailbox.specs.declared.item.Item.{Item}
use Rattle.desk_mailbox.specs.declared.item.Item.TheVariants as items
use Rattle.desk_published.specs.Reported.{is_request_at}
use Rattle.desk_published.specs.declared.reported.ReportedWord.{ReportedWord}
use Rattle.desk_published.specs.declared.reported.ReportedWord.TheVariants as words
use Rattle.desk_replica.specs.Answers.{TakesMemory}
use Rattle.desk_replica.specs.declared.answer.Answer.{Answer}
use Rattle.desk_replica.specs.declared.answer.Answer.TheVariants.{Committed, Refused}
use Rattle.desk_threads.specs.declared.awaits.Awaited.{Awaited}
use Rattle.desk_threads.specs.declared.awaits.Awaited.TheVariants as awaits
use Rattle.desk_threads.specs.declared.limits.TheConstants.{WAITING_TICKS}
use Rattle.desk_threads.specs.Keeper.{one_more}

-- a word to the client of a request, with what was published when it was made
pub record ReportedValue : Type 0 where
  pub published : List Entry
  pub client : ℕ
  pub number : ℕ
  pub word : ReportedWord

-- what a session waits for; a word for which its channel had no room; the client and the number of its last request;
-- and the ticks since that
pub record SessionValue : Type 0 where
  pub awaits : Awaited
  pub unsent : Option ReportedValue
  pub asked : Option (ℕ × ℕ)
  pub ticks : ℕ

-- a session that has asked nothing
abbrev pub idle : SessionValue
idle = record { awaits = awaits.Nothing; unsent = None; asked = None; ticks = 0 }

-- a session that has just made this request
abbrev pub asking : ℕ → ℕ → SessionValue
asking client number = record { awaits = awaits.Commit; unsent = None; asked = Some (client, number); ticks = 0 }

-- the session, which waits for this from now on
abbrev pub awaiting : Awaited → SessionValue → SessionValue
awaiting next s = record { awaits = next; unsent = s.unsent; asked = s.asked; ticks = s.ticks }

-- What is waited for is the commit or the publish of a request.
abbrev pub is_waiting : Awaited → Bool
is_waiting awaits.Commit = true
is_waiting (awaits.Publish place) = true
is_waiting (awaits.Refusal refusal) = false
is_waiting awaits.Nothing = false

-- A session whose request is open is to get this refusal.
abbrev pub given_up : Refusal → SessionValue → SessionValue
given_up refusal s = if is_waiting s.awaits then awaiting (awaits.Refusal refusal) s else s

-- with one tick more, up to the greatest number of them
abbrev pub with_tick : SessionValue → SessionValue
with_tick s = record { awaits = s.awaits; unsent = s.unsent; asked = s.asked; ticks = one_more WAITING_TICKS s.ticks }

-- after a tick: the last of the ticks gives up an open request
abbrev pub after_tick : SessionValue → SessionValue
after_tick s =
    if one_more WAITING_TICKS s.ticks == WAITING_TICKS then given_up refusals.Waiting (with_tick s) else with_tick s

-- after the node stopped
abbrev pub after_stop : SessionValue → SessionValue
after_stop s = given_up refusals.NodeStopped s

-- what an item makes of the sessions; a request is that of the session of its number, from 0, where there is one
abbrev pub after_item : Item → List SessionValue → List SessionValue
after_item (items.Request session entry) list = slice_set list session (asking entry.client entry.number)
after_item (items.Packet packet) list = list
after_item items.Tick list = map after_tick list
after_item items.Stop list = map after_stop list

-- The request that was made last is this one.
abbrev pub is_asked : ℕ → ℕ → Option (ℕ × ℕ) → Bool
is_asked client number None = false
is_asked client number (Some request) = (request.0 == client) && (request.1 == number)

-- What is waited for is a commit.
abbrev pub is_commit : Awaited → Bool
is_commit awaits.Commit = true
is_commit (awaits.Publish place) = false
is_commit (awaits.Refusal refusal) = false
is_commit awaits.Nothing = false

-- A session that waits for the commit of this request waits for that from now on.
abbrev pub answered : ℕ → ℕ → Awaited → SessionValue → SessionValue
answered client number next s =
    if is_commit s.awaits && is_asked client number s.asked then awaiting next s else s

-- what an answer makes of a session
abbrev pub heard : Answer → SessionValue → SessionValue
heard (Committed client number place) s = answered client number (awaits.Publish place) s
heard (Refused client number refusal) s = answered client number (awaits.Refusal refusal) s

-- The session heard the answer; or memory was refused for it, and the session waits on.
abbrev pub Hears : Answer → SessionValue → SessionValue → Type 0
Hears answer old new = (new ≡ heard answer old) ⊎ (TakesMemory answer × (new ≡ old))

-- The session heard the answers, one after the other.
abbrev pub HearsAll : List Answer → SessionValue → SessionValue → Type 0
HearsAll answers old new = FoldsTo (λ s answer t. Hears answer s t) old answers new

-- what is reported of a request, where these entries are published
abbrev pub said : List Entry → ℕ → ℕ → ReportedWord → ReportedValue
said list client number word = record { published = list; client = client; number = number; word = word }

-- what can be reported of a request: that it is published, only where it stands at its place
abbrev pub word_on : List Entry → ℕ → ℕ → Awaited → Option ReportedValue
word_on list client number (awaits.Publish place) =
    if is_request_at list client number place then Some (said list client number (words.Published (length list)))
    else None
word_on list client number (awaits.Refusal refusal) = Some (said list client number (words.Refused refusal))
word_on list client number awaits.Commit = None
word_on list client number awaits.Nothing = None

-- what can be reported of the request that was made last
abbrev pub word_asked : List Entry → Option (ℕ × ℕ) → Awaited → Option ReportedValue
word_asked list None waits = None
word_asked list (Some request) waits = word_on list request.0 request.1 waits

-- what can be reported to a session now: first the word for which there was no room
abbrev pub word_to_tell : List Entry → SessionValue → Option ReportedValue
word_to_tell list s = option_or s.unsent (word_asked list s.asked s.awaits)

-- the session after its word went out, or its receiver was gone
abbrev pub after_word : SessionValue → SessionValue
after_word s = record { awaits = awaits.Nothing; unsent = None; asked = s.asked; ticks = s.ticks }

-- the session, with a word for which there was no room
abbrev pub with_unsent : ReportedValue → SessionValue → SessionValue
with_unsent reported s = record { awaits = s.awaits; unsent = Some reported; asked = s.asked; ticks = s.ticks }

-- what a send to its channel makes of the session: the word is held where the channel had no room for it, and not where
-- it went out or its receiver was gone
abbrev pub after_send : {T U : Type 0} → Result U (TrySendError T) → (T → ReportedValue) → SessionValue → SessionValue
after_send (Ok sent) value s = s
after_send (Err (sends.Disconnected reported)) value s = s
after_send (Err (sends.Full reported)) value s = with_unsent (value reported) s
after_send (Err (sends.OutOfMemory reported)) value s = with_unsent (value reported) s

-- The session got what can be reported to it now, or that is left for the next time. Nothing else changes.
abbrev pub Tells : List Entry → SessionValue → SessionValue → Type 0
Tells list old new =
    MatchOption (word_to_tell list old) (new ≡ old)
    (λ reported. (new ≡ after_word old) ⊎ (new ≡ with_unsent reported (after_word old)))
