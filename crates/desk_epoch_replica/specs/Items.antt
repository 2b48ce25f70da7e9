-- What an item makes of a member.
use Rattle.std.specs.Prelude.{◌≡◌, ℕ, Bool, true, false, not, ◌&&◌, ◌||◌, ◌==◌, if◌then◌else◌, List, map}
use Rattle.std.specs.Prelude.{Option, Some, None}
use Rattle.std.specs.List.{list_any}
use Rattle.desk_types.specs.declared.command.Entry.{Entry}
use Rattle.desk_types.specs.declared.epoch_packet.Purpose.{Purpose}
use Rattle.desk_types.specs.declared.epoch_packet.Purpose.TheVariants as purposes
use Rattle.desk_types.specs.declared.refusal.Refusal.TheVariants as refusals
use Rattle.desk_types.specs.Packet.{sender}
use Rattle.desk_types.specs.EpochPackets.{goes_by_rules}
use Rattle.desk_log.specs.Quorum.{primary}
use Rattle.desk_epoch_node.specs.declared.deed.Deed.{Deed}
use Rattle.desk_epoch_node.specs.declared.deed.Deed.TheVariants.{Ignore, Refuse}
use Rattle.desk_epoch_node.specs.declared.event.EpochEvent.{EpochEvent}
use Rattle.desk_epoch_node.specs.declared.event.EpochEvent.TheVariants as comes
use Rattle.desk_epoch_node.specs.declared.step.EpochStep.{EpochStep}
use Rattle.desk_epoch_node.specs.declared.step.EpochStep.TheVariants as steps
use Rattle.desk_epoch_node.specs.declared.replacement.Replacement.{Replacement}
use Rattle.desk_epoch_node.specs.Deeds.{appends, deed}
use Rattle.desk_epoch_node.specs.Does.{DoesDeed}
use Rattle.desk_epoch_node.specs.EpochValue.{EpochValue}
use Rattle.desk_epoch_node.specs.Replacements.{named_by}
use Rattle.desk_epoch_replica.specs.declared.item.EpochItem.{EpochItem}
use Rattle.desk_epoch_replica.specs.declared.item.EpochItem.TheVariants as items
use Rattle.desk_types.specs.declared.limits.TheConstants.{SUSPECT_TICKS}
use Rattle.desk_epoch_replica.specs.declared.limits.TheConstants.{ASK_TICKS, TELL_TICKS}
use Rattle.desk_epoch_replica.specs.declared.heard.HeardToken.{HeardToken}
use Rattle.desk_epoch_replica.specs.Heard.{asker, tokens_heard_with, hears, one_tick_older}
use Rattle.desk_epoch_replica.specs.MemberValue.{MemberValue, member_suspects}
use Rattle.desk_epoch_replica.specs.Ticks.{one_more_up_to}

-- whether a packet tells a log
abbrev pub is_tell : Purpose → Bool
is_tell purposes.Tell = true
is_tell purpose = false

-- the event that a tick is
abbrev pub event_of_tick : Bool → EpochEvent
event_of_tick late = if late then comes.Suspect else comes.Resend

-- whether one of these replacements names the token, for any number
abbrev pub is_token_named : ℕ → List Replacement → Bool
is_token_named token rs = list_any (λ r. r.token == token) rs

-- whether a member has heard the node that is named, and past logs did not name its token before
abbrev pub hears_new : MemberValue → Replacement → Bool
hears_new m r = hears m.heard r.node r.token && not (is_token_named r.token m.node.past.replacements)

-- whether a node is named that the member has not heard, or whose token was named before
abbrev pub names_unheard : MemberValue → Option Replacement → Bool
names_unheard m None = false
names_unheard m (Some r) = not (hears_new m r)

-- Whether a request for a replacement is refused: the node, whose past logs are these entries, would put it last as a
-- new one, and who is named was not heard as a new node.
abbrev pub refuses_replacement : List Entry → MemberValue → Entry → Bool
refuses_replacement past m entry = names_unheard m (named_by entry) && appends past m.node entry

-- What an item asks of the node, whose past logs are these entries. A log that it is told is dropped where the member
-- takes none.
abbrev pub item_deed : List Entry → Bool → MemberValue → EpochItem → Deed
item_deed past takes m (items.Request entry) =
    if refuses_replacement past m entry
    then Refuse entry.client entry.number refusals.MemberUnheard
    else deed past m.node (comes.Request entry)
item_deed past takes m (items.Packet p) =
    if not takes && is_tell p.purpose then Ignore else deed past m.node (comes.Packet p)
item_deed past takes m items.Tick = deed past m.node (event_of_tick (member_suspects m))

-- whether it is a packet by the rules of the node's epoch, of the primary of the view that the node has then
abbrev pub hears_primary : EpochValue → Purpose → ℕ → ℕ → Bool
hears_primary e purpose epoch from =
    goes_by_rules purpose && (epoch == e.epoch) && (from == primary e.node.n e.node.saved.view)

-- whether the node began an epoch
abbrev pub begins_epoch : EpochStep → Bool
begins_epoch (steps.Began log packets) = true
begins_epoch made = false

-- The ticks are counted again from a suspicion, from a packet of the primary, and from an epoch's beginning.
abbrev pub ticks_after : MemberValue → EpochItem → EpochStep → EpochValue → ℕ
ticks_after m (items.Request entry) made e = m.ticks
ticks_after m (items.Packet p) made e =
    if begins_epoch made || hears_primary e p.purpose p.epoch (sender p.packet) then 0 else m.ticks
ticks_after m items.Tick made e = if member_suspects m then 0 else one_more_up_to SUSPECT_TICKS m.ticks

-- the ticks since the member last asked for a log
abbrev pub ask_ticks_at : ℕ → EpochItem → ℕ
ask_ticks_at ticks items.Tick = one_more_up_to ASK_TICKS ticks
ask_ticks_at ticks item = ticks

-- and since each node was last told one
abbrev pub tell_ticks_at : List ℕ → EpochItem → List ℕ
tell_ticks_at ticks items.Tick = map (one_more_up_to TELL_TICKS) ticks
tell_ticks_at ticks item = ticks

-- and the token that each node last said
abbrev pub tokens_heard_at : List HeardToken → EpochItem → List HeardToken
tokens_heard_at heard (items.Request entry) = heard
tokens_heard_at heard (items.Packet p) = tokens_heard_with (asker p.purpose p.packet) heard
tokens_heard_at heard items.Tick = map one_tick_older heard

-- The member's node, whose past logs are these entries, does what the item asks, the ticks are counted, and an ask is
-- heard.
pub record MemberMeets (past : List Entry) (takes : Bool) (old : MemberValue) (item : EpochItem) (made : EpochStep)
    (new : MemberValue) : Type 0 where
  pub does : DoesDeed past (item_deed past takes old item) old.node new.node made
  pub ticks_are : new.ticks ≡ ticks_after old item made new.node
  pub ask_ticks_are : new.ask_ticks ≡ ask_ticks_at old.ask_ticks item
  pub tell_ticks_are : new.tell_ticks ≡ tell_ticks_at old.tell_ticks item
  pub heard_are : new.heard ≡ tokens_heard_at old.heard item
  pub refused_is : new.refused ≡ old.refused
