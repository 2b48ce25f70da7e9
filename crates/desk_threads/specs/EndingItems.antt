-- Which items end the turn that they are in.
use Rattle.std.specs.Prelude.{◌≡◌, Bool, true, false, List, [], ◌∷◌, ◌++◌}
use Rattle.std.specs.List.{AllByRecursion}
use Rattle.desk_types.specs.declared.packet.Message.{Message}
use Rattle.desk_types.specs.declared.packet.Message.TheVariants.{Prepare, PrepareOk, Commit, StartViewChange}
use Rattle.desk_types.specs.declared.packet.Message.TheVariants.{DoViewChange, StartView, GetState, NewState}
use Rattle.desk_mailbox.specs.declared.item.Item.{Item}
use Rattle.desk_mailbox.specs.declared.item.Item.TheVariants as items

-- A message of a view change or a state transfer may carry a log, and so may what goes out for it.
abbrev pub may_carry_log : Message → Bool
may_carry_log (Prepare from view place commit entry) = false
may_carry_log (PrepareOk from view place) = false
may_carry_log (Commit from view commit) = false
may_carry_log (StartViewChange from view) = true
may_carry_log (DoViewChange from view normal commit log) = true
may_carry_log (StartView from view commit log) = true
may_carry_log (GetState from view base) = true
may_carry_log (NewState from view base commit entries) = true

-- A tick ends its turn, and so do a stop and a packet that may carry a log.
abbrev pub ends_turn : Item → Bool
ends_turn (items.Request session entry) = false
ends_turn (items.Packet p) = may_carry_log p.packet
ends_turn items.Tick = true
ends_turn items.Stop = true

-- None of these items ends its turn.
abbrev pub NoneEnds : List Item → Type 0
NoneEnds list = AllByRecursion (λ item. ends_turn item ≡ false) list

-- None of a turn's items but the last ends it.
abbrev pub OnlyLastEnds : List Item → Type 0
OnlyLastEnds turn = (before : List Item) × (last : Item) × (turn ≡ before ++ last ∷ []) × NoneEnds before
