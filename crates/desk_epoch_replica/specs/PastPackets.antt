-- What tells the log of a past epoch.
use Rattle.std.specs.Prelude.{◌≡◌, ℕ, Some}
use Rattle.desk_types.specs.declared.packet.Message.{Message}
use Rattle.desk_log.specs.SavedValue.{SavedValue}
use Rattle.desk_epoch_node.specs.Does.{past_log_packet}
use Rattle.desk_epoch_node.specs.EpochValue.{EpochValue}
use Rattle.desk_epoch_stores.specs.Starting.{saved_cut}

-- The packet tells a log after a place, which is that of a state that may be found in the epoch's store. All of it is
-- committed, up to the epoch's end.
abbrev pub IsPastPacket : (SavedValue → Type 0) → EpochValue → ℕ → Message → Type 0
IsPastPacket may_hold e base packet =
    (s : SavedValue) × may_hold s × (saved_cut e.most s ≡ s.log) × (past_log_packet e.node.id s.log base ≡ Some packet)
