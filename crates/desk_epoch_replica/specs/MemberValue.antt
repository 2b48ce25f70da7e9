-- A member of a group over epochs, between the items that come to it.
use Rattle.std.specs.Prelude.{ℕ, ◌-◌, ◌^◌, Bool, not, ◌&&◌, ◌==◌, List, replicate}
use Rattle.desk_types.specs.declared.command.Entry.{Entry}
use Rattle.desk_log.specs.Change.{leads}
use Rattle.desk_epoch_node.specs.EpochValue.{EpochValue}
use Rattle.desk_epoch_node.specs.PastRows.{PastValue, StandFor}
use Rattle.desk_types.specs.declared.limits.TheConstants.{SUSPECT_TICKS}
use Rattle.desk_epoch_replica.specs.declared.limits.TheConstants.{ASK_TICKS, TELL_TICKS}
use Rattle.desk_epoch_replica.specs.declared.heard.HeardToken.{HeardToken}
use Rattle.desk_epoch_replica.specs.Heard.{unheard}
use Rattle.desk_epoch_replica.specs.Ticks.{one_more_up_to}

-- a node over epochs, the ticks since it last heard of its primary or suspected it, the ticks since it last asked for a
-- log, for each node the ticks since it was last told one and the token that it last said, and how many items were
-- refused
pub record MemberValue : Type 0 where
  pub node : EpochValue
  pub ticks : ℕ
  pub ask_ticks : ℕ
  pub tell_ticks : List ℕ
  pub heard : List HeardToken
  pub refused : ℕ

-- What it holds of past logs is of some logs.
abbrev pub HasPast : PastValue → Type 0
HasPast p = (past : List Entry) × StandFor past p

-- A member at its start may ask, and tell each node, at once, and has heard none ask.
abbrev pub new_member : EpochValue → MemberValue
new_member e = record {
  node = e;
  ticks = 0;
  ask_ticks = ASK_TICKS;
  tell_ticks = replicate e.node.n TELL_TICKS;
  heard = replicate e.node.n unheard;
  refused = 0;
}

-- with one refused item more
abbrev pub member_refused_once : MemberValue → MemberValue
member_refused_once m = record {
  node = m.node;
  ticks = m.ticks;
  ask_ticks = m.ask_ticks;
  tell_ticks = m.tell_ticks;
  heard = m.heard;
  refused = one_more_up_to (2 ^ 64 - 1) m.refused;
}

-- The node does not lead its view, and this is the tick at which it suspects its primary.
abbrev pub member_suspects : MemberValue → Bool
member_suspects m =
    not (leads m.node.node.id m.node.node.n m.node.node.saved)
    && (one_more_up_to SUSPECT_TICKS m.ticks == SUSPECT_TICKS)
