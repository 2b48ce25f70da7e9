-- What a clause reads of a mailbox at its end.
use Rattle.std.specs.Prelude.{List}
use Rattle.crossbeam_channel.specs.Claims.{view}
use Rattle.desk_mailbox.specs.declared.gathered.GatheredMailbox.{GatheredMailbox}
use Rattle.desk_mailbox.specs.declared.rule.SentItem.{SentItem}

module _ {T : Type 0} where
  -- what the taker had taken when it ended
  abbrev pub taken_at_end : GatheredMailbox T → List (SentItem T)
  taken_at_end gathered = (view gathered.at_end.value).taken
