use Rattle.desk_naming.proofs.SlotCheck.{at_root}
use Rattle.desk_naming.proofs.check.is_slot_check.Goals as goal

pub returns-in-len1 : goal.returns-in-len1
returns-in-len1 c =
    rw (← c.terms.view_is)
    (at_root c.terms.inside.nodes c.terms.inside.roots _ c.compares_slot.result
    (rw c.as_slice.ensures at c.in-len1.len_at_least) (rw c.as_slice.ensures at c.in-len1.len_below)
    (rw (c.as_slice.ensures, c.as_slice-in-len1.ensures) at c.compares_slot.ensures))
