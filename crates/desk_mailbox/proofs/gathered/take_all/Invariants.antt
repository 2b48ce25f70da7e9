use Rattle.std.proofs.Common.{◌≡◌, ◌++◌}
use Rattle.crossbeam_channel.specs.Claims.{view, IsSeatAt}
use Rattle.crossbeam_channel.specs.Ends.{receives_on}
use Rattle.desk_mailbox.proofs.gathered.take_all.Given as goal

abbrev pub invariant-loop : goal.invariant-loop
invariant-loop g l =
    IsSeatAt (receives_on l.channel) l.pass
    × ((more : _)
    × (view l.pass ≡ record (view l.fn.pass) { taken = (view l.fn.pass).taken ++ more })
    × (l.left.items ≡ l.fn.left.items ++ more))
