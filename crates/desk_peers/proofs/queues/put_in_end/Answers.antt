use Rattle.std.proofs.Common.{◌≡◌, None, Some, rules}
use Rattle.desk_peers.proofs.Ends.{same_some, same_none}
use Rattle.desk_peers.proofs.queues.put_in_end.Goals as goal

pub returns-in-Some-clause-same : goal.returns-in-Some-clause-same
returns-in-Some-clause-same g c =
    let e : c.args.end.now ≡ Some c.in-Some.sender = search rules in
    same_some c.args.end.now c.in-Some.sender _ c.try_put-back.ensures.same e

pub returns-clause-same : goal.returns-clause-same
returns-clause-same g c =
    let e : c.args.end.now ≡ None = search rules in
    same_none c.args.end.now _ e c.take.ensures.after
