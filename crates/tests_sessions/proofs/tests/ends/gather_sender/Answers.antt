use Rattle.std.proofs.Common.{Some}
use Rattle.std.proofs.lemmas.List.Elements.{All-pop}
use Rattle.desk_mailbox.specs.Ends.{SendsTo}
use Rattle.tests_sessions.proofs.Senders.{still_send}
use Rattle.tests_sessions.proofs.tests.ends.gather_sender.Goals as goal

pub returns-in-Some : goal.returns-in-Some
returns-in-Some g c =
    let taker = c.args.gathered.mailbox.taker in
    let rest = (All-pop (SendsTo taker) _ _ (Some c.in-Some.sender) c.in-Some.ensures.items c.requires).0 in
    still_send taker c.sender-gathered.result.0.mailbox.taker _ c.sender-gathered.ensures.taker rest

pub sender-gathered-requires : goal.sender-gathered-requires
sender-gathered-requires g c =
    (All-pop (SendsTo c.args.gathered.mailbox.taker) _ _ (Some c.in-Some.sender) c.in-Some.ensures.items c.requires).1
