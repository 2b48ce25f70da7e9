use Rattle.std.proofs.Common.{◌≡◌, List, IfOk, subst}
use Rattle.json.specs.Token.{Token}
use Rattle.desk_eido.proofs.Written.{incident_is}
use Rattle.desk_eido.proofs.shown.with_incident.Goals as goal

pub returns : goal.returns
returns c =
    subst (λ (ts : List Token). IfOk c.with_last_values.result (λ w. w ≡ ts))
    (incident_is c.args.client c.args.place c.args.incident.now c.args.stand_by.now c.args.reply)
    (rw (c.in_ok-reply-2.ensures, c.in_ok-reply.ensures, c.in_ok-with_first_values.ensures) at
    c.with_last_values.ensures)
