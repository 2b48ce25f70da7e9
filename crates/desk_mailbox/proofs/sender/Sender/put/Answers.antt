use Rattle.std.proofs.Common.{refl, sym, ap, ◌∙◌}
use Rattle.desk_mailbox.proofs.DeliverySteps.{Delivers-put}
use Rattle.desk_mailbox.proofs.sender.Sender.put.Goals as goal

pub send_as-outcome-requires-clause-rule : goal.send_as-outcome-requires-clause-rule
send_as-outcome-requires-clause-rule g c =
    (Delivers-put _ _ _ _ c.args.self.sends.0 (sym c.args.self.sends.1), λ items views h at. tt)

pub send_as-outcome-requires-clause-channel : goal.send_as-outcome-requires-clause-channel
send_as-outcome-requires-clause-channel g c = c.args.self.seated

pub invariant_of-sender : goal.invariant_of-sender
invariant_of-sender g c =
    let reported = c.in-Ok.ensures in record { seated = reported.channel.0; sends = rw reported.rule c.args.self.sends }

pub returns-in-Ok : goal.returns-in-Ok
returns-in-Ok g c = record { same = (refl, refl); put = rw c.in-Ok.ensures.rule refl; refused = refl }

pub invariant_of-sender-in-Err-Disconnected : goal.invariant_of-sender-in-Err-Disconnected
invariant_of-sender-in-Err-Disconnected g c =
    let reported = c.in-Err-Disconnected.ensures in record {
      seated = reported.channel.0;
      sends = rw reported.rule.1 c.args.self.sends;
    }

pub returns-in-Err-Disconnected : goal.returns-in-Err-Disconnected
returns-in-Err-Disconnected g c =
    let reported = c.in-Err-Disconnected.ensures.rule in
    let counted = c.with_one_refused.ensures in record {
      same = counted.same;
      put = (
        ap (λ s. s.item) (rw c.in-Err-Disconnected.field-0-is at reported.0),
        counted.put ∙ rw reported.1 refl,
      );
      refused = counted.refused;
    }
