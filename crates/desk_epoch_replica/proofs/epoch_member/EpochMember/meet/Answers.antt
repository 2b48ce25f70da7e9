use Rattle.std.proofs.Common.{refl, subst}
use Rattle.desk_epoch_replica.specs.declared.item.EpochItem.TheVariants as items
use Rattle.desk_epoch_replica.specs.MemberValue.{HasPast, MemberValue}
use Rattle.desk_epoch_replica.proofs.UntakenLogs.{outcome_met, outcome_untaken}
use Rattle.desk_epoch_replica.proofs.epoch_member.EpochMember.meet.Goals as goal

pub returns-in-Request-clause-met : goal.returns-in-Request-clause-met
returns-in-Request-clause-met c =
    outcome_met (items.Request c.in-Request.entry) c.args.item c.args.takes c.args.self.now c.request.new.self
    c.request.result c.in-Request.is c.request.ensures.met

pub returns-in-Request-clause-untaken : goal.returns-in-Request-clause-untaken
returns-in-Request-clause-untaken c =
    outcome_untaken (items.Request c.in-Request.entry) c.args.takes c.args.self.now c.request.new.self
    c.request.result (subst (λ (m : MemberValue). HasPast m.node.past) c.self.view_is c.self.invariant)
    (outcome_met (items.Request c.in-Request.entry) (items.Request c.in-Request.entry) c.args.takes c.args.self.now
    c.request.new.self c.request.result refl c.request.ensures.met)

pub returns-in-Packet-clause-untaken : goal.returns-in-Packet-clause-untaken
returns-in-Packet-clause-untaken c =
    outcome_untaken (items.Packet c.in-Packet.packet) c.args.takes c.args.self.now c.packet.new.self
    c.packet.result (subst (λ (m : MemberValue). HasPast m.node.past) c.self.view_is c.self.invariant)
    c.packet.ensures.met

pub returns-in-Tick-clause-met : goal.returns-in-Tick-clause-met
returns-in-Tick-clause-met c =
    outcome_met items.Tick c.args.item c.args.takes c.args.self.now c.tick.new.self c.tick.result c.in-Tick.is
    c.tick.ensures.met

pub returns-in-Tick-clause-untaken : goal.returns-in-Tick-clause-untaken
returns-in-Tick-clause-untaken c =
    outcome_untaken items.Tick c.args.takes c.args.self.now c.tick.new.self c.tick.result
    (subst (λ (m : MemberValue). HasPast m.node.past) c.self.view_is c.self.invariant)
    (outcome_met items.Tick items.Tick c.args.takes c.args.self.now c.tick.new.self c.tick.result refl
    c.tick.ensures.met)
