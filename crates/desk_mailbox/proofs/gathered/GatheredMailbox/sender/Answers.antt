use Rattle.std.proofs.Common.{◌++◌, ap, ◌∙◌}
use Rattle.crossbeam_channel.specs.Claims.{view}
use Rattle.desk_mailbox.specs.Gathered.{taken_at_end}
use Rattle.desk_mailbox.proofs.ItemsOf.{taken_first, taken_with_left, put_is_left}
use Rattle.desk_mailbox.proofs.DeliverySteps.{Delivers-lend, Delivers-give_back, Delivers-balance}
use Rattle.desk_mailbox.proofs.gathered.GatheredMailbox.sender.Goals as goal

pub absorb-requires-clause-rule : goal.absorb-requires-clause-rule
absorb-requires-clause-rule g c = Delivers-lend _ _ _ _ c.args.self.taker.takes.1 c.args.sender.sends.0

pub learn_as-requires-clause-rule : goal.learn_as-requires-clause-rule
learn_as-requires-clause-rule g c = Delivers-balance _ _

pub another-back-requires-clause-rule : goal.another-back-requires-clause-rule
another-back-requires-clause-rule g c =
    let e = c.learn_as.ensures.channel.2 ∙ c.take_all-pass.ensures.view.1 in
    let lent = c.absorb.ensures.rule in
    Delivers-give_back _ _ (ap (λ v. v.sends) e ∙ ap (λ v. v.sends) lent) (ap (λ v. v.takes) e ∙ ap (λ v. v.takes) lent)

pub invariant_of-gathered-2 : goal.invariant_of-gathered-2
invariant_of-gathered-2 g c =
    let after = c.take_all-pass.ensures.view in record {
      left_is = ap (λ v. v.taken) c.another-back.ensures.rule.0
          ∙ ap (λ v. v.taken) c.learn_as.ensures.channel.2
          ∙ taken_with_left _ _ after.0 _ _ _ c.args.self.left_is
          (ap (λ v. v.taken) after.1 ∙ ap (λ v. v.taken ++ after.0) c.absorb.ensures.rule) after.2;
    }

pub returns-clause-gathered : goal.returns-clause-gathered
returns-clause-gathered g c =
    let after = c.take_all-pass.ensures.view in
    let lent = c.absorb.ensures.rule in
    put_is_left c.take_all-pass.result.2 (view c.absorb.new.pass) _ _ c.args.sender.number _
    (ap (λ v. v.number) lent ∙ c.args.sender.sends.1)
    (ap (λ v. v.put) lent)
    (taken_with_left _ _ after.0 _ _ _ c.args.self.left_is
    (ap (λ v. v.taken) after.1 ∙ ap (λ v. v.taken ++ after.0) lent) after.2)
    c.take_all-pass.ensures.empty

pub returns-clause-at_most : goal.returns-clause-at_most
returns-clause-at_most g c =
    let after = c.take_all-pass.ensures.view in
    let e = after.1 in
    let lent = c.absorb.ensures.rule in
    let sender = c.args.sender in
    let before = c.args.self in
    let learnt = c.learn_as.ensures.rule in
    taken_first (view c.take_all-pass.result.0) learnt.0 _ sender.number _
    (ap (λ v. v.number) e ∙ ap (λ v. v.number) lent ∙ sender.sends.1)
    (taken_with_left (taken_at_end before) _ after.0 _ _ _ before.left_is
    (ap (λ v. v.taken) e ∙ ap (λ v. v.taken ++ after.0) lent) after.2)
    (ap (λ v. v.put) e ∙ ap (λ v. v.put) lent)
    (learnt.1 (ap (λ v. v.sends) e ∙ ap (λ v. v.sends) lent) (ap (λ v. v.takes) e ∙ ap (λ v. v.takes) lent))
