use Rattle.std.proofs.Common.{◌≡◌, ◌∙◌, List, [], Some, None, ap, append-nil, sym}
use Rattle.std.specs.List.{slice_get}
use Rattle.std.specs.Option.{option_copied}
use Rattle.desk_types.specs.declared.command.Entry.{Entry}
use Rattle.desk_epoch_replica.specs.Deferring.{first_held}
use Rattle.desk_epoch_replica.specs.InOrder.{replica_still}
use Rattle.desk_epoch_replica.proofs.DeferringSteps.{get_first, retried_copy, retried_refused, retries_none}
use Rattle.desk_epoch_replica.proofs.deferring_replica.DeferringReplica.retry.Goals as goal

pub returns-in_default-clause-retried : goal.returns-in_default-clause-retried
returns-in_default-clause-retried g c =
    let none : first_held c.args.self.now.deferred.items ≡ None =
    sym (get_first c.args.self.now.deferred.items)
    ∙ sym (ap (λ (held : List Entry). slice_get held 0) c.deref.ensures.value) ∙ sym c.first.ensures.value
    ∙ ap option_copied c.in_default.is in (
      [],
      [],
      retries_none c.args.self.now.replica c.args.self.now.deferred.items none,
      (sym (append-nil c.args.step.now.packets.items), sym (append-nil c.args.step.now.answers.items)),
    )

pub returns-in_default-clause-follows : goal.returns-in_default-clause-follows
returns-in_default-clause-follows g c = replica_still c.args.self.now.replica

pub returns-in_default-copy-clause-retried : goal.returns-in_default-copy-clause-retried
returns-in_default-copy-clause-retried g c =
    let some : first_held c.args.self.now.deferred.items ≡ Some c.in-Some.first.now =
    sym (get_first c.args.self.now.deferred.items)
    ∙ sym (ap (λ (held : List Entry). slice_get held 0) c.deref.ensures.value) ∙ sym c.first.ensures.value
    ∙ ap option_copied c.in-Some.is in (
      [],
      [],
      retried_refused c.args.self.now.replica c.count_refused.new.self c.args.self.now.deferred.items
          c.in-Some.first.now some c.count_refused.ensures.refused,
      (sym (append-nil c.args.step.now.packets.items), sym (append-nil c.args.step.now.answers.items)),
    )

pub returns-in-Ok-act-clause-retried : goal.returns-in-Ok-act-clause-retried
returns-in-Ok-act-clause-retried g c =
    let some : first_held c.args.self.now.deferred.items ≡ Some c.in-Some.first.now =
    sym (get_first c.args.self.now.deferred.items)
    ∙ sym (ap (λ (held : List Entry). slice_get held 0) c.deref.ensures.value) ∙ sym c.first.ensures.value
    ∙ ap option_copied c.in-Some.is in
    let put = c.put.ensures.put in (
      put.0,
      put.1,
      retried_copy c.args.self.now.replica c.act.new.self c.put.new.self.replica c.args.self.now.deferred.items
          c.put.new.self.deferred.items c.in-Some.first.now c.in-Ok.entry c.in-Ok-act.made put.0 put.1 c.put.result some
          c.in-Ok.ensures c.in-Ok-act.ensures.did c.put.ensures.same put.2,
      put.3,
    )

pub returns-in-Err-clause-retried : goal.returns-in-Err-clause-retried
returns-in-Err-clause-retried g c =
    let some : first_held c.args.self.now.deferred.items ≡ Some c.in-Some.first.now =
    sym (get_first c.args.self.now.deferred.items)
    ∙ sym (ap (λ (held : List Entry). slice_get held 0) c.deref.ensures.value) ∙ sym c.first.ensures.value
    ∙ ap option_copied c.in-Some.is in (
      [],
      [],
      retried_refused c.args.self.now.replica c.act.new.self c.args.self.now.deferred.items c.in-Some.first.now some
          c.in-Err.ensures.err,
      (sym (append-nil c.args.step.now.packets.items), sym (append-nil c.args.step.now.answers.items)),
    )
