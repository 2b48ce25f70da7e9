use Rattle.std.proofs.Common.{◌≡◌, inl, inr, subst}
use Rattle.desk_types.specs.declared.refusal.Refusal.TheVariants as refusals
use Rattle.desk_epoch_files.specs.Causes.{unopened_refusal}
use Rattle.desk_epoch_files.proofs.Making.{made_on, others_on, refused_as_others}
use Rattle.desk_epoch_files.proofs.next_file.make_state.Goals as goal

pub returns-clause-made : goal.returns-clause-made
returns-clause-made g c = made_on g.S.Store c.args.owner.now c.args.epoch c.args.has_ended c.in-Ok.is_marked
    c.args.connection c.is_marked.new.connection c.mark_file-connection.result.0 c.in-Ok-open_node.store
    c.in-Ok-open_node.ensures.opened c.in-Ok.ensures.marked c.mark_file-connection.result.1
    c.mark_file-connection.ensures.first c.mark_file-connection.ensures.marked

pub returns-clause-other : goal.returns-clause-other
returns-clause-other g c = others_on g.S.Store c.args.owner.now c.args.epoch c.args.connection
    c.is_marked.new.connection c.in-Ok-open_node.store c.in-Ok-open_node.ensures.opened
    c.mark_file-connection.result.1 c.mark_file-connection.ensures.other

pub returns-in-Err-clause-other : goal.returns-in-Err-clause-other
returns-in-Err-clause-other g c blames =
    (c.is_marked.new.connection, inl (λ clean. c.in-Err.ensures.other clean blames))

pub returns-in-Err-open_node-clause-other : goal.returns-in-Err-open_node-clause-other
returns-in-Err-open_node-clause-other g c blames =
    let asked = c.is_marked.new.connection in
    let it = c.in-Err-open_node.ensures.unopened in
    let wrong = subst (λ o. unopened_refusal o ≡ refusals.WrongFile) it.ends blames in (
      asked,
      inr (inl (
        it.left,
        refused_as_others g.S.Store c.args.owner.now asked it.left it.refusal it.unopened wrong,
      )),
    )
