use Rattle.std.proofs.Common.{◌≡◌, ◌∙◌, List, length, take, ap, arith, rules}
use Rattle.desk_types.specs.declared.command.Entry.{Entry}
use Rattle.desk_epoch_node.specs.EpochValue.{committed_cut}
use Rattle.desk_epoch_replica.specs.MemberValue.{MemberValue}
use Rattle.desk_epoch_replica.proofs.KnownEntries.{cut_is, cut_within}
use Rattle.desk_epoch_replica.proofs.epoch_member.EpochMember.committed.Goals as goal

pub prove-unreachable-requires : goal.prove-unreachable-requires
prove-unreachable-requires c =
    let e = c.self.inside.node in
    let log_is : c.log-log.result.now ≡ e.node.saved.log = search rules in
    omega (
      arith,
      c.if-prove.true,
      c.len.ensures.count,
      ap (λ (es : List Entry). length es) log_is,
      cut_within e c.committed-count.result c.committed-count.ensures,
    )

pub returns : goal.returns
returns c =
    let e = c.self.inside.node in
    let log_is : c.entries.result.now ≡ e.node.saved.log = search rules in
    ap (λ (es : List Entry). take c.committed-count.result es) log_is
    ∙ (cut_is e c.committed-count.result c.committed-count.ensures
    ∙ ap (λ (m : MemberValue). committed_cut m.node) c.self.view_is)
