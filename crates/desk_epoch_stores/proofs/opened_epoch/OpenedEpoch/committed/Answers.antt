use Rattle.std.proofs.Common.{List, length, take, ap, ◌∙◌, arith}
use Rattle.desk_types.specs.declared.command.Entry.{Entry}
use Rattle.desk_epoch_stores.proofs.SavedCuts.{count_is_saved, count_within}
use Rattle.desk_epoch_stores.proofs.opened_epoch.OpenedEpoch.committed.Goals as goal

pub prove-unreachable-requires : goal.prove-unreachable-requires
prove-unreachable-requires g c =
    let self = c.args.self.now in
    let none : ⊥ =
    omega (
      arith,
      c.if-prove.true,
      c.len.ensures.count,
      ap length c.log.ensures.value,
      count_within self.most self.saved self.cut self.cut_is,
    ) in
    none

pub returns : goal.returns
returns g c =
    let self = c.args.self.now in
    ap (λ (l : List Entry). take self.cut.count l) (c.entries.ensures.value ∙ c.log-2.ensures.value)
    ∙ count_is_saved self.most self.saved self.cut self.cut_is
