use Rattle.std.proofs.Common.{rules, ◌≡◌, Some, subst}
use Rattle.std.specs.Prelude.{MatchOption}
use Rattle.desk_file.specs.EpochTable.{ShowsEpoch, HasNoEpochTable}
use Rattle.desk_epoch_files.proofs.epoch_table.mark_epoch.Goals as goal

pub returns-in-Ok-Some-clause-marked : goal.returns-in-Ok-Some-clause-marked
returns-in-Ok-Some-clause-marked g c clean =
    let before = c.make_table.new.connection in
    let after = c.marked_epoch.new.connection in
    let some : c.in-Ok-Some.field-0 ≡ Some c.in-Ok-Some.found = search rules in
    let is : c.in-Ok-Some.found ≡ c.args.epoch = search rules in (
      before,
      subst (λ e. ShowsEpoch g.S.Store before after e) is
          (subst (λ f. MatchOption f (HasNoEpochTable g.S.Store before after) (ShowsEpoch g.S.Store before after)) some
          (c.in-Ok-Some.ensures.found clean)),
    )
