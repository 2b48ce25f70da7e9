use Rattle.std.proofs.Common.{◌+◌, IfErr, string_bytes, subst}
use Rattle.desk_epoch_files.specs.Causes.{BlamesFile}
use Rattle.desk_epoch_files.specs.Opening.{MayBeOthers}
use Rattle.desk_epoch_files.proofs.Making.{errors_before}
use Rattle.desk_epoch_files.proofs.epoch_files.EpochFiles.prepare_next.Goals as goal

pub returns-then-branch-clause-other : goal.returns-then-branch-clause-other
returns-then-branch-clause-other g c =
    let old = c.args.self.now in
    let mid = c.may_add_second.new.self in
    let may_open = g.D.NamedDatabases.may_open in
    let r = c.make_ahead-then-branch.result in
    let owned = subst (λ files. IfErr r (λ error. BlamesFile error.cause →
    MayBeOthers g.D.Pages.Store files.owner (may_open mid.databases) (string_bytes files.file) (c.args.epoch + 1)))
    c.may_add_second.ensures.files c.make_ahead-then-branch.ensures.other in
    errors_before g.D.Pages.Store old.owner (may_open old.databases) (may_open mid.databases) (string_bytes old.file)
    (c.args.epoch + 1) c.may_add_second.ensures.same r owned
