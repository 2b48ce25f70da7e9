use Rattle.std.proofs.Common.{string_bytes, subst}
use Rattle.desk_epoch_files.specs.Opening.{MayHold}
use Rattle.desk_epoch_files.proofs.epoch_files.EpochFilesEpochStores.open.Goals as goal

pub returns-clause-same : goal.returns-clause-same
returns-clause-same g c e s held =
    let old = c.args.self.now in
    let new = c.open_epoch.new.self in
    let may_open = g.D.NamedDatabases.may_open new.databases in
    let files = c.open_epoch.ensures.files in
    let there = subst (λ owner. MayHold g.D.Pages.Store owner may_open (string_bytes old.file) e s) files.1
    (subst (λ file. MayHold g.D.Pages.Store new.owner may_open (string_bytes file) e s) files.0 held) in
    (there.0, c.open_epoch.ensures.same _ there.0 there.1, there.2, there.3, there.4)
