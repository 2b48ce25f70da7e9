use Rattle.std.proofs.Common.{ap, string_bytes, subst}
use Rattle.desk_epoch_files.specs.Opening.{MayHold}
use Rattle.desk_epoch_files.proofs.epoch_files.EpochFilesEpochStores.close.Goals as goal

pub returns : goal.returns
returns g c = record {
  same = λ e s held.
      let old = c.args.self.now in
      let new = c.close_epoch.new.self in
      let may_open = g.D.NamedDatabases.may_open new.databases in
      let files = c.close_epoch.ensures.files in
      let there = subst (λ owner. MayHold g.D.Pages.Store owner may_open (string_bytes old.file) e s)
      (ap (λ (f : _). f.owner) files)
      (subst (λ file. MayHold g.D.Pages.Store new.owner may_open (string_bytes file) e s) (ap (λ (f : _). f.file) files)
      held) in
      (there.0, c.close_epoch.ensures.same _ there.0 there.1, there.2, there.3, there.4);
}
