use Rattle.std.proofs.Common.{◌≡◌, ◌+◌, rules, IfSome, Some, refl, string_bytes, sym, subst}
use Rattle.std.specs.Prelude.{⊤}
use Rattle.desk_file.specs.Names.{name_in_epoch}
use Rattle.desk_epoch_files.specs.Additions.{AddsOnly}
use Rattle.desk_epoch_files.specs.Causes.{BlamesFile}
use Rattle.desk_epoch_files.specs.Opening.{MayBeOthers, MayHold}
use Rattle.desk_epoch_files.proofs.Additions.{opened_next}
use Rattle.desk_epoch_files.proofs.Making.{others_before}
use Rattle.desk_epoch_files.proofs.epoch_files.EpochFiles.open_epoch.Goals as goal

pub returns-in-Ok-prepare_next-clause-held : goal.returns-in-Ok-prepare_next-clause-held
returns-in-Ok-prepare_next-clause-held g c =
    let file : c.as_str-file.result.now ≡ string_bytes c.args.self.now.file = search rules in
    subst (λ at. MayHold g.D.Pages.Store c.args.self.now.owner
    (g.D.NamedDatabases.may_open c.args.self.now.databases) at c.args.epoch c.in-Ok.store.last) file
    c.in-Ok.ensures.held

pub returns-in-Ok-prepare_next-clause-next : goal.returns-in-Ok-prepare_next-clause-next
returns-in-Ok-prepare_next-clause-next g c within goes_on =
    let next = c.in-Ok-prepare_next.ensures.made within goes_on in
    (next.0, c.open_file.ensures.same _ next.0 next.1, next.2)

pub returns-in-Err-prepare_next-clause-other : goal.returns-in-Err-prepare_next-clause-other
returns-in-Err-prepare_next-clause-other g c =
    let old = c.args.self.now in
    let mid = c.open_file.new.databases in
    let may_open = g.D.NamedDatabases.may_open in
    let error = c.in-Err-prepare_next.error in
    let is : c.fail-in-Err-prepare_next.new.self.error ≡ Some error = search rules in
    subst (λ e. IfSome e (λ error. error.epoch ≡ c.args.epoch + 1 → BlamesFile error.cause →
    MayBeOthers g.D.Pages.Store old.owner (may_open old.databases) (string_bytes old.file) (c.args.epoch + 1))) (sym is)
    (λ _ blames. others_before g.D.Pages.Store old.owner (may_open old.databases) (may_open mid) (string_bytes old.file)
    (c.args.epoch + 1) c.open_file.ensures.same (c.in-Err-prepare_next.ensures.other blames))

pub returns-in-Ok-prepare_next-clause-adds : goal.returns-in-Ok-prepare_next-clause-adds
returns-in-Ok-prepare_next-clause-adds g c =
    let old = c.args.self.now in
    let epoch = c.args.epoch in
    let may_find = g.D.NamedDatabases.may_find in
    let may_open = g.D.NamedDatabases.may_open old.databases in
    let mid = c.open_file.new.databases in
    let s = c.in-Ok.store.last in
    let file : c.as_str-file.result.now ≡ string_bytes old.file = search rules in
    opened_next (may_find old.databases) (may_find mid) (may_find c.prepare_next.new.self.databases)
    (string_bytes old.file) epoch old.most old.adds_second s
    (λ at. (epoch ≡ 0) × (at ≡ name_in_epoch (string_bytes old.file) epoch)) (λ x. s ≡ x)
    (MayHold g.D.Pages.Store old.owner may_open (string_bytes old.file) epoch)
    (subst (λ name. AddsOnly (may_find old.databases) (may_find mid)
    (λ at. (epoch ≡ 0) × (at ≡ name_in_epoch name epoch))) file c.open_file.ensures.adds)
    c.prepare_next.ensures.adds refl
    (subst (λ name. MayHold g.D.Pages.Store old.owner may_open name epoch s) file c.in-Ok.ensures.held)

pub returns-in-Err-prepare_next-clause-adds : goal.returns-in-Err-prepare_next-clause-adds
returns-in-Err-prepare_next-clause-adds g c at look found =
    let old = c.args.self.now in
    let epoch = c.args.epoch in
    let may_find = g.D.NamedDatabases.may_find in
    let may_open = g.D.NamedDatabases.may_open old.databases in
    let mid = c.open_file.new.databases in
    let s = c.in-Ok.store.last in
    let file : c.as_str-file.result.now ≡ string_bytes old.file = search rules in
    opened_next (may_find old.databases) (may_find mid) (may_find c.prepare_next.new.self.databases)
    (string_bytes old.file) epoch old.most old.adds_second s
    (λ at. (epoch ≡ 0) × (at ≡ name_in_epoch (string_bytes old.file) epoch)) (λ x. ⊤)
    (MayHold g.D.Pages.Store old.owner may_open (string_bytes old.file) epoch)
    (subst (λ name. AddsOnly (may_find old.databases) (may_find mid)
    (λ at. (epoch ≡ 0) × (at ≡ name_in_epoch name epoch))) file c.open_file.ensures.adds)
    c.prepare_next.ensures.adds tt
    (subst (λ name. MayHold g.D.Pages.Store old.owner may_open name epoch s) file c.in-Ok.ensures.held) at look
    (c.close_epoch.ensures.adds at look
    (subst (λ files. may_find files.databases at look) c.fail-in-Err-prepare_next.ensures.error found))
