use Rattle.std.proofs.Common.{IfOk, IfSome, string_bytes, subst, sym}
use Rattle.desk_epoch_files.specs.Opening.{MayHold}
use Rattle.desk_epoch_files.proofs.Covered.{some_where_ok}
use Rattle.desk_epoch_files.proofs.past_files.PastFiles.open.Goals as goal

pub returns-clause-held : goal.returns-clause-held
returns-clause-held g c =
    let may_open = g.D.NamedDatabases.may_open c.args.self.now.databases in
    subst (λ o. IfSome o (λ store. MayHold g.D.Pages.Store c.args.self.now.owner may_open
    (string_bytes c.args.self.now.file) c.args.epoch store.last))
    (sym c.ok.ensures.value)
    (some_where_ok _ c.open_file.result (subst (λ name. IfOk c.open_file.result (λ store. MayHold g.D.Pages.Store
    c.args.self.now.owner may_open name c.args.epoch store.last))
    c.as_str-file.ensures.value c.open_file.ensures.held))
