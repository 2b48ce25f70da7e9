use Rattle.std.proofs.Common.{rules, ap, ◌∙◌, sym, subst, IsTrue}
use Rattle.std.proofs.lemmas.Result.{err_from_is_err_and}
use Rattle.sqlite.specs.Effect.{Database}
use Rattle.sqlite.specs.State.{HasCleanDisk}
use Rattle.sqlite.specs.Held.{state}
use Rattle.desk_naming.specs.Contents.{trees_of}
use Rattle.desk_saved.specs.DeskTables.{log_tables}
use Rattle.desk_saved.specs.File.{HasClients, HasNoLogFile}
use Rattle.desk_saved.specs.SchemaRefusals.{IsDeskSchema}
use Rattle.desk_saved.proofs.ClientsLoading.{other_clients}
use Rattle.desk_saved.proofs.TableReads.{log_in_desk}
use Rattle.desk_naming.proofs.TableReads.{read_where, read_then, read_as, read_err}
use Rattle.desk_saved.proofs.load.load_state.Goals as goal

pub returns-in_default-clause-found : goal.returns-in_default-clause-found
returns-in_default-clause-found g c clean d schema s is file =
    let none : HasNoLogFile (log_tables d) 2 c.args.owner.now (trees_of g.S.Store c.args.conn.now) =
    search (rules, c.in_ok-saved.ensures.found clean (log_tables d) schema) in
    none s is (file.0, file.1)

pub returns-then-not-same-clause-found : goal.returns-then-not-same-clause-found
returns-then-not-same-clause-found g c clean d schema =
    let old = state g.S.Store c.args.conn.now in
    let clean1 : HasCleanDisk (state g.S.Store c.load_saved.new.conn) = c.load_clients.ensures.read.keeps.0 clean in
    let same = c.in_ok-saved.ensures.read.same clean1 (log_tables d, schema) in
    let now = same.0.now_is in
    let found = rw c.in-Some.is at (c.in_ok-saved.ensures.found clean1 (log_tables d) schema) in
    let either = rw c.log.ensures at
    (c.in_ok-same.ensures.found clean d (ap (λ (db : Database). db.schema) now ∙ schema)) in
    other_clients d c.args.owner.now old.now.trees c.in-Some.saved found.0 found.1
    (λ has. let yes' : IsTrue c.in_ok-same.same = either.1
    (subst (λ (db : Database). HasClients d db.trees c.in-Some.saved.log) (sym now) has) in search rules)

pub returns-clause-found : goal.returns-clause-found
returns-clause-found g c clean d schema =
    let clean1 : HasCleanDisk (state g.S.Store c.load_saved.new.conn) = c.load_clients.ensures.read.keeps.0 clean in
    let same = c.in_ok-saved.ensures.read.same clean1 (log_tables d, schema) in
    let now = same.0.now_is in
    let found = rw c.in-Some.is at (c.in_ok-saved.ensures.found clean1 (log_tables d) schema) in
    let either = rw c.log.ensures at
    (c.in_ok-same.ensures.found clean d (ap (λ (db : Database). db.schema) now ∙ schema)) in
    let yes' : IsTrue c.in_ok-same.same = search rules in
    let clients = subst (λ (db : Database). HasClients d db.trees c.in-Some.saved.log) now (either.0 yes') in
    (found.0, (found.1.0, found.1.1, clients))

pub returns-in_err-saved-clause-read : goal.returns-in_err-saved-clause-read
returns-in_err-saved-clause-read g c =
    let p = err_from_is_err_and c.from_residual.result c.from_residual.ensures.1 in
    rw (p.1, p.2) (read_err g.S.Store _ _ IsDeskSchema _
    (read_where g.S.Store _ _ _ IsDeskSchema log_in_desk _ c.in_err-saved.ensures.read))

pub returns-in_default-clause-read : goal.returns-in_default-clause-read
returns-in_default-clause-read g c =
    read_as g.S.Store _ _ IsDeskSchema _ _
    (read_where g.S.Store _ _ _ IsDeskSchema log_in_desk _ c.in_ok-saved.ensures.read)

pub returns-in_err-same-clause-read : goal.returns-in_err-same-clause-read
returns-in_err-same-clause-read g c =
    let p = err_from_is_err_and c.from_residual-in_err-same.result c.from_residual-in_err-same.ensures.1 in
    rw (p.1, p.2) (read_err g.S.Store _ _ IsDeskSchema _ (read_then g.S.Store _ _ _ IsDeskSchema _
    (read_where g.S.Store _ _ _ IsDeskSchema log_in_desk _ c.in_ok-saved.ensures.read) _ c.in_err-same.ensures.read))

pub returns-then-not-same-clause-read : goal.returns-then-not-same-clause-read
returns-then-not-same-clause-read g c =
    read_as g.S.Store _ _ IsDeskSchema _ _
    (read_then g.S.Store _ _ _ IsDeskSchema _
    (read_where g.S.Store _ _ _ IsDeskSchema log_in_desk _ c.in_ok-saved.ensures.read) _ c.in_ok-same.ensures.read)

pub returns-clause-read : goal.returns-clause-read
returns-clause-read g c =
    read_as g.S.Store _ _ IsDeskSchema _ _
    (read_then g.S.Store _ _ _ IsDeskSchema _
    (read_where g.S.Store _ _ _ IsDeskSchema log_in_desk _ c.in_ok-saved.ensures.read) _ c.in_ok-same.ensures.read)
