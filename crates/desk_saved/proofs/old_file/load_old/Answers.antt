use Rattle.std.proofs.Common.{rules, ◌≡◌, ◌∙◌, ◌≤◌, sym, subst, false, IsTrue, length}
use Rattle.std.specs.List.{list_any}
use Rattle.std.proofs.lemmas.Result.{err_from_is_err_and}
use Rattle.desk_codec.specs.Version.{is_new_entry}
use Rattle.desk_naming.specs.Contents.{trees_of}
use Rattle.desk_saved.specs.File.{HasNoLogFile}
use Rattle.desk_saved.specs.DeskTables.{HasLogTables}
use Rattle.desk_types.specs.declared.limits.TheConstants.{FIRST_LOG_ENTRIES}
use Rattle.desk_naming.proofs.TableReads.{read_as, read_err}
use Rattle.desk_saved.proofs.Restarts.{same_log}
use Rattle.desk_saved.proofs.old_file.load_old.Goals as goal

pub returns-in_default-clause-found : goal.returns-in_default-clause-found
returns-in_default-clause-found g c clean d schema s is file =
    let none : HasNoLogFile d 1 c.args.owner.now (trees_of g.S.Store c.args.conn.now) =
    search (rules, c.in_ok-saved.ensures.found clean d schema) in
    none s is.state file

pub returns-then-not-is_old-clause-found : goal.returns-then-not-is_old-clause-found
returns-then-not-is_old-clause-found g c clean d schema s is file =
    let found = rw c.in-Some.is at (c.in_ok-saved.ensures.found clean d schema) in
    let log : s.log ≡ c.entries.result.now =
    same_log d (trees_of g.S.Store c.args.conn.now) s.log c.in-Some.saved.log is.state.entries found.0.entries file.1
    found.1.1
    ∙ sym (c.entries.ensures.value ∙ c.log.ensures) in
    let old : IsTrue c.are_old-is_old.result = c.are_old-is_old.ensures.1
    (subst (λ l. (length l ≤ FIRST_LOG_ENTRIES) × (list_any is_new_entry l ≡ false)) log (is.within, is.older)) in
    search rules

pub returns-clause-found : goal.returns-clause-found
returns-clause-found g c clean d schema =
    let found = rw c.in-Some.is at (c.in_ok-saved.ensures.found clean d schema) in
    let old : IsTrue c.are_old-is_old.result = search rules in
    let log : c.entries.result.now ≡ c.in-Some.saved.log = c.entries.ensures.value ∙ c.log.ensures in
    let fits = subst (λ l. (length l ≤ FIRST_LOG_ENTRIES) × (list_any is_new_entry l ≡ false)) log
    (c.are_old-is_old.ensures.0 old) in
    (record { state = found.0; within = fits.0; older = fits.1 }, found.1)

pub returns-in_err-saved-clause-read : goal.returns-in_err-saved-clause-read
returns-in_err-saved-clause-read g c =
    let p = err_from_is_err_and c.from_residual.result c.from_residual.ensures.1 in
    rw (p.1, p.2) (read_err g.S.Store _ _ HasLogTables _ c.in_err-saved.ensures.read)

pub returns-in_default-clause-read : goal.returns-in_default-clause-read
returns-in_default-clause-read g c =
    read_as g.S.Store _ _ HasLogTables _ _ c.in_ok-saved.ensures.read

pub returns-then-not-is_old-clause-read : goal.returns-then-not-is_old-clause-read
returns-then-not-is_old-clause-read g c =
    read_as g.S.Store _ _ HasLogTables _ _ c.in_ok-saved.ensures.read

pub returns-clause-read : goal.returns-clause-read
returns-clause-read g c =
    read_as g.S.Store _ _ HasLogTables _ _ c.in_ok-saved.ensures.read
