use Rattle.std.proofs.Common.{rules, ◌≡◌, ap, ◌∙◌, sym, subst, length, ◌≤◌}
use Rattle.std.proofs.lemmas.Bool.{false≢true}
use Rattle.std.proofs.lemmas.Result.{err_from_is_err_and}
use Rattle.sqlite.specs.Effect.{Database}
use Rattle.sqlite.specs.State.{HasCleanDisk}
use Rattle.sqlite.specs.Held.{state}
use Rattle.desk_log.specs.SavedValue.{SavedValue}
use Rattle.desk_types.specs.declared.limits.TheConstants.{LAST_VIEW, LOG_ENTRIES}
use Rattle.desk_naming.specs.Contents.{trees_of}
use Rattle.desk_saved.specs.DeskTables.{HasLogTables}
use Rattle.desk_types.specs.declared.refusal.Refusal.TheVariants as refusals
use Rattle.desk_saved.specs.File.{HasLog, HasNoLog, HasOwn, HasNoOwn}
use Rattle.desk_saved.proofs.LoadStateAnswers.{misfits, fits_together}
use Rattle.desk_naming.proofs.TableReads.{read_then, read_as, read_want, read_err}
use Rattle.desk_saved.proofs.load.load_saved.Goals as goal

pub returns-in_default-clause-found : goal.returns-in_default-clause-found
returns-in_default-clause-found g c clean d schema s is file =
    let own = c.args.owner.now in
    let trees = trees_of g.S.Store c.args.conn.now in
    let none : HasNoOwn d trees c.args.version own.id own.n c.as_text.result.now =
    rw c.in_default.is at (c.in_ok-numbers.ensures.found clean d schema) in
    none s.view s.normal s.commit
    (subst (λ domain. HasOwn d trees c.args.version own.id own.n domain s.view s.normal s.commit)
    (sym c.as_text.ensures.value) file.0)

pub returns-in_default-2-clause-found : goal.returns-in_default-2-clause-found
returns-in_default-2-clause-found g c clean d schema s is file =
    let clean1 : HasCleanDisk (state g.S.Store c.load_own.new.conn) = c.load_log.ensures.read.keeps.0 clean in
    let same = c.in_ok-numbers.ensures.read.same clean1 (d, schema) in
    let now = same.0.now_is in
    let schema2 = ap (λ (db : Database). db.schema) now ∙ schema in
    let none : HasNoLog d (trees_of g.S.Store c.load_own.new.conn) =
    rw c.in_default-2.is at (c.in_ok-entries.ensures.found clean d schema2) in
    none s.log is.entries (subst (λ (db : Database). HasLog d db.trees s.log) (sym now) file.1)

pub returns-then-not-fits-clause-found : goal.returns-then-not-fits-clause-found
returns-then-not-fits-clause-found g c clean d schema =
    let old = state g.S.Store c.args.conn.now in
    let own = c.args.owner.now in
    let n = c.in-Some.numbers in
    let clean1 : HasCleanDisk (state g.S.Store c.load_own.new.conn) = c.load_log.ensures.read.keeps.0 clean in
    let now = (c.in_ok-numbers.ensures.read.same clean1 (d, schema)).0.now_is in
    let own_found : HasOwn d old.now.trees c.args.version own.id own.n c.as_text.result.now n.view n.normal n.commit =
    rw c.in-Some.is at (c.in_ok-numbers.ensures.found clean1 d schema) in
    let own_is : HasOwn d old.now.trees c.args.version own.id own.n own.domain n.view n.normal n.commit =
    subst (λ domain. HasOwn d old.now.trees c.args.version own.id own.n domain n.view n.normal n.commit)
    c.as_text.ensures.value own_found in
    let log_is : HasLog d (trees_of g.S.Store c.load_own.new.conn) c.in-Some-2.entries.items =
    (rw c.in-Some-2.is at (c.in_ok-entries.ensures.found clean d (ap (λ (db : Database). db.schema) now ∙ schema))).1
    in
    misfits d c.args.version own old.now.trees n.view n.normal n.commit c.in-Some-2.entries.items own_is
    (subst (λ (db : Database). HasLog d db.trees c.in-Some-2.entries.items) now log_is)
    (λ h. false≢true (sym c.if-not-fits.true ∙
    (rw c.as_slice.ensures.value at c.fit_together-fits.ensures).1 h))

pub returns-clause-found : goal.returns-clause-found
returns-clause-found g c clean d schema =
    let old = state g.S.Store c.args.conn.now in
    let own = c.args.owner.now in
    let n = c.in-Some.numbers in
    let clean1 : HasCleanDisk (state g.S.Store c.load_own.new.conn) = c.load_log.ensures.read.keeps.0 clean in
    let now = (c.in_ok-numbers.ensures.read.same clean1 (d, schema)).0.now_is in
    let own_found : HasOwn d old.now.trees c.args.version own.id own.n c.as_text.result.now n.view n.normal n.commit =
    rw c.in-Some.is at (c.in_ok-numbers.ensures.found clean1 d schema) in
    let own_is : HasOwn d old.now.trees c.args.version own.id own.n own.domain n.view n.normal n.commit =
    subst (λ domain. HasOwn d old.now.trees c.args.version own.id own.n domain n.view n.normal n.commit)
    c.as_text.ensures.value own_found in
    let found = rw c.in-Some-2.is at (c.in_ok-entries.ensures.found clean
    d (ap (λ (db : Database). db.schema) now ∙ schema)) in
    let log_is = subst (λ (db : Database). HasLog d db.trees c.in-Some-2.entries.items) now found.1 in
    let s : SavedValue = record {
      view = n.view;
      normal = n.normal;
      log = c.in-Some-2.entries.items;
      commit = n.commit;
    } in
    rw c.in_ok-saved.ensures.ok (
      fits_together s found.0
          ((rw c.as_slice.ensures.value at c.fit_together-fits.ensures).0 c.if-not-fits.false),
      (own_is, log_is),
    )

pub of-requires : goal.of-requires
of-requires g c =
    let n = c.in-Some.numbers in
    let entries = c.in-Some-2.entries.items in
    let h : (n.normal ≤ n.view) × (n.view ≤ LAST_VIEW) × (n.commit ≤ length entries) × (length entries ≤ LOG_ENTRIES) =
    (rw c.as_slice.ensures.value at c.fit_together-fits.ensures).0 c.if-not-fits.false in
    record { normal_within = h.0; view_within = h.1; commit_within = h.2; log_within = h.3 }

pub returns-in_err-numbers-clause-read : goal.returns-in_err-numbers-clause-read
returns-in_err-numbers-clause-read g c =
    let p = err_from_is_err_and c.from_residual.result c.from_residual.ensures.1 in
    rw (p.1, p.2) (read_err g.S.Store _ _ HasLogTables _ c.in_err-numbers.ensures.read)

pub returns-in_default-clause-read : goal.returns-in_default-clause-read
returns-in_default-clause-read g c =
    read_as g.S.Store _ _ HasLogTables _ _ c.in_ok-numbers.ensures.read

pub returns-in_err-entries-clause-read : goal.returns-in_err-entries-clause-read
returns-in_err-entries-clause-read g c =
    let p = err_from_is_err_and c.from_residual-in_err-entries.result c.from_residual-in_err-entries.ensures.1 in
    rw (p.1, p.2) (read_err g.S.Store _ _ HasLogTables _
    (read_then g.S.Store _ _ _ HasLogTables _ c.in_ok-numbers.ensures.read _ c.in_err-entries.ensures.read))

pub returns-in_default-2-clause-read : goal.returns-in_default-2-clause-read
returns-in_default-2-clause-read g c =
    read_as g.S.Store _ _ HasLogTables _ _
    (read_then g.S.Store _ _ _ HasLogTables _ c.in_ok-numbers.ensures.read _ c.in_ok-entries.ensures.read)

pub returns-then-not-fits-clause-read : goal.returns-then-not-fits-clause-read
returns-then-not-fits-clause-read g c =
    read_as g.S.Store _ _ HasLogTables _ _
    (read_then g.S.Store _ _ _ HasLogTables _ c.in_ok-numbers.ensures.read _ c.in_ok-entries.ensures.read)

pub returns-clause-read : goal.returns-clause-read
returns-clause-read g c =
    read_as g.S.Store _ _ HasLogTables _ _
    (read_then g.S.Store _ _ _ HasLogTables _ c.in_ok-numbers.ensures.read _ c.in_ok-entries.ensures.read)

pub returns-in_err-saved-clause-read : goal.returns-in_err-saved-clause-read
returns-in_err-saved-clause-read g c =
    let p = err_from_is_err_and c.from_residual-in_err-saved.result c.from_residual-in_err-saved.ensures.1 in
    let is : p.0 ≡ refusals.WantOfMemory = search rules in
    rw (p.1, is) (read_want g.S.Store _ _ HasLogTables _
    (read_then g.S.Store _ _ _ HasLogTables _ c.in_ok-numbers.ensures.read _ c.in_ok-entries.ensures.read))
