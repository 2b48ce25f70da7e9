use Rattle.std.proofs.Common.{rules, ◌≡◌, length, sym, subst, refl, inl, inr}
use Rattle.std.specs.List.{AllByRecursion}
use Rattle.std.proofs.lemmas.Result.{err_from_is_err_and}
use Rattle.sqlite.specs.Held.{state}
use Rattle.desk_types.specs.declared.refusal.Refusal.TheVariants as refusals
use Rattle.desk_saved.specs.DeskTables.{HasLogTables}
use Rattle.desk_naming.specs.Tables.{read_entries}
use Rattle.desk_saved.proofs.Loading.{are_wide, loads, plain_entries}
use Rattle.desk_naming.proofs.TableReads.{leaves_none, read_rows, read_refused, read_want}
use Rattle.desk_saved.proofs.load.load_log.Goals as goal

pub returns-in-Err-clause-crash : goal.returns-in-Err-clause-crash
returns-in-Err-clause-crash g c d schema =
    leaves_none g.S.Store c.args.conn.now c.query_all.new.self HasLogTables read_entries plain_entries
    c.query_all.ensures.survives (d, schema)

pub returns-in_err-found-clause-crash : goal.returns-in_err-found-clause-crash
returns-in_err-found-clause-crash g c d schema =
    leaves_none g.S.Store c.args.conn.now c.query_all.new.self HasLogTables read_entries plain_entries
    c.query_all.ensures.survives (d, schema)

pub returns-clause-crash : goal.returns-clause-crash
returns-clause-crash g c d schema =
    leaves_none g.S.Store c.args.conn.now c.query_all.new.self HasLogTables read_entries plain_entries
    c.query_all.ensures.survives (d, schema)

pub returns-clause-found : goal.returns-clause-found
returns-clause-found g c clean d schema =
    let old = state g.S.Store c.args.conn.now in
    let new = state g.S.Store c.query_all.new.self in
    let rows = c.in-Ok.rows.items in
    let shown = c.in-Ok.ensures.ok clean in
    let same : c.as_slice.result.now ≡ rows = c.as_slice.ensures.value in
    let wide = subst (AllByRecursion (λ row. length row ≡ 4)) (sym same) (are_wide d old new schema rows shown) in
    loads d old new schema rows shown c.in_ok-found.found (rw same at (c.in_ok-found.ensures wide))

pub returns-in-Err-clause-read : goal.returns-in-Err-clause-read
returns-in-Err-clause-read g c =
    read_refused g.S.Store c.args.conn.now c.query_all.new.self HasLogTables read_entries plain_entries
    c.query_all.ensures.survives (inr (inl refl)) c.in-Err.field-0 c.in-Err.ensures.err

pub returns-in_err-found-clause-read : goal.returns-in_err-found-clause-read
returns-in_err-found-clause-read g c =
    let p = err_from_is_err_and c.from_residual.result c.from_residual.ensures.1 in
    let is : p.0 ≡ refusals.WantOfMemory = search rules in
    rw (p.1, is) (read_want g.S.Store c.args.conn.now c.query_all.new.self HasLogTables c.in-Ok.rows
    (read_rows g.S.Store c.args.conn.now c.query_all.new.self HasLogTables read_entries plain_entries
    c.query_all.ensures.survives c.in-Ok.rows c.in-Ok.rows.items c.in-Ok.ensures.ok))

pub returns-clause-read : goal.returns-clause-read
returns-clause-read g c =
    read_rows g.S.Store c.args.conn.now c.query_all.new.self HasLogTables read_entries plain_entries
    c.query_all.ensures.survives c.in_ok-found.found c.in-Ok.rows.items c.in-Ok.ensures.ok
