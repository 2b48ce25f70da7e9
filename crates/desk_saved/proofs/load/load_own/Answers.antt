use Rattle.std.proofs.Common.{rules, ◌≡◌, length, sym, subst}
use Rattle.std.specs.List.{AllByRecursion}
use Rattle.std.proofs.lemmas.Result.{err_from_is_err_and}
use Rattle.desk_types.specs.declared.refusal.Refusal.TheVariants as refusals
use Rattle.desk_naming.specs.Contents.{trees_of}
use Rattle.desk_saved.specs.DeskTables.{node_table_of, HasLogTables}
use Rattle.desk_naming.proofs.NodeAnswer.{node_wide}
use Rattle.desk_saved.proofs.Loading.{own_found}
use Rattle.desk_saved.proofs.TableReads.{node_in_log}
use Rattle.desk_naming.proofs.TableReads.{read_where, read_as, read_want, read_err}
use Rattle.desk_saved.proofs.load.load_own.Goals as goal

pub returns-in_err-rows-clause-crash : goal.returns-in_err-rows-clause-crash
returns-in_err-rows-clause-crash g c d schema = c.node_rows.ensures.crash (node_table_of d) schema

pub returns-in_err-found-clause-crash : goal.returns-in_err-found-clause-crash
returns-in_err-found-clause-crash g c d schema = c.node_rows.ensures.crash (node_table_of d) schema

pub returns-clause-crash : goal.returns-clause-crash
returns-clause-crash g c d schema = c.node_rows.ensures.crash (node_table_of d) schema

pub returns-clause-found : goal.returns-clause-found
returns-clause-found g c clean d schema =
    let trees = trees_of g.S.Store c.args.conn.now in
    let rows = c.in_ok-rows.rows.items in
    let shown = c.in_ok-rows.ensures.shown clean (node_table_of d) schema in
    let same : c.as_slice.result.now ≡ rows = c.as_slice.ensures.value in
    let wide = subst (AllByRecursion (λ row. length row ≡ 8)) (sym same) (node_wide trees d.node.tree rows shown) in
    own_found d trees rows shown c.args.version c.args.id c.args.n c.args.domain.now c.in_ok-found.found
    (rw same at (c.in_ok-found.ensures wide))

pub returns-in_err-rows-clause-read : goal.returns-in_err-rows-clause-read
returns-in_err-rows-clause-read g c =
    let p = err_from_is_err_and c.from_residual.result c.from_residual.ensures.1 in
    rw (p.1, p.2) (read_err g.S.Store _ _ HasLogTables _
    (read_where g.S.Store _ _ _ HasLogTables node_in_log _ c.in_err-rows.ensures.read))

pub returns-in_err-found-clause-read : goal.returns-in_err-found-clause-read
returns-in_err-found-clause-read g c =
    let p = err_from_is_err_and c.from_residual-in_err-found.result c.from_residual-in_err-found.ensures.1 in
    let is : p.0 ≡ refusals.WantOfMemory = search rules in
    rw (p.1, is) (read_want g.S.Store _ _ HasLogTables _
    (read_where g.S.Store _ _ _ HasLogTables node_in_log _ c.in_ok-rows.ensures.read))

pub returns-clause-read : goal.returns-clause-read
returns-clause-read g c =
    read_as g.S.Store _ _ HasLogTables _ c.in_ok-found.found
    (read_where g.S.Store _ _ _ HasLogTables node_in_log _ c.in_ok-rows.ensures.read)
