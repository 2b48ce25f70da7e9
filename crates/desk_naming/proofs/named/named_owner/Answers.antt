use Rattle.std.proofs.Common.{rules, ◌≡◌, IsTrue, inr, length, sym, subst}
use Rattle.std.specs.List.{AllByRecursion}
use Rattle.std.proofs.lemmas.Result.{err_from_is_err_and}
use Rattle.sqlite.specs.Held.{state}
use Rattle.desk_naming.specs.Contents.{schema_of}
use Rattle.desk_naming.specs.Named.{HasNodeTable}
use Rattle.desk_naming.proofs.Common.{if_err_all}
use Rattle.desk_naming.proofs.NodeAnswer.{node_wide}
use Rattle.desk_naming.proofs.NodeTable.{owner_found}
use Rattle.desk_naming.proofs.named.named_owner.Goals as goal

pub returns-then-not-is_there-clause-found : goal.returns-then-not-is_there-clause-found
returns-then-not-is_there-clause-found g c clean o lower names =
    let there = c.has_node-is_there.ensures.1 (names.table, names.schema) in
    absurd (search rules)

pub returns-clause-found : goal.returns-clause-found
returns-clause-found g c clean =
    let old = (state g.S.Store c.args.connection.now).now in
    let there : IsTrue c.has_node-is_there.result = search rules in
    let has : HasNodeTable old.schema = c.has_node-is_there.ensures.0 there in
    let rows = c.in_ok-rows.rows.items in
    let shown = c.in_ok-rows.ensures.shown clean in
    let same : c.as_slice.result.now ≡ rows = c.as_slice.ensures.value in
    let wide = subst (AllByRecursion (λ row. length row ≡ 8)) (sym same)
    (node_wide old.trees has.0.node.tree rows (shown has.0 has.1)) in
    owner_found old rows shown has c.in_ok-found.found (rw same at (c.in_ok-found.ensures wide))

pub returns-clause-same : goal.returns-clause-same
returns-clause-same g c clean =
    let there : IsTrue c.has_node-is_there.result = search rules in
    let has : HasNodeTable (schema_of g.S.Store c.args.connection.now) = c.has_node-is_there.ensures.0 there in
    inr (c.in_ok-rows.ensures.read.same clean has)

pub returns-clause-left : goal.returns-clause-left
returns-clause-left g c clean trees leaves =
    let there : IsTrue c.has_node-is_there.result = search rules in
    let has : HasNodeTable (schema_of g.S.Store c.args.connection.now) = c.has_node-is_there.ensures.0 there in
    c.node_rows.ensures.read.left has clean trees leaves

pub returns-in_err-found-clause-left : goal.returns-in_err-found-clause-left
returns-in_err-found-clause-left g c clean trees leaves =
    let there : IsTrue c.has_node-is_there.result = search rules in
    let has : HasNodeTable (schema_of g.S.Store c.args.connection.now) = c.has_node-is_there.ensures.0 there in
    c.node_rows.ensures.read.left has clean trees leaves

pub returns-in_err-rows-clause-left : goal.returns-in_err-rows-clause-left
returns-in_err-rows-clause-left g c clean trees leaves =
    let there : IsTrue c.has_node-is_there.result = search rules in
    let has : HasNodeTable (schema_of g.S.Store c.args.connection.now) = c.has_node-is_there.ensures.0 there in
    c.node_rows.ensures.read.left has clean trees leaves

pub returns-in_err-found-clause-want_of_memory : goal.returns-in_err-found-clause-want_of_memory
returns-in_err-found-clause-want_of_memory g c clean =
    let there : IsTrue c.has_node-is_there.result = search rules in
    let has : HasNodeTable (schema_of g.S.Store c.args.connection.now) = c.has_node-is_there.ensures.0 there in
    if_err_all c.from_residual-in_err-found.result _ (λ r _. c.in_ok-rows.ensures.read.same clean has)

pub returns-in_err-rows-clause-want_of_memory : goal.returns-in_err-rows-clause-want_of_memory
returns-in_err-rows-clause-want_of_memory g c clean =
    let p = err_from_is_err_and c.from_residual.result c.from_residual.ensures.1 in
    let fault = c.in_err-rows.ensures.refused in
    rw (p.1, p.2) (λ want. absurd (let it = fault in let other = want in cc))

pub returns-in_err-rows-clause-store_fault : goal.returns-in_err-rows-clause-store_fault
returns-in_err-rows-clause-store_fault g c clean settled =
    let there : IsTrue c.has_node-is_there.result = search rules in
    let has : HasNodeTable (schema_of g.S.Store c.args.connection.now) = c.has_node-is_there.ensures.0 there in
    let p = err_from_is_err_and c.from_residual.result c.from_residual.ensures.1 in
    rw (p.1, p.2) (c.in_err-rows.ensures.read.store_fault settled clean has)

pub returns-in_err-rows-clause-keeps : goal.returns-in_err-rows-clause-keeps
returns-in_err-rows-clause-keeps g c = c.node_rows.ensures.read.keeps

pub returns-in_err-found-clause-keeps : goal.returns-in_err-found-clause-keeps
returns-in_err-found-clause-keeps g c = c.node_rows.ensures.read.keeps

pub returns-clause-keeps : goal.returns-clause-keeps
returns-clause-keeps g c = c.node_rows.ensures.read.keeps
