use Rattle.std.proofs.Common.{rules, ◌≡◌, ◌<◌, length, arith}
use Rattle.desk_saved.specs.File.{row_of_client}
use Rattle.desk_saved.proofs.ClientsRead.{is_so, not_so, all_read, one_more, one_other, other_length, wide}
use Rattle.desk_saved.proofs.rows.are_client_rows.Goals as goal

pub returns-then-rows-clients : goal.returns-then-rows-clients
returns-then-rows-clients c all =
    not_so _ (other_length c.args.rows.now c.args.clients.now (λ same. absurd (omega arith)))

pub returns-then-not-same : goal.returns-then-not-same
returns-then-not-same c all =
    let rows = c.args.rows.now in
    let clients = c.args.clients.now in
    let k = c.loop-index.index in
    let row = c.index-rows-index.result in
    let client = c.index-clients-index.result in
    let low : k < length rows = omega arith in
    let there : k < length clients = omega arith in
    let width : length row ≡ 3 = wide rows k row low c.index-rows-index.is all in
    let either = c.in_ok-same.ensures width in
    not_so _ (one_other rows clients k row client there c.index-rows-index.is c.index-clients-index.is
    (λ is. let yes' = either.1 is in search rules))

pub loop-index-preserved : goal.loop-index-preserved
loop-index-preserved c all =
    let rows = c.args.rows.now in
    let clients = c.args.clients.now in
    let k = c.loop-index.index in
    let row = c.index-rows-index.result in
    let client = c.index-clients-index.result in
    let low : k < length rows = omega arith in
    let there : k < length clients = omega arith in
    let width : length row ≡ 3 = wide rows k row low c.index-rows-index.is all in
    let is : row ≡ row_of_client client = (c.in_ok-same.ensures width).0 (search rules) in
    one_more rows clients k row client low there c.index-rows-index.is c.index-clients-index.is is
    (c.loop-index.invariant all)

pub returns : goal.returns
returns c all =
    is_so _ (all_read c.args.rows.now c.args.clients.now c.loop-index.index (omega arith) (omega arith)
    (c.loop-index.invariant all))
