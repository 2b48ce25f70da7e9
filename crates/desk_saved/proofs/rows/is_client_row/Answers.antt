use Rattle.std.proofs.Common.{rules, ◌≡◌, false, pos, arith}
use Rattle.sqlite_value.specs.Order.{column}
use Rattle.sqlite_value.specs.declared.value.Value.TheVariants.{Int}
use Rattle.desk_saved.proofs.ClientsRead.{other_client, other_number, by_place}
use Rattle.desk_saved.proofs.rows.is_client_row.Goals as goal

pub returns-then-not-is_of_client : goal.returns-then-not-is_of_client
returns-then-not-is_of_client c width =
    let other : c.in_ok-is_of_client.is_of_client ≡ false = search rules in
    other_client c.args.row.now c.args.client.now _
    (rw c.get.ensures.value at (c.in_ok-is_of_client.ensures (omega (arith, width)))) other

pub returns-then-not-is_of_number : goal.returns-then-not-is_of_number
returns-then-not-is_of_number c width =
    let other : c.in_ok-is_of_number.is_of_number ≡ false = search rules in
    other_number c.args.row.now c.args.client.now _
    (rw c.get-2.ensures.value at (c.in_ok-is_of_number.ensures (omega (arith, width)))) other

pub returns : goal.returns
returns c width =
    let row = c.args.row.now in
    let r = c.args.client.now in
    let first = rw c.get.ensures.value at (c.in_ok-is_of_client.ensures (omega (arith, width))) in
    let second = rw c.get-2.ensures.value at (c.in_ok-is_of_number.ensures (omega (arith, width))) in
    let client : column row 0 ≡ Int (pos r.client) = first.0 (search rules) in
    let number : column row 1 ≡ Int (pos r.number) = second.0 (search rules) in
    by_place row r c.is_number-3.result width client number (c.is_number-3.ensures (omega (arith, width)))
