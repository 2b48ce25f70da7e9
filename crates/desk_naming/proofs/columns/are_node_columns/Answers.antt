use Rattle.std.proofs.Common.{rules, ◌≡◌, length, IsTrue, refl, arith}
use Rattle.desk_naming.proofs.EightElements.{eight}
use Rattle.desk_naming.proofs.columns.are_node_columns.Goals as goal

pub returns : goal.returns
returns c =
    let xs = c.args.columns.now in
    let long : length xs ≡ 8 = omega (arith, c.in-len8.len_at_least, c.in-len8.len_below) in
    let is = eight xs c.slot-item.result c.version-item.result c.id-item.result c.n-item.result c.domain-item.result
    c.view-item.result c.normal-item.result c.commit-item.result long c.slot-item.is c.version-item.is c.id-item.is
    c.n-item.is c.domain-item.is c.view-item.is c.normal-item.is c.commit-item.is in
    let slot : IsTrue c.is_column.result = search rules in
    let version : IsTrue c.is_column-2.result = search rules in
    let owner : IsTrue c.are_owner_columns.result = search rules in
    let own = c.are_owner_columns.ensures.0 owner in
    let first = c.is_column.ensures.0 slot in
    let second = c.is_column-2.ensures.0 version in
    rw is (
      (λ numbers.
          let all = c.are_number_columns.ensures.0 numbers in
          rw (first, second, own.0, own.1, own.2, all.0, all.1, all.2) refl),
      λ h. c.are_number_columns.ensures.1 (cc, cc, cc),
    )
