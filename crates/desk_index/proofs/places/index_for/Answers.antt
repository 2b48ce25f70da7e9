use Rattle.std.proofs.Common.{◌∙◌, ◌≤◌, sym, nat_lt, length, arith}
use Rattle.std.specs.List.{position_or_len}
use Rattle.desk_index.proofs.WithoutFirst.{position_none}
use Rattle.desk_index.proofs.PlaceLists.{position_or_len-most}
use Rattle.desk_index.proofs.places.index_for.Goals as goal

pub returns-in-None-clause-place : goal.returns-in-None-clause-place
returns-in-None-clause-place c =
    let least : length c.args.list.now ≤ position_or_len (nat_lt c.args.place) c.args.list.now =
    position_none (nat_lt c.args.place) c.args.list.now (sym c.index_above.ensures ∙ c.in-None.is) in
    omega (arith, least, position_or_len-most (nat_lt c.args.place) c.args.list.now)
