use Rattle.std.proofs.Common.{◌∙◌, map, nat_eq, sym, ap, arith}
use Rattle.desk_index.specs.Slots.{places, with_place}
use Rattle.desk_incidents.specs.CallTable.{pair_of}
use Rattle.desk_incidents.specs.Calls.{is_of}
use Rattle.desk_incidents.proofs.MovedCalls.{entry-within, pairs-set, pair-there, places-given, room-without}
use Rattle.desk_incidents.proofs.call_table.give_at.Goals as goal

pub set_number-requires : goal.set_number-requires
set_number-requires c = entry-within c.args.old c.args.place c.args.table.now.entries c.requires.there

pub put-requires : goal.put-requires
put-requires c =
    room-without (nat_eq c.args.old c.args.number) c.args.place _ _ _ _ (c.remove.ensures.lists c.args.number)
    c.requires.room (c.remove.ensures.room c.args.number)

pub returns-clause-calls : goal.returns-clause-calls
returns-clause-calls c =
    ap (map pair_of) c.set_number.ensures ∙ pairs-set c.args.number c.args.place c.args.table.now.entries

pub returns-clause-table : goal.returns-clause-table
returns-clause-table c n =
    places-given n c.args.old c.args.number c.args.place (map pair_of c.args.table.now.entries) _ _ _
    (pair-there c.args.old c.args.place c.args.table.now.entries c.requires.there) (c.requires.table n)
    (c.remove.ensures.lists n) (c.put.ensures.lists n)
    ∙ ap (places (is_of n) 0) (sym (ap (map pair_of) c.set_number.ensures
    ∙ pairs-set c.args.number c.args.place c.args.table.now.entries))

pub returns-clause-lists : goal.returns-clause-lists
returns-clause-lists c n =
    c.put.ensures.lists n ∙ ap (with_place (nat_eq c.args.number n) c.args.place) (c.remove.ensures.lists n)

pub returns-clause-room : goal.returns-clause-room
returns-clause-room c n = omega (arith, c.remove.ensures.room n, c.put.ensures.room n)

pub returns-clause-listed : goal.returns-clause-listed
returns-clause-listed c n = c.put.ensures.there n ∙ c.remove.ensures.there n
