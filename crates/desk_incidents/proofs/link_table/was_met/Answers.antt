use Rattle.std.proofs.Common.{◌≡◌, ◌∙◌, length, suc, sym, arith}
use Rattle.desk_incidents.proofs.NotedMerges.{length-noted}
use Rattle.desk_incidents.proofs.link_table.was_met.Goals as goal

pub returns-else-contains-clause-all : goal.returns-else-contains-clause-all
returns-else-contains-clause-all c =
    let more : length c.note_end.new.ends.keys ≡ suc (length c.args.ends.now.keys) =
    length-noted c.args.end c.args.ends.now.keys c.note_end.new.ends.keys
    (sym c.contains.ensures ∙ c.if-contains.false) c.note_end.ensures.ends in
    omega (arith, more, c.note_end.ensures.room)
