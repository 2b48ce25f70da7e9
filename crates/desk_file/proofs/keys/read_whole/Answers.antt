use Rattle.std.proofs.Common.{◌-◌, length, rules, sym, subst}
use Rattle.std.proofs.KnownBytes.{Consumes-trans}
use Rattle.std.specs.Io.KnownBytes.{Consumes}
use Rattle.desk_key.proofs.Filling.{filled_more}
use Rattle.desk_file.proofs.keys.read_whole.Goals as goal

pub loop-at-preserved : goal.loop-at-preserved
loop-at-preserved g c =
    let before = c.loop-at.invariant in
    let room = length c.loop-at.room - c.loop-at.at in
    let filled = filled_more c.loop-at.room c.read.new.buf c.loop-at.at room c.in-Ok.count before.within
    c.in-Ok.ensures.bound.0 in
    record {
      room = search rules;
      within = search rules;
      filled = subst (Consumes _ _) (sym filled) (Consumes-trans _ _ _ _ _ before.filled c.in-Ok.ensures.bytes.0);
    }
