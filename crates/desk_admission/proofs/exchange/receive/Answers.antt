use Rattle.std.proofs.Common.{◌+◌, ◌-◌, length, rules, arith, sym, subst}
use Rattle.std.proofs.KnownBytes.{Consumes-trans}
use Rattle.std.specs.Io.KnownBytes.{Consumes}
use Rattle.desk_key.proofs.Filling.{filled_more}
use Rattle.desk_admission.proofs.exchange.receive.Goals as goal

pub loop-preserved : goal.loop-preserved
loop-preserved g c =
    let before = c.loop.invariant in
    let room = length c.loop.room - c.loop.at in
    let filled = filled_more c.loop.room c.read.new.buf c.loop.at room c.in-Ok.count before.within
    c.in-Ok.ensures.bound.0 in
    record {
      room = search rules;
      within = search rules;
      filled = subst (Consumes _ _) (sym filled) (Consumes-trans _ _ _ _ _ before.filled c.in-Ok.ensures.bytes.0);
    }
