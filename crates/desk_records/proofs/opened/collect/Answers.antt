use Rattle.std.proofs.Common.{◌≤◌, ◌-◌, length, take, rules, arith, sym, subst, ◌∙◌}
use Rattle.std.proofs.lemmas.Slice.{take-put_mid_below}
use Rattle.std.specs.Io.KnownBytes.{Keeps, prepend_known}
use Rattle.desk_key.proofs.Filling.{filled_more}
use Rattle.desk_records.proofs.Opening.{held_more}
use Rattle.desk_records.proofs.opened.collect.Goals as goal

pub loop-held-preserved : goal.loop-held-preserved
loop-held-preserved g c =
    let before = c.loop-held.invariant in
    let room = c.args.wanted - c.loop-held.held in
    let within : c.loop-held.held ≤ length c.loop-held.room = omega arith in
    let filled = filled_more c.loop-held.room c.read.new.buf c.loop-held.held room c.in-Ok.count within
    c.in-Ok.ensures.bound.0 in
    record {
      room = search rules;
      least = omega arith;
      within = search rules;
      preserved = subst (λ l. Keeps (prepend_known (take c.args.first c.args.room.now)
          (g.R.Read.remaining c.args.inner.now))
          (prepend_known l (g.R.Read.remaining c.read.new.self))) (sym filled)
          (held_more _ _ _ _ _ before.preserved c.in-Ok.ensures.bytes.0);
      front = take-put_mid_below c.loop-held.held room c.loop-held.room c.read.new.buf c.args.first before.least within
          ∙ before.front;
    }
