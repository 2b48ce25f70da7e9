use Rattle.std.proofs.Common.{refl}
use Rattle.desk_output.proofs.Texts.{wrote_part, wrote_all, wrote_whole}
use Rattle.desk_output.specs.Printing.{part_text}
use Rattle.desk_output.proofs.printing.write_parts.Goals as goal

pub returns-in-Err-clause-printed : goal.returns-in-Err-clause-printed
returns-in-Err-clause-printed g c =
    wrote_part part_text _ _ _ c.args.parts.now c.loop-part.part-index _ _ c.loop-part-test.true refl
    c.loop-part.invariant c.in-Err.ensures.err

pub returns-clause-ok : goal.returns-clause-ok
returns-clause-ok g c =
    wrote_whole part_text _ _ c.args.parts.now c.loop-part.part-index c.loop-part-test.false c.loop-part.invariant

pub returns-clause-printed : goal.returns-clause-printed
returns-clause-printed g c =
    wrote_all part_text _ _ c.args.parts.now c.loop-part.part-index c.loop-part-test.false c.loop-part.invariant
