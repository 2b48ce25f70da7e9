use Rattle.std.proofs.Common.{subst}
use Rattle.std.specs.Io.KnownBytes.{Appends}
use Rattle.desk_output.specs.Prefixes.{AppendsPrefix}
use Rattle.desk_status.specs.Lines.{lines_from}
use Rattle.desk_status.proofs.Lines.{wrote_more, wrote_part, wrote_whole, wrote_all}
use Rattle.desk_status.proofs.printing.write_status.Goals as goal

pub loop-node-preserved : goal.loop-node-preserved
loop-node-preserved g c =
    wrote_more c.greatest_place-greatest.result _ _ _ c.args.answers.now c.loop-node.node _ c.loop-node-test.true
    c.loop-node.invariant c.in-Ok.ensures.ok

pub returns-in-Err-clause-printed : goal.returns-in-Err-clause-printed
returns-in-Err-clause-printed g c =
    subst (λ n. AppendsPrefix (g.W.Write.contents c.args.writer.now) (g.W.Write.contents c.write_node.new.writer)
    (lines_from n 0 c.args.answers.now)) c.greatest_place-greatest.ensures
    (wrote_part c.greatest_place-greatest.result _ _ _ c.args.answers.now c.loop-node.node _ c.loop-node-test.true
    c.loop-node.invariant c.in-Err.ensures.printed)

pub returns-clause-ok : goal.returns-clause-ok
returns-clause-ok g c =
    subst (λ n. Appends (g.W.Write.contents c.args.writer.now) (g.W.Write.contents c.loop-node.writer)
    (lines_from n 0 c.args.answers.now)) c.greatest_place-greatest.ensures
    (wrote_whole c.greatest_place-greatest.result _ _ c.args.answers.now c.loop-node.node c.loop-node-test.false
    c.loop-node.invariant)

pub returns-clause-printed : goal.returns-clause-printed
returns-clause-printed g c =
    subst (λ n. AppendsPrefix (g.W.Write.contents c.args.writer.now) (g.W.Write.contents c.loop-node.writer)
    (lines_from n 0 c.args.answers.now)) c.greatest_place-greatest.ensures
    (wrote_all c.greatest_place-greatest.result _ _ c.args.answers.now c.loop-node.node c.loop-node-test.false
    c.loop-node.invariant)
