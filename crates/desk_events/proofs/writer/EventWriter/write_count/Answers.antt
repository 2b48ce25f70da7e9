use Rattle.desk_events.proofs.Announced.{one_count}
use Rattle.desk_events.proofs.writer.EventWriter.write_count.Goals as goal

pub returns-clause-counts : goal.returns-clause-counts
returns-clause-counts g c =
    one_count c.args.time c.args.self.now.node c.args.count (g.W.Write.contents c.args.self.now.writer)
    (g.W.Write.contents c.write_line.new.self.writer) c.suppressed_text-line.result c.write_line.result
    c.suppressed_text-line.ensures c.write_line.ensures.line
