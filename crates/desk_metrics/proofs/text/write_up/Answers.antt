use Rattle.std.proofs.Common.{subst, OnOk, codes}
use Rattle.std.specs.Io.KnownBytes.{Appends}
use Rattle.desk_metrics.specs.Metrics.{node_sample}
use Rattle.desk_metrics.proofs.text.write_up.Goals as goal

pub returns : goal.returns
returns g c =
    subst (λ up. OnOk c.write_parts.result (Appends (g.W.Write.contents c.args.writer.now)
    (g.W.Write.contents c.write_parts.new.writer) (node_sample (codes "desk_page_node_up") c.args.node up)))
    c.up_value.ensures c.write_parts.ensures.ok
