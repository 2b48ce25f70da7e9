use Rattle.std.proofs.Common.{subst, OnOk}
use Rattle.std.proofs.lemmas.Result.{on_ok_weaker}
use Rattle.desk_events.specs.Written.{HasAnnouncedCounts}
use Rattle.desk_events.proofs.Announced.{more_counts}
use Rattle.desk_events.proofs.writer.EventWriter.close.Goals as goal

pub returns-clause-counts : goal.returns-clause-counts
returns-clause-counts g c =
    on_ok_weaker _ (λ more. more_counts _ _ _ _ _ c.in_ok-turn.ensures.counts (subst (λ node.
    HasAnnouncedCounts c.args.time node (g.W.Write.contents c.turn.new.self.writer)
    (g.W.Write.contents c.write_count.new.self.writer)) c.turn.ensures.node more)) c.write_count.ensures.counts
