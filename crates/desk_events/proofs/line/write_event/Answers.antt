use Rattle.std.proofs.Common.{subst, OnOk, ◌++◌}
use Rattle.std.specs.Io.KnownBytes.{Appends}
use Rattle.desk_events.specs.Lines.{line_head, event_members}
use Rattle.desk_events.proofs.Written.{wrote_both}
use Rattle.desk_events.proofs.line.write_event.Goals as goal

pub returns : goal.returns
returns g c =
    let event = c.args.event.now in
    subst (λ name. OnOk c.write_members.result (Appends (g.W.Write.contents c.args.writer.now)
    (g.W.Write.contents c.write_members.new.writer)
    (line_head name c.args.node c.args.time ++ event_members event))) c.name.ensures
    (wrote_both _ _ _ _ (event_members event) _ c.in_ok-write_head.ensures c.write_members.ensures)
