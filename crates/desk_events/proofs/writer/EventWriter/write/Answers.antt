use Rattle.std.proofs.Common.{ap, sym, ◌∙◌, ◌/◌}
use Rattle.desk_events.specs.Events.{event_kind}
use Rattle.desk_events.specs.Rates.{is_announced, rates_in}
use Rattle.desk_events.proofs.Announced.{event_announced}
use Rattle.desk_events.proofs.writer.EventWriter.write.Goals as goal

pub returns-clause-written : goal.returns-clause-written
returns-clause-written g c =
    let event = c.args.event.now in
    let time = c.args.time in
    let old = c.args.self.now in
    let before = c.count_before.new.self in
    let gets = sym (ap (is_announced (event_kind event)) c.count_before.ensures.rates)
    ∙ ap (λ kind. is_announced kind before.rates) (sym c.kind.ensures.value) ∙ sym c.admits.ensures.announced
    ∙ c.if-not-admits.false in
    event_announced time old.node before.node event (is_announced (event_kind event) (rates_in (time / 1000) old.rates))
    (g.W.Write.contents old.writer) (g.W.Write.contents before.writer)
    (g.W.Write.contents c.write_line.new.self.writer) c.event_text-line.result c.write_line.result gets
    c.count_before.ensures.node c.in_ok-count_before.ensures.counts c.event_text-line.ensures
    c.write_line.ensures.line
