use Rattle.std.proofs.Common.{sym, ◌∙◌, arith}
use Rattle.desk_published.proofs.ReportedPlaces.{some_request}
use Rattle.desk_published.proofs.published.PublishedBoard.has_request.Goals as goal

pub returns : goal.returns
returns g c =
    let own = c.self.inside in
    rw (← c.self.view_is)
    (c.is_id_of.ensures
    ∙ sym (some_request own.history own.requests.items c.args.client c.args.number c.args.place c.index.result.now
    c.self.invariant.1 (omega (arith, c.if-place-eq0.false)) (omega (arith, c.if-place-len.false, c.len.ensures))
    c.index.ensures))
