use Rattle.std.proofs.Common.{ap, sym, ◌∙◌}
use Rattle.std.specs.Option.{option_map}
use Rattle.desk_peers.specs.Links.{LinkState}
use Rattle.desk_peers.proofs.Sending.{sent_new}
use Rattle.desk_peers.proofs.link.PeerLink.send_once.Goals as goal

pub returns-in-Some-connect : goal.returns-in-Some-connect
returns-in-Some-connect g c =
    let e = c.self.view_is in
    sent_new c.args.places.places c.args.packet.now c.args.self _ _ _ _ c.send_over-in-Some-connect.ensures
    (c.in-Some-connect.ensures.closed ∙ ap (λ (l : LinkState). l.closed) e)
    (sym (ap (λ (l : LinkState). l.current) e) ∙ ap (option_map _) c.in_default.is)
    (rw (sym e) c.in-Some-connect.ensures.empty)
