use Rattle.std.proofs.Common.{subst, sym, OnOk}
use Rattle.std.proofs.KnownBytes.{Appends-nil}
use Rattle.std.specs.Io.KnownBytes.{Appends}
use Rattle.desk_metrics.specs.Metrics.{place_line}
use Rattle.desk_metrics.proofs.Written.{place_is}
use Rattle.desk_metrics.proofs.text.write_place.Goals as goal

pub returns-in-Some : goal.returns-in-Some
returns-in-Some g c =
    subst (λ t. OnOk c.write_parts.result (Appends (g.W.Write.contents c.args.writer.now)
    (g.W.Write.contents c.write_parts.new.writer) t)) (place_is c.args.node _ _ c.in-Some.is) c.write_parts.ensures.ok

pub returns-in-None : goal.returns-in-None
returns-in-None g c =
    subst (λ p. Appends (g.W.Write.contents c.args.writer.now) (g.W.Write.contents c.args.writer.now)
    (place_line c.args.node p)) (sym c.in-None.is) (Appends-nil (g.W.Write.contents c.args.writer.now))
