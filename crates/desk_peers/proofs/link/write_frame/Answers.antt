use Rattle.std.proofs.Common.{subst}
use Rattle.std.proofs.KnownBytes.{Appends-trans, Appends-kept}
use Rattle.desk_output.proofs.Prefixes.{prefix_sent}
use Rattle.desk_output.specs.Prefixes.{AppendsPrefix}
use Rattle.desk_peers.proofs.Sending.{on_err, text_by, prefix_longer, prefix_after, prefix_whole}
use Rattle.desk_peers.proofs.link.write_frame.Goals as goal

pub returns-in_err-write_beginning-clause-err : goal.returns-in_err-write_beginning-clause-err
returns-in_err-write_beginning-clause-err g c =
    on_err c.from_residual.result
    (subst (AppendsPrefix _ _)
    (text_by c.args.places.places c.args.is_new c.args.packet.now c.of_packet.result c.of_packet.ensures)
    (prefix_longer _ _ _ _ c.in_err-write_beginning.ensures.err))

pub returns-in-Err-clause-err : goal.returns-in-Err-clause-err
returns-in-Err-clause-err g c =
    subst (AppendsPrefix _ _)
    (text_by c.args.places.places c.args.is_new c.args.packet.now c.of_packet.result c.of_packet.ensures)
    (prefix_after _ _ _ _ _ c.in_ok-write_beginning.ensures.ok
    (prefix_sent _ _ _ c.in-Err.fault.sent c.in-Err.ensures.prefix))

pub returns-clause-err : goal.returns-clause-err
returns-clause-err g c =
    on_err c.flush.result
    (subst (AppendsPrefix _ _)
    (text_by c.args.places.places c.args.is_new c.args.packet.now c.of_packet.result c.of_packet.ensures)
    (prefix_whole _ _ _ (Appends-kept _ _ _ _
    (Appends-trans _ _ _ _ _ c.in_ok-write_beginning.ensures.ok c.in_default.ensures.ok) c.flush.ensures.bytes)))
