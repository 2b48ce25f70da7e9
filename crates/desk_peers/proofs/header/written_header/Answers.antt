use Rattle.std.proofs.Common.{drop, arith, sym, ap, ◌∙◌}
use Rattle.std.specs.Int.{w64, from_be_bytes}
use Rattle.desk_peers.proofs.Starts.{written_all}
use Rattle.desk_peers.proofs.header.written_header.Goals as goal

pub returns-clause-some : goal.returns-clause-some
returns-clause-some c =
    let back = c.split_at.ensures.back in
    let number = c.split_at-2.ensures.back ∙ ap (drop 1) back in
    written_all c.args.places.places c.args.bytes.now c.requires.length c.epoch_of.result c.in_ok-purpose.purpose
    (c.epoch_of.ensures ∙ ap (from_be_bytes w64) number) (λ i. omega (arith, c.type_inv.bytes i)) c.requires.mark
    (rw back at (sym c.purpose_of.ensures ∙ c.in_ok-purpose.was)) (sym c.is_untold.ensures ∙ c.if-is_untold.false)
