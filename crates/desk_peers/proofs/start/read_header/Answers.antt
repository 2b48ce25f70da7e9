use Rattle.std.proofs.Common.{◌≡◌, ◌<◌, ◌++◌, length, subst, refl, ap, ◌∙◌, arith}
use Rattle.std.proofs.lemmas.Result.{err_from_is_err_and}
use Rattle.desk_peers.specs.Headers.{BeginsNoHeader}
use Rattle.desk_peers.specs.declared.header.TheConstants.{HEADER_BYTES}
use Rattle.desk_peers.proofs.Starts.{cut_header, bad_header, unread_header}
use Rattle.desk_peers.proofs.start.read_header.Goals as goal

pub returns-in_err-read_up_to-clause-err : goal.returns-in_err-read_up_to-clause-err
returns-in_err-read_up_to-clause-err g c =
    let p = err_from_is_err_and c.from_residual.result c.from_residual.ensures.1 in
    let h = c.in_err-read_up_to.ensures.err in
    rw (p.1, p.2) (
      h.more,
      h.read,
      unread_header c.spellings.ensures.lengths c.args.places.places c.args.places.fits c.args.mark.items h.more
          c.requires.length c.requires.mark c.in_err-read_up_to.field-0.0 h.which,
    )

pub returns-then-len-lt-HEADER_BYTES-clause-err : goal.returns-then-len-lt-HEADER_BYTES-clause-err
returns-then-len-lt-HEADER_BYTES-clause-err g c =
    let h = c.in_ok-read_up_to.ensures.ok in
    let few : c.read_up_to.new.bytes.len < HEADER_BYTES = rw c.len.ensures at c.if-len-lt-HEADER_BYTES.true in
    let same = c.read_up_to.new.bytes.ok.0 in
    let parts : length c.read_up_to.new.bytes.items ≡ length (c.args.mark.items ++ h.more) = ap length h.new_is in (
      h.more,
      h.read,
      cut_header c.spellings.ensures.lengths c.args.places.places c.args.places.fits c.args.mark.items h.more
          c.requires.length c.requires.mark _ refl (omega (arith, few, same, parts)),
    )

pub returns-clause-err : goal.returns-clause-err
returns-clause-err g c =
    let h = c.in_ok-read_up_to.ensures.ok in (
      h.more,
      h.read,
      bad_header c.spellings.ensures.lengths c.args.places.places c.args.places.fits c.args.mark.items h.more
          c.requires.length c.requires.mark _ refl
          (subst (BeginsNoHeader c.args.places.places) (c.as_slice.ensures.value ∙ h.new_is)
          (c.written_header.ensures.none c.in-None.is)),
    )
