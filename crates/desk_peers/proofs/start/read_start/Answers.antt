use Rattle.std.proofs.Common.{◌<◌, refl, arith}
use Rattle.std.proofs.lemmas.Result.{err_from_is_err_and}
use Rattle.desk_peers.specs.declared.header.TheConstants.{MARK_BYTES}
use Rattle.desk_peers.proofs.Starts.{unread_start, starts_short, rest_unread}
use Rattle.desk_peers.proofs.start.read_start.Goals as goal

pub returns-in_err-read_up_to-clause-err : goal.returns-in_err-read_up_to-clause-err
returns-in_err-read_up_to-clause-err g c =
    let p = err_from_is_err_and c.from_residual.result c.from_residual.ensures.1 in
    rw (p.1, p.2)
    (unread_start c.spellings.ensures.lengths c.args.places.places c.in_err-read_up_to.field-0.0 _ _
    c.new-bytes.result.items c.new-bytes.ensures.items c.in_err-read_up_to.ensures.err)

pub returns-then-len-lt-MARK_BYTES-clause-err : goal.returns-then-len-lt-MARK_BYTES-clause-err
returns-then-len-lt-MARK_BYTES-clause-err g c =
    let few : c.read_up_to.new.bytes.len < MARK_BYTES = rw c.len.ensures at c.if-len-lt-MARK_BYTES.true in
    let same = c.read_up_to.new.bytes.ok.0 in
    starts_short c.args.places.places _ _ c.new-bytes.result.items c.read_up_to.new.bytes.items
    c.new-bytes.ensures.items c.in_ok-read_up_to.ensures.ok c.spellings.ensures.lengths _ refl
    (omega (arith, few, same))

pub returns-in_err-header-clause-err : goal.returns-in_err-header-clause-err
returns-in_err-header-clause-err g c =
    let p = err_from_is_err_and c.from_residual-in_err-header.result c.from_residual-in_err-header.ensures.1 in
    rw (p.1, p.2)
    (rest_unread c.args.places.places _ (g.I.Read.remaining c.read_up_to.new.reader) _ c.new-bytes.result.items
    c.read_up_to.new.bytes.items c.new-bytes.ensures.items c.in_ok-read_up_to.ensures.ok c.in_err-header.field-0.0
    c.in_err-header.ensures.err)
