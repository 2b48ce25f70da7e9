use Rattle.std.proofs.Common.{arith}
use Rattle.std.proofs.lemmas.Result.{err_from_is_err_and}
use Rattle.desk_codec.proofs.Starts.{start_lacks, start_shorter, start_found, start_made, reads_of}
use Rattle.desk_codec.proofs.Forms.{IsBytes}
use Rattle.desk_codec.proofs.start.front_start.Goals as goal

pub returns-in_err-start : goal.returns-in_err-start
returns-in_err-start c =
    let p = err_from_is_err_and c.from_residual.result c.from_residual.ensures.1 in
    rw (p.1, p.2) (start_lacks c.args.bytes.now c.in_err-start.field-0.0 c.in_err-start.ensures)

pub overflow_sub-result : goal.overflow_sub-result
overflow_sub-result c =
    start_shorter c.args.bytes.now c.in_ok-start.start c.in_ok-start.rest.now
    (λ i. omega (arith, c.type_inv.bytes i)) c.in_ok-start.ensures

pub returns : goal.returns
returns c =
    let h : IsBytes c.args.bytes.now = λ i. omega (arith, c.type_inv.bytes i) in (
      omega arith,
      start_found c.args.bytes.now c.in_ok-start.start c.in_ok-start.rest.now h c.in_ok-start.ensures,
      start_made c.args.bytes.now (c.in_ok-start.start, c.in_ok-start.rest.now) h c.in_ok-start.ensures,
      reads_of c.args.bytes.now c.in_ok-start.start c.in_ok-start.rest.now h c.in_ok-start.ensures,
    )
