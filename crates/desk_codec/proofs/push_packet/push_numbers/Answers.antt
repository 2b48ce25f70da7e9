use Rattle.desk_codec.specs.Ranges.{FitsNode}
use Rattle.desk_codec.specs.Spelling.{head, long}
use Rattle.desk_codec.proofs.Putting.{put_third, fits_yet, grows_later, grows_after, was_refused, holds_refused}
use Rattle.desk_codec.proofs.push_packet.push_numbers.Goals as goal

pub returns : goal.returns
returns c =
    let before = c.args.out.now.items in
    let one = c.push_head.new.out.items in
    let two = c.push_u64.new.out.items in
    let out = c.push_u64-2.new.out.items in
    let result = c.push_u64-2.result in
    let first = c.in_ok-push_head.ensures in
    let second = c.in_ok-push_u64.ensures.spelling in
    let put = c.push_u64-2.ensures in
    record {
      spelling = put_third result before one two out (head c.args.version c.args.kind c.args.from c.args.view)
          (long c.args.numbers.0) (long c.args.numbers.1) first.spelling second put.spelling;
      fits = fits_yet result (FitsNode c.args.from) first.fits;
      err = grows_later result before one out _ first.spelling (grows_later result one two out _ second put.err);
    }

pub returns-in_err-push_u64 : goal.returns-in_err-push_u64
returns-in_err-push_u64 c =
    let out = c.push_u64.new.out.items in
    let result = c.from_residual-in_err-push_u64.result in
    let refused = c.from_residual-in_err-push_u64.ensures.0 in
    record {
      spelling = was_refused result _ refused;
      fits = was_refused result _ refused;
      err = holds_refused result _ (grows_after c.args.out.now.items c.push_head.new.out.items out _
          c.in_ok-push_head.ensures.spelling c.in_err-push_u64.ensures.err);
    }
