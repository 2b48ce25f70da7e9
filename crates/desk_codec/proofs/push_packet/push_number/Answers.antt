use Rattle.desk_codec.specs.Ranges.{FitsNode}
use Rattle.desk_codec.specs.Spelling.{head, long}
use Rattle.desk_codec.proofs.Growing.{put_after}
use Rattle.desk_codec.proofs.Putting.{fits_yet, grows_later}
use Rattle.desk_codec.proofs.push_packet.push_number.Goals as goal

pub returns : goal.returns
returns c =
    let before = c.args.out.now.items in
    let one = c.push_head.new.out.items in
    let out = c.push_u64.new.out.items in
    let result = c.push_u64.result in
    let first = c.in_ok-push_head.ensures in
    record {
      spelling = put_after result before one out (head c.args.version c.args.kind c.args.from c.args.view)
          (long c.args.number) first.spelling c.push_u64.ensures.spelling;
      fits = fits_yet result (FitsNode c.args.from) first.fits;
      err = grows_later result before one out _ first.spelling c.push_u64.ensures.err;
    }
