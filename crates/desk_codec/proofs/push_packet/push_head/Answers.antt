use Rattle.std.proofs.Common.{[], ◌∷◌, ◌++◌, ap, ◌∙◌}
use Rattle.desk_codec.specs.Ranges.{FitsNode}
use Rattle.desk_codec.specs.Spelling.{kind_number, long}
use Rattle.desk_codec.proofs.Growing.{put_after}
use Rattle.desk_codec.proofs.Putting.{put_same, fits_yet, grows_later}
use Rattle.desk_codec.proofs.push_packet.push_head.Goals as goal

pub returns : goal.returns
returns c =
    let version = c.args.version in
    let from = c.args.from in
    let last = long c.args.view in
    let before = c.args.out.now.items in
    let one = c.push_bytes.new.out.items in
    let out = c.push_bytes-2.new.out.items in
    let result = c.push_bytes-2.result in
    let first = c.in_ok-push_bytes.ensures.spelling in
    record {
      spelling = put_after result before one out (version ∷ kind_number c.args.kind ∷ from ∷ []) last
          (first ∙ ap (λ kind. before ++ version ∷ kind ∷ from ∷ []) c.number.ensures)
          (put_same result one out _ last c.to_be_bytes.ensures c.push_bytes-2.ensures.spelling);
      fits = fits_yet result (FitsNode from) c.ranges.from.fits;
      err = grows_later result before one out _ first c.push_bytes-2.ensures.err;
    }
