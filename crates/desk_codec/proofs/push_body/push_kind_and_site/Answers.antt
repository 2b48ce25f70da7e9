use Rattle.desk_types.specs.declared.limits.TheConstants.{KIND_BYTES, SITE_BYTES}
use Rattle.desk_codec.specs.Ranges.{FitsText}
use Rattle.desk_codec.specs.Spelling.{short_text}
use Rattle.desk_codec.proofs.Growing.{put_after}
use Rattle.desk_codec.proofs.Putting.{fits_too, grows_later}
use Rattle.desk_codec.proofs.push_body.push_kind_and_site.Goals as goal

pub returns : goal.returns
returns c =
    let before = c.args.out.now.items in
    let between = c.push_text.new.out.items in
    let out = c.push_text-2.new.out.items in
    let result = c.push_text-2.result in
    let first = c.in_ok-push_text.ensures in
    let last = c.push_text-2.ensures in
    record {
      spelling = put_after result before between out (short_text c.args.kind.now) (short_text c.args.site.now)
          first.spelling last.spelling;
      fits = fits_too result (FitsText KIND_BYTES c.args.kind.now) (FitsText SITE_BYTES c.args.site.now) first.fits
          last.fits;
      err = grows_later result before between out _ first.spelling last.err;
    }
