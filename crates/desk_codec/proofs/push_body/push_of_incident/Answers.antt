use Rattle.desk_codec.specs.Ranges.{FitsSeconds, FitsIncident}
use Rattle.desk_codec.specs.Spelling.{made_at, short_text}
use Rattle.desk_codec.proofs.Growing.{put_after}
use Rattle.desk_codec.proofs.Putting.{put_verb, fits_seconds, fits_too, grows_later}
use Rattle.desk_codec.proofs.push_body.push_of_incident.Goals as goal

pub returns : goal.returns
returns c =
    let at = c.args.at in
    let before = c.args.out.now.items in
    let one = c.push_verb.new.out.items in
    let out = c.push_incident.new.out.items in
    let result = c.push_incident.result in
    let first = c.in_ok-push_verb.ensures.spelling in
    let put = c.push_incident.ensures in
    record {
      spelling = put_after result before one out (made_at c.args.verb at) (short_text c.args.incident.now)
          (put_verb c.args.verb at before one c.ranges.at first) put.spelling;
      fits = fits_too result (FitsSeconds at) (FitsIncident c.args.incident.now) (fits_seconds at c.ranges.at)
          put.fits;
      err = grows_later result before one out _ first put.err;
    }
