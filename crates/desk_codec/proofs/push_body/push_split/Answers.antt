use Rattle.std.proofs.Common.{◌++◌}
use Rattle.std.specs.Int.{w64}
use Rattle.std.proofs.lemmas.Int.{to_z-of_z}
use Rattle.desk_types.specs.declared.limits.TheConstants.{KIND_BYTES, SITE_BYTES}
use Rattle.desk_types.specs.declared.verb.Verb.TheVariants as verbs
use Rattle.desk_codec.specs.Ranges.{FitsSeconds, FitsText, FitsIncident, FitsCall}
use Rattle.desk_codec.specs.Spelling.{made_at, short_text}
use Rattle.desk_codec.proofs.Putting.{put_past_three, fits_past_three, grows_later}
use Rattle.desk_codec.proofs.push_body.push_split.Goals as goal

pub returns : goal.returns
returns c =
    let a = c.args in
    let before = a.out.now.items in
    let between = c.push_of_incident_and_call.new.out.items in
    let out = c.push_kind_and_site.new.out.items in
    let result = c.push_kind_and_site.result in
    let first = rw (to_z-of_z w64 a.at c.ranges.at) at c.in_ok-push_of_incident_and_call.ensures in
    let last = c.push_kind_and_site.ensures in
    record {
      spelling = put_past_three result before between out (made_at verbs.Split a.at) (short_text a.incident.now)
          (short_text a.call.now) (short_text a.kind.now ++ short_text a.site.now) first.spelling last.spelling;
      fits = fits_past_three result (FitsSeconds a.at) (FitsIncident a.incident.now) (FitsCall a.call.now)
          (FitsText KIND_BYTES a.kind.now) (FitsText SITE_BYTES a.site.now) first.fits last.fits;
      err = grows_later result before between out _ first.spelling last.err;
    }
