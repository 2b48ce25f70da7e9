use Rattle.std.specs.Prelude.{IfSome}
use Rattle.desk_types.specs.declared.limits.TheConstants.{KIND_BYTES, SITE_BYTES}
use Rattle.desk_types.specs.declared.verb.Verb.TheVariants as verbs
use Rattle.desk_codec.specs.Ranges.{FitsSeconds, FitsText, FitsIncident, FitsCall}
use Rattle.desk_codec.specs.Spelling.{made_at, short_text, optional_text}
use Rattle.desk_codec.proofs.Putting.{put_fifth, put_verb, fits_seconds, fits_fifth, grows_later}
use Rattle.desk_codec.proofs.Putting.{grows_after, was_refused, holds_refused}
use Rattle.desk_codec.proofs.push_body.push_open.Goals as goal

pub returns-clause-spelling : goal.returns-clause-spelling
returns-clause-spelling c =
    let before = c.args.out.now.items in
    let one = c.push_verb.new.out.items in
    put_fifth c.push_optional_call.result before one c.push_text.new.out.items c.push_text-2.new.out.items
    c.push_optional_incident.new.out.items c.push_optional_call.new.out.items (made_at verbs.Open c.args.at)
    (short_text c.args.kind.now) (short_text c.args.site.now) (optional_text c.args.incident.now)
    (optional_text c.args.call.now)
    (put_verb verbs.Open c.args.at before one c.ranges.at c.in_ok-push_verb.ensures.spelling)
    c.in_ok-push_text.ensures.spelling c.in_ok-push_text-2.ensures.spelling
    c.in_ok-push_optional_incident.ensures.spelling c.push_optional_call.ensures.spelling

pub returns-clause-fits : goal.returns-clause-fits
returns-clause-fits c =
    fits_fifth c.push_optional_call.result (FitsSeconds c.args.at) (FitsText KIND_BYTES c.args.kind.now)
    (FitsText SITE_BYTES c.args.site.now) (IfSome c.args.incident.now FitsIncident)
    (IfSome c.args.call.now FitsCall) (fits_seconds c.args.at c.ranges.at)
    c.in_ok-push_text.ensures.fits c.in_ok-push_text-2.ensures.fits c.in_ok-push_optional_incident.ensures.fits
    c.push_optional_call.ensures.fits

pub returns-clause-err : goal.returns-clause-err
returns-clause-err c =
    let one = c.push_verb.new.out.items in
    let two = c.push_text.new.out.items in
    let three = c.push_text-2.new.out.items in
    let four = c.push_optional_incident.new.out.items in
    let out = c.push_optional_call.new.out.items in
    let result = c.push_optional_call.result in
    grows_later result c.args.out.now.items one out _ c.in_ok-push_verb.ensures.spelling
    (grows_later result one two out _ c.in_ok-push_text.ensures.spelling
    (grows_later result two three out _ c.in_ok-push_text-2.ensures.spelling
    (grows_later result three four out _ c.in_ok-push_optional_incident.ensures.spelling
    c.push_optional_call.ensures.err)))

pub returns-in_err-push_text : goal.returns-in_err-push_text
returns-in_err-push_text c =
    let out = c.push_text.new.out.items in
    let result = c.from_residual-in_err-push_text.result in
    let refused = c.from_residual-in_err-push_text.ensures.0 in
    record {
      spelling = was_refused result _ refused;
      fits = was_refused result _ refused;
      err = holds_refused result _ (grows_after c.args.out.now.items c.push_verb.new.out.items out _
          c.in_ok-push_verb.ensures.spelling c.in_err-push_text.ensures.err);
    }

pub returns-in_err-push_text-2 : goal.returns-in_err-push_text-2
returns-in_err-push_text-2 c =
    let out = c.push_text-2.new.out.items in
    let result = c.from_residual-in_err-push_text-2.result in
    let refused = c.from_residual-in_err-push_text-2.ensures.0 in
    record {
      spelling = was_refused result _ refused;
      fits = was_refused result _ refused;
      err = holds_refused result _ (grows_after c.args.out.now.items c.push_verb.new.out.items out _
          c.in_ok-push_verb.ensures.spelling
          (grows_after c.push_verb.new.out.items c.push_text.new.out.items out _ c.in_ok-push_text.ensures.spelling
          c.in_err-push_text-2.ensures.err));
    }

pub returns-in_err-push_optional_incident : goal.returns-in_err-push_optional_incident
returns-in_err-push_optional_incident c =
    let out = c.push_optional_incident.new.out.items in
    let result = c.from_residual-in_err-push_optional_incident.result in
    let refused = c.from_residual-in_err-push_optional_incident.ensures.0 in
    record {
      spelling = was_refused result _ refused;
      fits = was_refused result _ refused;
      err = holds_refused result _ (grows_after c.args.out.now.items c.push_verb.new.out.items out _
          c.in_ok-push_verb.ensures.spelling
          (grows_after c.push_verb.new.out.items c.push_text.new.out.items out _ c.in_ok-push_text.ensures.spelling
          (grows_after c.push_text.new.out.items c.push_text-2.new.out.items out _ c.in_ok-push_text-2.ensures.spelling
          c.in_err-push_optional_incident.ensures.err)));
    }
