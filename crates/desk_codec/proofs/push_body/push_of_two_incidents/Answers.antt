use Rattle.desk_codec.specs.Ranges.{FitsSeconds, FitsIncident}
use Rattle.desk_codec.specs.Spelling.{made_at, short_text}
use Rattle.desk_codec.proofs.Putting.{put_third, put_verb, fits_seconds, fits_third, grows_later}
use Rattle.desk_codec.proofs.Putting.{grows_after, was_refused, holds_refused}
use Rattle.desk_codec.proofs.push_body.push_of_two_incidents.Goals as goal

pub returns-clause-spelling : goal.returns-clause-spelling
returns-clause-spelling c =
    let before = c.args.out.now.items in
    let one = c.push_verb.new.out.items in
    put_third c.push_incident-2.result before one c.push_incident.new.out.items c.push_incident-2.new.out.items
    (made_at c.args.verb c.args.at) (short_text c.args.incident.now) (short_text c.args.other.now)
    (put_verb c.args.verb c.args.at before one c.ranges.at c.in_ok-push_verb.ensures.spelling)
    c.in_ok-push_incident.ensures.spelling c.push_incident-2.ensures.spelling

pub returns-clause-fits : goal.returns-clause-fits
returns-clause-fits c =
    fits_third c.push_incident-2.result (FitsSeconds c.args.at) (FitsIncident c.args.incident.now)
    (FitsIncident c.args.other.now) (fits_seconds c.args.at c.ranges.at)
    c.in_ok-push_incident.ensures.fits c.push_incident-2.ensures.fits

pub returns-clause-err : goal.returns-clause-err
returns-clause-err c =
    let before = c.args.out.now.items in
    let one = c.push_verb.new.out.items in
    let out = c.push_incident-2.new.out.items in
    let result = c.push_incident-2.result in
    grows_later result before one out _ c.in_ok-push_verb.ensures.spelling
    (grows_later result one c.push_incident.new.out.items out _ c.in_ok-push_incident.ensures.spelling
    c.push_incident-2.ensures.err)

pub returns-in_err-push_incident : goal.returns-in_err-push_incident
returns-in_err-push_incident c =
    let out = c.push_incident.new.out.items in
    let result = c.from_residual-in_err-push_incident.result in
    let refused = c.from_residual-in_err-push_incident.ensures.0 in
    record {
      spelling = was_refused result _ refused;
      fits = was_refused result _ refused;
      err = holds_refused result _ (grows_after c.args.out.now.items c.push_verb.new.out.items out _
          c.in_ok-push_verb.ensures.spelling c.in_err-push_incident.ensures.err);
    }
