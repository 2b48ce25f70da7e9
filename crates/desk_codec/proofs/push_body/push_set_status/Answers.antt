use Rattle.std.proofs.Common.{[], ◌∷◌, ap}
use Rattle.desk_types.specs.Numbers.{status_number}
use Rattle.desk_types.specs.declared.verb.Verb.TheVariants as verbs
use Rattle.desk_codec.specs.Ranges.{FitsSeconds, FitsUnit}
use Rattle.desk_codec.specs.Spelling.{made_at, short_text}
use Rattle.desk_codec.proofs.Putting.{put_third, put_same, put_verb, fits_seconds, fits_yet, grows_later}
use Rattle.desk_codec.proofs.Putting.{grows_after, was_refused, holds_refused}
use Rattle.desk_codec.proofs.push_body.push_set_status.Goals as goal

pub returns-clause-spelling : goal.returns-clause-spelling
returns-clause-spelling c =
    let before = c.args.out.now.items in
    let one = c.push_verb.new.out.items in
    let two = c.push_unit.new.out.items in
    let out = c.push_byte.new.out.items in
    let result = c.push_byte.result in
    let last = status_number c.args.status ∷ [] in
    put_third result before one two out (made_at verbs.SetStatus c.args.at) (short_text c.args.unit.now) last
    (put_verb verbs.SetStatus c.args.at before one c.ranges.at c.in_ok-push_verb.ensures.spelling)
    c.in_ok-push_unit.ensures.spelling
    (put_same result two out _ last (ap (λ n. n ∷ []) c.number.ensures) c.push_byte.ensures.spelling)

pub returns-clause-fits : goal.returns-clause-fits
returns-clause-fits c =
    fits_yet c.push_byte.result (FitsSeconds c.args.at × FitsUnit c.args.unit.now)
    (fits_seconds c.args.at c.ranges.at, c.in_ok-push_unit.ensures.fits)

pub returns-clause-err : goal.returns-clause-err
returns-clause-err c =
    let one = c.push_verb.new.out.items in
    let out = c.push_byte.new.out.items in
    let result = c.push_byte.result in
    grows_later result c.args.out.now.items one out _ c.in_ok-push_verb.ensures.spelling
    (grows_later result one c.push_unit.new.out.items out _ c.in_ok-push_unit.ensures.spelling
    c.push_byte.ensures.err)

pub returns-in_err-push_unit : goal.returns-in_err-push_unit
returns-in_err-push_unit c =
    let out = c.push_unit.new.out.items in
    let result = c.from_residual-in_err-push_unit.result in
    let refused = c.from_residual-in_err-push_unit.ensures.0 in
    record {
      spelling = was_refused result _ refused;
      fits = was_refused result _ refused;
      err = holds_refused result _ (grows_after c.args.out.now.items c.push_verb.new.out.items out _
          c.in_ok-push_verb.ensures.spelling c.in_err-push_unit.ensures.err);
    }
