use Rattle.std.proofs.Common.{[], ◌∷◌, ◌++◌, ap, subst, ◌∙◌}
use Rattle.desk_types.specs.NumberRange.{FitsNodeNumber, FitsToken}
use Rattle.desk_types.specs.declared.verb.Verb.TheVariants as verbs
use Rattle.desk_codec.specs.Ranges.{FitsSeconds}
use Rattle.desk_codec.specs.Spelling.{long, made_at}
use Rattle.desk_codec.proofs.Putting.{put_third, put_same, put_verb, fits_seconds, fits_yet, grows_later}
use Rattle.desk_codec.proofs.Putting.{grows_after, was_refused, holds_refused}
use Rattle.desk_codec.proofs.push_body.push_replace.Goals as goal

pub returns-clause-spelling : goal.returns-clause-spelling
returns-clause-spelling c =
    let before = c.args.out.now.items in
    let one = c.push_verb.new.out.items in
    let two = c.push_byte.new.out.items in
    let out = c.push_bytes.new.out.items in
    let result = c.push_bytes.result in
    put_third result before one two out (made_at verbs.Replace c.args.at) (c.args.node ∷ []) (long c.args.token)
    (put_verb verbs.Replace c.args.at before one c.ranges.at c.in_ok-push_verb.ensures.spelling)
    (c.in_ok-push_byte.ensures.spelling ∙ ap (λ n. one ++ n ∷ []) c.get.ensures.value)
    (put_same result two out _ (long c.args.token) (c.to_be_bytes.ensures ∙ ap long c.get-2.ensures.value)
    c.push_bytes.ensures.spelling)

pub returns-clause-fits : goal.returns-clause-fits
returns-clause-fits c =
    fits_yet c.push_bytes.result (FitsSeconds c.args.at × FitsNodeNumber c.args.node × FitsToken c.args.token) (
      fits_seconds c.args.at c.ranges.at,
      subst FitsNodeNumber c.get.ensures.value c.get.ensures.in_range,
      subst FitsToken c.get-2.ensures.value c.get-2.ensures.in_range,
    )

pub returns-clause-err : goal.returns-clause-err
returns-clause-err c =
    let one = c.push_verb.new.out.items in
    let out = c.push_bytes.new.out.items in
    let result = c.push_bytes.result in
    grows_later result c.args.out.now.items one out _ c.in_ok-push_verb.ensures.spelling
    (grows_later result one c.push_byte.new.out.items out _ c.in_ok-push_byte.ensures.spelling
    c.push_bytes.ensures.err)

pub returns-in_err-push_byte : goal.returns-in_err-push_byte
returns-in_err-push_byte c =
    let out = c.push_byte.new.out.items in
    let result = c.from_residual-in_err-push_byte.result in
    let refused = c.from_residual-in_err-push_byte.ensures.0 in
    record {
      spelling = was_refused result _ refused;
      fits = was_refused result _ refused;
      err = holds_refused result _ (grows_after c.args.out.now.items c.push_verb.new.out.items out _
          c.in_ok-push_verb.ensures.spelling c.in_err-push_byte.ensures.err);
    }
