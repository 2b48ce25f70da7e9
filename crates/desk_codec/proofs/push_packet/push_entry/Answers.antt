use Rattle.std.proofs.Common.{◌++◌, ap, subst, ◌∙◌}
use Rattle.desk_types.specs.NumberRange.{FitsNumber}
use Rattle.desk_codec.specs.Spelling.{long, sized, body_spelling, entry_spelling}
use Rattle.desk_codec.proofs.Putting.{put_third, fits_entry, grows_later, grows_after, was_refused, holds_refused}
use Rattle.desk_codec.proofs.push_packet.push_entry.Goals as goal

pub returns : goal.returns
unfolding entry_spelling
returns c =
    let e = c.args.entry.now in
    let before = c.args.out.now.items in
    let one = c.push_bytes.new.out.items in
    let two = c.push_bytes-2.new.out.items in
    let out = c.push_sized_body.new.out.items in
    let result = c.push_sized_body.result in
    let first = c.in_ok-push_bytes.ensures.spelling in
    let second = c.in_ok-push_bytes-2.ensures.spelling in
    let put = c.push_sized_body.ensures in
    record {
      spelling = put_third result before one two out (long e.client) (long e.number) (sized (body_spelling e.command))
          (first ∙ ap (λ r. before ++ r) (c.to_be_bytes.ensures ∙ ap long c.get.ensures.value))
          (second ∙ ap (λ r. one ++ r) (c.to_be_bytes-2.ensures ∙ ap long c.get-2.ensures.value)) put.spelling;
      fits = fits_entry result e (subst FitsNumber c.get.ensures.value c.get.ensures.in_range)
          (subst FitsNumber c.get-2.ensures.value c.get-2.ensures.in_range) put.fits;
      err = grows_later result before one out _ first (grows_later result one two out _ second put.err);
    }

pub returns-in_err-push_bytes-2 : goal.returns-in_err-push_bytes-2
returns-in_err-push_bytes-2 c =
    let out = c.push_bytes-2.new.out.items in
    let result = c.from_residual-in_err-push_bytes-2.result in
    let refused = c.from_residual-in_err-push_bytes-2.ensures.0 in
    record {
      spelling = was_refused result _ refused;
      fits = was_refused result _ refused;
      err = holds_refused result _ (grows_after c.args.out.now.items c.push_bytes.new.out.items out _
          c.in_ok-push_bytes.ensures.spelling c.in_err-push_bytes-2.ensures.err);
    }
