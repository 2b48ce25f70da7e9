use Rattle.std.proofs.Common.{[], ◌∷◌}
use Rattle.desk_codec.specs.Spelling.{short_text}
use Rattle.desk_codec.proofs.Growing.{put_after}
use Rattle.desk_codec.proofs.Putting.{fits_yet, grows_later}
use Rattle.desk_codec.proofs.push_body.push_optional_call.Goals as goal

pub returns-in-None : goal.returns-in-None
returns-in-None c =
    let put = c.push_byte.ensures in
    rw c.in-None.is (record { spelling = put.spelling; fits = fits_yet c.push_byte.result _ tt; err = put.err })

pub returns-in_ok-push_byte-in-Some : goal.returns-in_ok-push_byte-in-Some
returns-in_ok-push_byte-in-Some c =
    let before = c.args.out.now.items in
    let between = c.push_byte-in-Some.new.out.items in
    let out = c.push_call.new.out.items in
    let result = c.push_call.result in
    let first = c.in_ok-push_byte-in-Some.ensures.spelling in
    let put = c.push_call.ensures in
    rw c.in-Some.is (record {
      spelling = put_after result before between out (1 ∷ []) (short_text c.in-Some.call) first put.spelling;
      fits = put.fits;
      err = grows_later result before between out _ first put.err;
    })
