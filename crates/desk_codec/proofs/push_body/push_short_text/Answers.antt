use Rattle.std.proofs.Common.{[], ◌∷◌, length}
use Rattle.desk_codec.proofs.Growing.{put_after}
use Rattle.desk_codec.proofs.Putting.{put_same, grows_later}
use Rattle.desk_codec.proofs.push_body.push_short_text.Goals as goal

pub returns : goal.returns
returns c =
    let text = c.args.text.now in
    let before = c.args.out.now.items in
    let between = c.push_byte.new.out.items in
    let out = c.push_bytes.new.out.items in
    let result = c.push_bytes.result in
    let first = c.in_ok-push_byte.ensures.spelling in
    let put = c.push_bytes.ensures in
    record {
      spelling = put_after result before between out (length text ∷ []) text first
          (put_same result between out _ text c.as_bytes.ensures.value put.spelling);
      utf8 = c.utf8.text;
      err = grows_later result before between out _ first put.err;
    }
