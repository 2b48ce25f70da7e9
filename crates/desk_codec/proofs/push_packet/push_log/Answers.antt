use Rattle.std.proofs.Common.{◌++◌, length, ap, subst, ◌∙◌}
use Rattle.std.specs.Prelude.{OnOk}
use Rattle.std.specs.List.{flat_map}
use Rattle.std.specs.Int.{w32, to_be_bytes}
use Rattle.desk_codec.specs.Ranges.{FitsEntries}
use Rattle.desk_codec.specs.Spelling.{entry_spelling, log_spelling}
use Rattle.desk_codec.proofs.Growing.{put_after}
use Rattle.desk_codec.proofs.Putting.{put_same, grows_later}
use Rattle.desk_codec.proofs.push_packet.push_log.Goals as goal

pub returns : goal.returns
unfolding log_spelling
returns c =
    let log = c.args.log.now in
    let before = c.args.out.now.items in
    let between = c.push_bytes.new.out.items in
    let out = c.push_entries.new.out.items in
    let result = c.push_entries.result in
    let same = c.as_slice-entries.ensures in
    let count = c.to_be_bytes.ensures ∙ ap (λ es. to_be_bytes w32 (length es)) same in
    let first = c.in_ok-push_bytes.ensures.spelling in
    let put = c.push_entries.ensures in
    let last = flat_map entry_spelling log in
    record {
      spelling = put_after result before between out (to_be_bytes w32 (length log)) last
          (first ∙ ap (λ r. before ++ r) count)
          (put_same result between out _ last (ap (flat_map entry_spelling) same) put.spelling);
      fits = subst (λ es. OnOk result (FitsEntries es)) same put.fits;
      err = grows_later result before between out _ first put.err;
    }
