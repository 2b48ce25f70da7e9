use Rattle.std.proofs.Common.{◌++◌, ap, subst, ◌∙◌}
use Rattle.std.specs.List.{flat_map}
use Rattle.std.proofs.lemmas.List.{take_all}
use Rattle.desk_codec.specs.Ranges.{FitsEntries}
use Rattle.desk_codec.specs.Spelling.{entry_spelling}
use Rattle.desk_codec.proofs.Putting.{put_more, fits_more, grows_after, was_refused, holds_refused}
use Rattle.desk_codec.proofs.push_packet.push_entries.Goals as goal

pub loop-entry-preserved : goal.loop-entry-preserved
loop-entry-preserved c =
    let entries = c.args.entries.now in
    let i = c.loop-entry.entry-index in
    let e = c.entry-item.result in
    let put = c.in_ok-push_entry.ensures in
    record {
      put = put_more c.args.out.now.items c.loop-entry.out.items c.push_entry.new.out.items entries i e
          c.loop-entry-test.true c.entry-item.is c.loop-entry.invariant.put put.spelling;
      fits = fits_more entries i e c.loop-entry-test.true c.entry-item.is c.loop-entry.invariant.fits put.fits;
    }

pub returns : goal.returns
returns c =
    let all = take_all c.loop-entry.entry-index c.args.entries.now c.loop-entry-test.false in
    record {
      spelling = c.loop-entry.invariant.put ∙ ap (λ e. c.args.out.now.items ++ flat_map entry_spelling e) all;
      fits = subst FitsEntries all c.loop-entry.invariant.fits;
      err = tt;
    }

pub returns-in_err-push_entry : goal.returns-in_err-push_entry
returns-in_err-push_entry c =
    let out = c.push_entry.new.out.items in
    let result = c.from_residual.result in
    let refused = c.from_residual.ensures.0 in
    record {
      spelling = was_refused result _ refused;
      fits = was_refused result _ refused;
      err = holds_refused result _ (grows_after c.args.out.now.items c.loop-entry.out.items out _
          c.loop-entry.invariant.put c.in_err-push_entry.ensures.err);
    }
