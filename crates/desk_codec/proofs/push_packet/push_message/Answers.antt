use Rattle.std.proofs.Common.{arith}
use Rattle.desk_types.specs.declared.limits.TheConstants.{LOG_ENTRIES}
use Rattle.desk_codec.specs.declared.kind.MessageKind.TheVariants as kinds
use Rattle.desk_codec.specs.Ranges.{FitsNode, FitsEntry, FitsLog}
use Rattle.desk_codec.specs.Spelling.{head, long, entry_spelling, log_spelling, spelling_in}
use Rattle.desk_codec.proofs.Putting.{put_past_two, put_past_three, fits_too, fits_log, grows_later}
use Rattle.desk_codec.proofs.Putting.{was_refused, holds_refused}
use Rattle.desk_codec.proofs.push_packet.push_message.Goals as goal

pub returns-in_ok-push_numbers-in-Prepare : goal.returns-in_ok-push_numbers-in-Prepare
unfolding spelling_in
returns-in_ok-push_numbers-in-Prepare c =
    let m = c.in-Prepare in
    let before = c.args.out.now.items in
    let between = c.push_numbers.new.out.items in
    let out = c.push_entry.new.out.items in
    let result = c.push_entry.result in
    let put = c.in_ok-push_numbers-in-Prepare.ensures in
    rw m.is (record {
      spelling = put_past_three result before between out (head c.args.version kinds.Prepare m.from m.view)
          (long m.place) (long m.commit) (entry_spelling m.entry) put.spelling c.push_entry.ensures.spelling;
      fits = fits_too result (FitsNode m.from) (FitsEntry m.entry) put.fits c.push_entry.ensures.fits;
      err = grows_later result before between out _ put.spelling c.push_entry.ensures.err;
    })

pub returns-in-PrepareOk : goal.returns-in-PrepareOk
unfolding spelling_in
returns-in-PrepareOk c = rw c.in-PrepareOk.is c.push_number.ensures

pub returns-in-Commit : goal.returns-in-Commit
unfolding spelling_in
returns-in-Commit c = rw c.in-Commit.is c.push_number-in-Commit.ensures

pub returns-in-StartViewChange : goal.returns-in-StartViewChange
unfolding spelling_in
returns-in-StartViewChange c = rw c.in-StartViewChange.is c.push_head.ensures

pub returns-in_ok-push_numbers-in-DoViewChange : goal.returns-in_ok-push_numbers-in-DoViewChange
unfolding spelling_in
returns-in_ok-push_numbers-in-DoViewChange c =
    let m = c.in-DoViewChange in
    let before = c.args.out.now.items in
    let between = c.push_numbers-in-DoViewChange.new.out.items in
    let out = c.push_log.new.out.items in
    let result = c.push_log.result in
    let range = rw m.is at c.requires in
    let put = c.in_ok-push_numbers-in-DoViewChange.ensures in
    let last = c.push_log.ensures in
    rw m.is (record {
      spelling = put_past_three result before between out (head c.args.version kinds.DoViewChange m.from m.view)
          (long m.normal) (long m.commit) (log_spelling m.log) put.spelling last.spelling;
      fits = fits_too result (FitsNode m.from) (FitsLog LOG_ENTRIES m.log) put.fits
          (fits_log result LOG_ENTRIES m.log range.3 last.fits);
      err = grows_later result before between out _ put.spelling last.err;
    })

pub returns-in_ok-push_number-in-StartView : goal.returns-in_ok-push_number-in-StartView
unfolding spelling_in
returns-in_ok-push_number-in-StartView c =
    let m = c.in-StartView in
    let before = c.args.out.now.items in
    let between = c.push_number-in-StartView.new.out.items in
    let out = c.push_log-in-StartView.new.out.items in
    let result = c.push_log-in-StartView.result in
    let range = rw m.is at c.requires in
    let put = c.in_ok-push_number-in-StartView.ensures in
    let last = c.push_log-in-StartView.ensures in
    rw m.is (record {
      spelling = put_past_two result before between out (head c.args.version kinds.StartView m.from m.view)
          (long m.commit) (log_spelling m.log) put.spelling last.spelling;
      fits = fits_too result (FitsNode m.from) (FitsLog LOG_ENTRIES m.log) put.fits
          (fits_log result LOG_ENTRIES m.log range.2 last.fits);
      err = grows_later result before between out _ put.spelling last.err;
    })

pub returns-in-GetState : goal.returns-in-GetState
unfolding spelling_in
returns-in-GetState c = rw c.in-GetState.is c.push_number-in-GetState.ensures

pub returns-in_ok-push_numbers-in-NewState : goal.returns-in_ok-push_numbers-in-NewState
unfolding spelling_in
returns-in_ok-push_numbers-in-NewState c =
    let m = c.in-NewState in
    let before = c.args.out.now.items in
    let between = c.push_numbers-in-NewState.new.out.items in
    let out = c.push_log-in-NewState.new.out.items in
    let result = c.push_log-in-NewState.result in
    let range = rw m.is at c.requires in
    let put = c.in_ok-push_numbers-in-NewState.ensures in
    let last = c.push_log-in-NewState.ensures in
    rw m.is (record {
      spelling = put_past_three result before between out (head c.args.version kinds.NewState m.from m.view)
          (long m.base) (long m.commit) (log_spelling m.entries) put.spelling last.spelling;
      fits = fits_too result (FitsNode m.from) (FitsLog LOG_ENTRIES m.entries) put.fits
          (fits_log result LOG_ENTRIES m.entries (omega (arith, range.2)) last.fits);
      err = grows_later result before between out _ put.spelling last.err;
    })

pub returns-in_err-push_numbers-in-Prepare : goal.returns-in_err-push_numbers-in-Prepare
returns-in_err-push_numbers-in-Prepare c =
    let result = c.from_residual.result in
    let refused = c.from_residual.ensures.0 in
    record {
      spelling = was_refused result _ refused;
      fits = was_refused result _ refused;
      err = holds_refused result _ c.in_err-push_numbers-in-Prepare.ensures.err;
    }

pub returns-in_err-push_numbers-in-DoViewChange : goal.returns-in_err-push_numbers-in-DoViewChange
returns-in_err-push_numbers-in-DoViewChange c =
    let result = c.from_residual-in_err-push_numbers-in-DoViewChange.result in
    let refused = c.from_residual-in_err-push_numbers-in-DoViewChange.ensures.0 in
    record {
      spelling = was_refused result _ refused;
      fits = was_refused result _ refused;
      err = holds_refused result _ c.in_err-push_numbers-in-DoViewChange.ensures.err;
    }

pub returns-in_err-push_number-in-StartView : goal.returns-in_err-push_number-in-StartView
returns-in_err-push_number-in-StartView c =
    let result = c.from_residual-in_err-push_number-in-StartView.result in
    let refused = c.from_residual-in_err-push_number-in-StartView.ensures.0 in
    record {
      spelling = was_refused result _ refused;
      fits = was_refused result _ refused;
      err = holds_refused result _ c.in_err-push_number-in-StartView.ensures.err;
    }

pub returns-in_err-push_numbers-in-NewState : goal.returns-in_err-push_numbers-in-NewState
returns-in_err-push_numbers-in-NewState c =
    let result = c.from_residual-in_err-push_numbers-in-NewState.result in
    let refused = c.from_residual-in_err-push_numbers-in-NewState.ensures.0 in
    record {
      spelling = was_refused result _ refused;
      fits = was_refused result _ refused;
      err = holds_refused result _ c.in_err-push_numbers-in-NewState.ensures.err;
    }
