use Rattle.std.proofs.Common.{string_bytes}
use Rattle.std.proofs.lemmas.Result.{err_from_is_err_and}
use Rattle.desk_options.proofs.Matches.{log_is_simple}
use Rattle.desk_options.specs.CommandLine.{log_app}
use Rattle.desk_options.proofs.Words.{no_log, on_refused}
use Rattle.desk_options.proofs.command_line.log.log_options.Goals as goal

pub returns-in_err-matches-clause-refused : goal.returns-in_err-matches-clause-refused
returns-in_err-matches-clause-refused c =
    let p = err_from_is_err_and c.from_residual.result c.from_residual.ensures.1 in
    rw (p.1, p.2) (on_refused _ (λ none. no_log _ c.requires (λ options asks. none asks.accepts))
    (c.in_err-matches.ensures log_app log_is_simple c.log_command.ensures))

pub returns-in_err-file-clause-refused : goal.returns-in_err-file-clause-refused
returns-in_err-file-clause-refused c =
    let p = err_from_is_err_and c.from_residual-in_err-file.result c.from_residual-in_err-file.ensures.1 in
    let read = c.in_ok-matches.ensures log_app log_is_simple c.log_command.ensures in
    rw (p.1, p.2) (on_refused _ (λ none. no_log _ c.requires
    (λ options asks. none (string_bytes options.file) (rw read.1 asks.finds_file))) c.in_err-file.ensures.refused)

pub returns-in_err-from-clause-refused : goal.returns-in_err-from-clause-refused
returns-in_err-from-clause-refused c =
    let p = err_from_is_err_and c.from_residual-in_err-from.result c.from_residual-in_err-from.ensures.1 in
    let read = c.in_ok-matches.ensures log_app log_is_simple c.log_command.ensures in
    rw (p.1, p.2) (on_refused _ (λ none. no_log _ c.requires
    (λ options asks. none options.from (rw read.1 asks.finds_from))) c.in_err-from.ensures.refused)

pub returns-clause-asked : goal.returns-clause-asked
returns-clause-asked c =
    let read = c.in_ok-matches.ensures log_app log_is_simple c.log_command.ensures in
    record {
      first = c.requires;
      accepts = read.0;
      finds_file = rw (← read.1) c.in_ok-file.ensures.found;
      finds_from = rw (← read.1) c.in_ok-from.ensures.found;
    }
