use Rattle.std.proofs.Common.{string_bytes}
use Rattle.std.proofs.lemmas.Result.{err_from_is_err_and}
use Rattle.desk_options.proofs.Matches.{answer_is_simple}
use Rattle.desk_options.specs.CommandLine.{answer_app}
use Rattle.desk_options.proofs.Words.{no_answer, on_refused}
use Rattle.desk_options.proofs.command_line.answer.answer_options.Goals as goal

pub returns-in_err-matches-clause-refused : goal.returns-in_err-matches-clause-refused
returns-in_err-matches-clause-refused c =
    let p = err_from_is_err_and c.from_residual.result c.from_residual.ensures.1 in
    rw (p.1, p.2) (on_refused _ (λ none. no_answer _ c.requires (λ options asks. none asks.accepts))
    (c.in_err-matches.ensures answer_app answer_is_simple c.answer_command.ensures))

pub returns-in_err-owner-clause-refused : goal.returns-in_err-owner-clause-refused
returns-in_err-owner-clause-refused c =
    let p = err_from_is_err_and c.from_residual-in_err-owner.result c.from_residual-in_err-owner.ensures.1 in
    let read = c.in_ok-matches.ensures answer_app answer_is_simple c.answer_command.ensures in
    rw (p.1, p.2) (on_refused _ (λ none. no_answer _ c.requires
    (λ options asks. none options.owner (rw read.1 asks.finds_owner))) c.in_err-owner.ensures.refused)

pub returns-in_err-file-clause-refused : goal.returns-in_err-file-clause-refused
returns-in_err-file-clause-refused c =
    let p = err_from_is_err_and c.from_residual-in_err-file.result c.from_residual-in_err-file.ensures.1 in
    let read = c.in_ok-matches.ensures answer_app answer_is_simple c.answer_command.ensures in
    rw (p.1, p.2) (on_refused _ (λ none. no_answer _ c.requires
    (λ options asks. none (string_bytes options.file) (rw read.1 asks.finds_file))) c.in_err-file.ensures.refused)

pub returns-clause-asked : goal.returns-clause-asked
returns-clause-asked c =
    let read = c.in_ok-matches.ensures answer_app answer_is_simple c.answer_command.ensures in
    record {
      first = c.requires;
      accepts = read.0;
      finds_owner = rw (← read.1) c.in_ok-owner.ensures.found;
      finds_file = rw (← read.1) c.in_ok-file.ensures.found;
    }
