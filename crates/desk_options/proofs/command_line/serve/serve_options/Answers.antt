use Rattle.std.proofs.Common.{string_bytes}
use Rattle.std.proofs.lemmas.Result.{err_from_is_err_and}
use Rattle.desk_options.proofs.Matches.{serve_is_simple}
use Rattle.desk_options.specs.CommandLine.{serve_app}
use Rattle.desk_options.proofs.Words.{no_serve, on_refused, refused_by_memory}
use Rattle.desk_options.proofs.command_line.serve.serve_options.Goals as goal

pub returns-in_err-matches-clause-refused : goal.returns-in_err-matches-clause-refused
returns-in_err-matches-clause-refused c =
    let p = err_from_is_err_and c.from_residual.result c.from_residual.ensures.1 in
    rw (p.1, p.2) (on_refused _ (λ none. no_serve _ c.requires (λ options asks. none asks.accepts))
    (c.in_err-matches.ensures serve_app serve_is_simple c.serve_command.ensures))

pub returns-in_err-owner-clause-refused : goal.returns-in_err-owner-clause-refused
returns-in_err-owner-clause-refused c =
    let p = err_from_is_err_and c.from_residual-in_err-owner.result c.from_residual-in_err-owner.ensures.1 in
    let read = c.in_ok-matches.ensures serve_app serve_is_simple c.serve_command.ensures in
    rw (p.1, p.2) (on_refused _ (λ none. no_serve _ c.requires
    (λ options asks. none options.owner (rw read.1 asks.finds_owner))) c.in_err-owner.ensures.refused)

pub returns-in_err-port-clause-refused : goal.returns-in_err-port-clause-refused
returns-in_err-port-clause-refused c =
    let p = err_from_is_err_and c.from_residual-in_err-port.result c.from_residual-in_err-port.ensures.1 in
    let read = c.in_ok-matches.ensures serve_app serve_is_simple c.serve_command.ensures in
    rw (p.1, p.2) (on_refused _ (λ none. no_serve _ c.requires
    (λ options asks. none options.port (rw read.1 asks.finds_port))) c.in_err-port.ensures.refused)

pub returns-in_err-file-clause-refused : goal.returns-in_err-file-clause-refused
returns-in_err-file-clause-refused c =
    let p = err_from_is_err_and c.from_residual-in_err-file.result c.from_residual-in_err-file.ensures.1 in
    let read = c.in_ok-matches.ensures serve_app serve_is_simple c.serve_command.ensures in
    rw (p.1, p.2) (on_refused _ (λ none. no_serve _ c.requires
    (λ options asks. none (string_bytes options.file) (rw read.1 asks.finds_file))) c.in_err-file.ensures.refused)

pub returns-in_err-hosts-clause-refused : goal.returns-in_err-hosts-clause-refused
returns-in_err-hosts-clause-refused c =
    let p = err_from_is_err_and c.from_residual-in_err-hosts.result c.from_residual-in_err-hosts.ensures.1 in
    rw (p.1, p.2) (refused_by_memory _ _ c.in_err-hosts.ensures.refused)

pub returns-in_err-key-clause-refused : goal.returns-in_err-key-clause-refused
returns-in_err-key-clause-refused c =
    let p = err_from_is_err_and c.from_residual-in_err-key.result c.from_residual-in_err-key.ensures.1 in
    rw (p.1, p.2) (refused_by_memory _ _ c.in_err-key.ensures.refused)

pub returns-in_err-client_key-clause-refused : goal.returns-in_err-client_key-clause-refused
returns-in_err-client_key-clause-refused c =
    let p = err_from_is_err_and c.from_residual-in_err-client_key.result c.from_residual-in_err-client_key.ensures.1 in
    rw (p.1, p.2) (refused_by_memory _ _ c.in_err-client_key.ensures.refused)

pub returns-in_err-epoch_places-clause-refused : goal.returns-in_err-epoch_places-clause-refused
returns-in_err-epoch_places-clause-refused c =
    let p = err_from_is_err_and c.from_residual-in_err-epoch_places.result
    c.from_residual-in_err-epoch_places.ensures.1 in
    let read = c.in_ok-matches.ensures serve_app serve_is_simple c.serve_command.ensures in
    rw (p.1, p.2) (on_refused _ (λ none. no_serve _ c.requires
    (λ options asks. none options.epoch_places (rw read.1 asks.finds_epoch_places)))
    c.in_err-epoch_places.ensures.refused)

pub returns-in_err-member-clause-refused : goal.returns-in_err-member-clause-refused
returns-in_err-member-clause-refused c =
    let p = err_from_is_err_and c.from_residual-in_err-member.result c.from_residual-in_err-member.ensures.1 in
    let read = c.in_ok-matches.ensures serve_app serve_is_simple c.serve_command.ensures in
    rw (p.1, p.2) (on_refused _ (λ none. no_serve _ c.requires
    (λ options asks. none options.member (rw read.1 asks.finds_member))) c.in_err-member.ensures.refused)

pub returns-clause-asked : goal.returns-clause-asked
returns-clause-asked c =
    let read = c.in_ok-matches.ensures serve_app serve_is_simple c.serve_command.ensures in
    record {
      first = c.requires;
      accepts = read.0;
      finds_owner = rw (← read.1) c.in_ok-owner.ensures.found;
      finds_port = rw (← read.1) c.in_ok-port.ensures.found;
      finds_file = rw (← read.1) c.in_ok-file.ensures.found;
      finds_hosts = rw (← read.1) c.in_ok-hosts.ensures.found;
      finds_key = rw (← read.1) c.in_ok-key.ensures.found;
      finds_client_key = rw (← read.1) c.in_ok-client_key.ensures.found;
      finds_log = rw (← read.1) c.flag_found-log.ensures;
      finds_next = rw (← read.1) c.flag_found-next.ensures;
      finds_epoch_places = rw (← read.1) c.in_ok-epoch_places.ensures.found;
      finds_member = rw (← read.1) c.in_ok-member.ensures.found;
    }
