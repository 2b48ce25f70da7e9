use Rattle.std.proofs.lemmas.Result.{err_from_is_err_and}
use Rattle.desk_options.proofs.Matches.{send_is_simple}
use Rattle.desk_options.specs.CommandLine.{send_app}
use Rattle.desk_options.proofs.Words.{no_send, no_group_port, on_refused, refused_by_memory}
use Rattle.desk_options.proofs.command_line.send.send_options.Goals as goal

pub returns-in_err-matches-clause-refused : goal.returns-in_err-matches-clause-refused
returns-in_err-matches-clause-refused c =
    let p = err_from_is_err_and c.from_residual.result c.from_residual.ensures.1 in
    rw (p.1, p.2) (on_refused _ (λ none. no_send _ c.requires (λ options asks. none asks.accepts))
    (c.in_err-matches.ensures send_app send_is_simple c.send_command.ensures))

pub returns-in_err-group-clause-refused : goal.returns-in_err-group-clause-refused
returns-in_err-group-clause-refused c =
    let p = err_from_is_err_and c.from_residual-in_err-group.result c.from_residual-in_err-group.ensures.1 in
    let read = c.in_ok-matches.ensures send_app send_is_simple c.send_command.ensures in
    rw (p.1, p.2) (on_refused _ (λ none. no_send _ c.requires
    (λ options asks. none options.group (rw read.1 asks.finds_group))) c.in_err-group.ensures.refused)

pub returns-in_err-port-clause-refused : goal.returns-in_err-port-clause-refused
returns-in_err-port-clause-refused c =
    let p = err_from_is_err_and c.from_residual-in_err-port.result c.from_residual-in_err-port.ensures.1 in
    let read = c.in_ok-matches.ensures send_app send_is_simple c.send_command.ensures in
    rw (p.1, p.2) (on_refused _ (λ none. no_send _ c.requires
    (λ options asks. no_group_port _ _ _ _ read.1 c.in_ok-group.ensures.found c.most_port.ensures none options
    asks.finds_group asks.finds_port)) c.in_err-port.ensures.refused)

pub returns-in_err-host-clause-refused : goal.returns-in_err-host-clause-refused
returns-in_err-host-clause-refused c =
    let p = err_from_is_err_and c.from_residual-in_err-host.result c.from_residual-in_err-host.ensures.1 in
    rw (p.1, p.2) (refused_by_memory _ _ c.in_err-host.ensures.refused)

pub returns-in_err-hosts-clause-refused : goal.returns-in_err-hosts-clause-refused
returns-in_err-hosts-clause-refused c =
    let p = err_from_is_err_and c.from_residual-in_err-hosts.result c.from_residual-in_err-hosts.ensures.1 in
    rw (p.1, p.2) (refused_by_memory _ _ c.in_err-hosts.ensures.refused)

pub returns-in_err-key-clause-refused : goal.returns-in_err-key-clause-refused
returns-in_err-key-clause-refused c =
    let p = err_from_is_err_and c.from_residual-in_err-key.result c.from_residual-in_err-key.ensures.1 in
    rw (p.1, p.2) (refused_by_memory _ _ c.in_err-key.ensures.refused)

pub returns-clause-asked : goal.returns-clause-asked
returns-clause-asked c =
    let read = c.in_ok-matches.ensures send_app send_is_simple c.send_command.ensures in
    record {
      first = c.requires;
      accepts = read.0;
      finds_group = rw (← read.1) c.in_ok-group.ensures.found;
      finds_port = rw (← read.1, ← c.most_port.ensures) c.in_ok-port.ensures.found;
      finds_host = rw (← read.1) c.in_ok-host.ensures.found;
      finds_hosts = rw (← read.1) c.in_ok-hosts.ensures.found;
      finds_key = rw (← read.1) c.in_ok-key.ensures.found;
    }
