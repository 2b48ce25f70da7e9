use Rattle.std.proofs.lemmas.Result.{err_from_is_err_and}
use Rattle.desk_options.proofs.Matches.{page_is_simple}
use Rattle.desk_options.specs.CommandLine.{page_app}
use Rattle.desk_options.proofs.Words.{no_page, on_refused, refused_by_memory}
use Rattle.desk_options.proofs.command_line.page.page_options.Goals as goal

pub returns-in_err-matches-clause-refused : goal.returns-in_err-matches-clause-refused
returns-in_err-matches-clause-refused c =
    let p = err_from_is_err_and c.from_residual.result c.from_residual.ensures.1 in
    rw (p.1, p.2) (on_refused _ (λ none. no_page _ c.requires (λ options asks. none asks.accepts))
    (c.in_err-matches.ensures page_app page_is_simple c.page_command.ensures))

pub returns-in_err-nodes-clause-refused : goal.returns-in_err-nodes-clause-refused
returns-in_err-nodes-clause-refused c =
    let p = err_from_is_err_and c.from_residual-in_err-nodes.result c.from_residual-in_err-nodes.ensures.1 in
    let read = c.in_ok-matches.ensures page_app page_is_simple c.page_command.ensures in
    rw (p.1, p.2) (on_refused _ (λ none. no_page _ c.requires
    (λ options asks. none options.nodes (rw read.1 asks.finds_nodes))) c.in_err-nodes.ensures.refused)

pub returns-in_err-port-clause-refused : goal.returns-in_err-port-clause-refused
returns-in_err-port-clause-refused c =
    let p = err_from_is_err_and c.from_residual-in_err-port.result c.from_residual-in_err-port.ensures.1 in
    let read = c.in_ok-matches.ensures page_app page_is_simple c.page_command.ensures in
    rw (p.1, p.2) (on_refused _ (λ none. no_page _ c.requires
    (λ options asks. none options.port (rw read.1 asks.finds_port))) c.in_err-port.ensures.refused)

pub returns-in_err-listen-clause-refused : goal.returns-in_err-listen-clause-refused
returns-in_err-listen-clause-refused c =
    let p = err_from_is_err_and c.from_residual-in_err-listen.result c.from_residual-in_err-listen.ensures.1 in
    let read = c.in_ok-matches.ensures page_app page_is_simple c.page_command.ensures in
    rw (p.1, p.2) (on_refused _ (λ none. no_page _ c.requires
    (λ options asks. none options.listen (rw read.1 asks.finds_listen))) c.in_err-listen.ensures.refused)

pub returns-in_err-seconds-clause-refused : goal.returns-in_err-seconds-clause-refused
returns-in_err-seconds-clause-refused c =
    let p = err_from_is_err_and c.from_residual-in_err-seconds.result c.from_residual-in_err-seconds.ensures.1 in
    let read = c.in_ok-matches.ensures page_app page_is_simple c.page_command.ensures in
    rw (p.1, p.2) (on_refused _ (λ none. no_page _ c.requires
    (λ options asks. none options.seconds (rw read.1 asks.finds_seconds))) c.in_err-seconds.ensures.refused)

pub returns-in_err-hosts-clause-refused : goal.returns-in_err-hosts-clause-refused
returns-in_err-hosts-clause-refused c =
    let p = err_from_is_err_and c.from_residual-in_err-hosts.result c.from_residual-in_err-hosts.ensures.1 in
    rw (p.1, p.2) (refused_by_memory _ _ c.in_err-hosts.ensures.refused)

pub returns-in_err-key-clause-refused : goal.returns-in_err-key-clause-refused
returns-in_err-key-clause-refused c =
    let p = err_from_is_err_and c.from_residual-in_err-key.result c.from_residual-in_err-key.ensures.1 in
    rw (p.1, p.2) (refused_by_memory _ _ c.in_err-key.ensures.refused)

pub returns-clause-asked : goal.returns-clause-asked
returns-clause-asked c =
    let read = c.in_ok-matches.ensures page_app page_is_simple c.page_command.ensures in
    record {
      first = c.requires;
      accepts = read.0;
      finds_nodes = rw (← read.1) c.in_ok-nodes.ensures.found;
      finds_port = rw (← read.1) c.in_ok-port.ensures.found;
      finds_listen = rw (← read.1) c.in_ok-listen.ensures.found;
      finds_seconds = rw (← read.1) c.in_ok-seconds.ensures.found;
      finds_hosts = rw (← read.1) c.in_ok-hosts.ensures.found;
      finds_key = rw (← read.1) c.in_ok-key.ensures.found;
    }
