use Rattle.std.proofs.lemmas.Result.{err_from_is_err_and}
use Rattle.desk_options.proofs.Matches.{cluster_is_simple}
use Rattle.desk_options.specs.CommandLine.{cluster_app}
use Rattle.desk_options.proofs.Words.{no_cluster, on_refused}
use Rattle.desk_options.proofs.command_line.cluster.cluster_options.Goals as goal

pub returns-in_err-matches-clause-refused : goal.returns-in_err-matches-clause-refused
returns-in_err-matches-clause-refused c =
    let p = err_from_is_err_and c.from_residual.result c.from_residual.ensures.1 in
    rw (p.1, p.2) (on_refused _ (λ none. no_cluster _ c.requires (λ options asks. none asks.accepts))
    (c.in_err-matches.ensures cluster_app cluster_is_simple c.cluster_command.ensures))

pub returns-in_err-nodes-clause-refused : goal.returns-in_err-nodes-clause-refused
returns-in_err-nodes-clause-refused c =
    let p = err_from_is_err_and c.from_residual-in_err-nodes.result c.from_residual-in_err-nodes.ensures.1 in
    let read = c.in_ok-matches.ensures cluster_app cluster_is_simple c.cluster_command.ensures in
    rw (p.1, p.2) (on_refused _ (λ none. no_cluster _ c.requires
    (λ options asks. none options.nodes (rw read.1 asks.finds_nodes))) c.in_err-nodes.ensures.refused)

pub returns-in_err-domain-clause-refused : goal.returns-in_err-domain-clause-refused
returns-in_err-domain-clause-refused c =
    let p = err_from_is_err_and c.from_residual-in_err-domain.result c.from_residual-in_err-domain.ensures.1 in
    let read = c.in_ok-matches.ensures cluster_app cluster_is_simple c.cluster_command.ensures in
    rw (p.1, p.2) (on_refused _ (λ none. no_cluster _ c.requires
    (λ options asks. none options.domain (rw read.1 asks.finds))) c.in_err-domain.ensures.refused)

pub returns-in_err-port-clause-refused : goal.returns-in_err-port-clause-refused
returns-in_err-port-clause-refused c =
    let p = err_from_is_err_and c.from_residual-in_err-port.result c.from_residual-in_err-port.ensures.1 in
    let read = c.in_ok-matches.ensures cluster_app cluster_is_simple c.cluster_command.ensures in
    rw (p.1, p.2) (on_refused _ (λ none. no_cluster _ c.requires
    (λ options asks. none options.port (rw read.1 asks.finds_port))) c.in_err-port.ensures.refused)

pub returns-in_err-epoch_places-clause-refused : goal.returns-in_err-epoch_places-clause-refused
returns-in_err-epoch_places-clause-refused c =
    let p = err_from_is_err_and c.from_residual-in_err-epoch_places.result
    c.from_residual-in_err-epoch_places.ensures.1 in
    let read = c.in_ok-matches.ensures cluster_app cluster_is_simple c.cluster_command.ensures in
    rw (p.1, p.2) (on_refused _ (λ none. no_cluster _ c.requires
    (λ options asks. none options.epoch_places (rw read.1 asks.finds_epoch_places)))
    c.in_err-epoch_places.ensures.refused)

pub returns-clause-asked : goal.returns-clause-asked
returns-clause-asked c =
    let read = c.in_ok-matches.ensures cluster_app cluster_is_simple c.cluster_command.ensures in
    record {
      first = c.requires;
      accepts = read.0;
      finds_nodes = rw (← read.1) c.in_ok-nodes.ensures.found;
      finds = rw (← read.1) c.in_ok-domain.ensures.found;
      finds_port = rw (← read.1) c.in_ok-port.ensures.found;
      finds_epoch_places = rw (← read.1) c.in_ok-epoch_places.ensures.found;
    }
