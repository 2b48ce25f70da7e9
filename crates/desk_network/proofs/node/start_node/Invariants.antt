use Rattle.desk_network.proofs.node.start_node.Given as goal

-- the board of the node has the history and the domain that it is started with
abbrev pub ghosts-start_named : goal.ghosts-start_named
ghosts-start_named g a = record { book = a.history.seen.book; domain = a.start.owner.domain }
