use Rattle.tests_node.proofs.tests.turns.is_told_later.Given as goal

-- the board has its own history, and the domain
abbrev pub ghosts-do_named : goal.ghosts-do_named
ghosts-do_named g a = record { book = a.history.seen.book; domain = a.domain.now }
