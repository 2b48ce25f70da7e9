use Rattle.tests_epochs.proofs.tests.opening.open_over.Given as goal

-- the board has its own history, and the domain
abbrev pub ghosts-open_named : goal.ghosts-open_named
ghosts-open_named g a = record { book = a.history.seen.book; domain = a.domain }
