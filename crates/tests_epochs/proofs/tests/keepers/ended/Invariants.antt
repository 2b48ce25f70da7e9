use Rattle.tests_epochs.proofs.tests.keepers.ended.Given as goal

-- the board has its own history, and the domain
abbrev pub ghosts-end_named : goal.ghosts-end_named
ghosts-end_named g a = record { book = a.history.seen.book; domain = a.domain }
