use Rattle.tests_sessions.proofs.tests.browsers.end_in_a_domain.Given as goal

-- the board has its own history, and the domain
abbrev pub ghosts-end_over_a_board : goal.ghosts-end_over_a_board
ghosts-end_over_a_board g a = record { book = a.history.seen.book; domain = a.domain.now }
