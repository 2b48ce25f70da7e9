use Rattle.tests_sessions.proofs.tests.group.run.Given as goal

-- each board has its own history, and the domain
abbrev pub ghosts-run_named-A-BoardName : goal.ghosts-run_named-A-BoardName
ghosts-run_named-A-BoardName g a = record { book = a.histories.zero.seen.book; domain = a.domain.now }

abbrev pub ghosts-run_named-B-BoardName : goal.ghosts-run_named-B-BoardName
ghosts-run_named-B-BoardName g a = record { book = a.histories.one.seen.book; domain = a.domain.now }

abbrev pub ghosts-run_named-C-BoardName : goal.ghosts-run_named-C-BoardName
ghosts-run_named-C-BoardName g a = record { book = a.histories.two.seen.book; domain = a.domain.now }
