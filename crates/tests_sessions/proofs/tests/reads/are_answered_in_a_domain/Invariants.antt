use Rattle.tests_sessions.proofs.tests.reads.are_answered_in_a_domain.Given as goal

-- the board has its own history, and the domain
abbrev pub ghosts-are_answered_until_the_end : goal.ghosts-are_answered_until_the_end
ghosts-are_answered_until_the_end g a = record { book = a.history.seen.book; domain = a.domain.now }
