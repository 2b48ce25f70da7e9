use Rattle.tests_node.proofs.tests.memory.gathering.is_gathered.Given as goal

-- the board has its own history, and the domain
abbrev pub ghosts-is_keeper_gathered : goal.ghosts-is_keeper_gathered
ghosts-is_keeper_gathered g a = record { book = a.history.seen.book; domain = a.domain.now }
