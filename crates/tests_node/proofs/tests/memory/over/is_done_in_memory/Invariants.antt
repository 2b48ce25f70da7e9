use Rattle.tests_node.proofs.tests.memory.over.is_done_in_memory.Given as goal

-- the board has its own history, and the domain
abbrev pub ghosts-is_done-A-BoardName : goal.ghosts-is_done-A-BoardName
ghosts-is_done-A-BoardName g a = record { book = a.histories.0.seen.book; domain = a.domain.now }

abbrev pub ghosts-is_done-B-BoardName : goal.ghosts-is_done-B-BoardName
ghosts-is_done-B-BoardName g a = record { book = a.histories.1.seen.book; domain = a.domain.now }
