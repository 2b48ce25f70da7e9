use Rattle.tests_node.proofs.tests.keepers.end_of.Given as goal

-- the board has its own history, and the domain
abbrev pub ghosts-keep_on_disks : goal.ghosts-keep_on_disks
ghosts-keep_on_disks g a = record { book = a.history.seen.book; domain = a.domain.now }
