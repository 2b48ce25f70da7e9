use Rattle.tests_epochs.proofs.tests.replicas.start.Goals as goal

pub start-requires-clause-past : goal.start-requires-clause-past
start-requires-clause-past c = (c.in-Ok.ensures.past.0, c.in-Ok.ensures.past.1)
